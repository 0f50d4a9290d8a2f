use Rattle.ber_core.proofs.ScannerSteps.{outer-none}
use Rattle.ber_core.proofs.scanner.octet.behind_element.Goals as goal

pub returns-then-nested-eq0 : goal.returns-then-nested-eq0
returns-then-nested-eq0 c = λ rest. outer-none c.args.nested rest c.if-nested-eq0.true
