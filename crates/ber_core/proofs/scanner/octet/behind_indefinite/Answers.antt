use Rattle.std.proofs.Common.{◌∙◌}
use Rattle.ber_core.proofs.ScannerLengths.{body-nested}
use Rattle.ber_core.proofs.scanner.octet.behind_indefinite.Goals as goal

pub returns : goal.returns
returns c = λ rest. c.due_at.ensures rest ∙ body-nested c.args.nested rest c.if-nested-ge-MAX_DEPTH.false
