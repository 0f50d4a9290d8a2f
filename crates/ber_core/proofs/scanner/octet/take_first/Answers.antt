use Rattle.std.proofs.Common.{refl, sym, ◌∙◌}
use Rattle.ber_core.proofs.ScannerSteps.{element-zero, element-short_tag, element-long_tag}
use Rattle.ber_core.proofs.scanner.octet.take_first.Goals as goal

pub returns-then-octet-eq0 : goal.returns-then-octet-eq0
returns-then-octet-eq0 c = (refl, λ rest. rw c.if-octet-eq0.true (element-zero c.args.nested rest))

pub returns-then-octet-eq31 : goal.returns-then-octet-eq31
returns-then-octet-eq31 c = λ rest. c.due_at.ensures rest ∙ sym (element-long_tag c.args.nested c.args.octet rest c.if-octet-eq0.false c.if-octet-eq31.true)

pub returns : goal.returns
returns c = λ rest. c.due_at-2.ensures rest ∙ sym (element-short_tag c.args.nested c.args.octet rest c.if-octet-eq0.false c.if-octet-eq31.false)
