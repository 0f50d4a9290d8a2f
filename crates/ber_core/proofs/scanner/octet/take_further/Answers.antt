use Rattle.std.proofs.Common.{refl, sym, ◌∙◌}
use Rattle.ber_core.proofs.ScannerSteps.{further-last, further-spent, further-more}
use Rattle.ber_core.proofs.scanner.octet.take_further.Goals as goal

pub returns-then-octet-lt128 : goal.returns-then-octet-lt128
returns-then-octet-lt128 c = λ rest. c.due_at.ensures rest ∙ sym (further-last c.args.constructed c.args.nested c.args.left c.args.octet rest c.requires.left c.if-octet-lt128.true)

pub returns-then-left-eq1 : goal.returns-then-left-eq1
returns-then-left-eq1 c = (refl, λ rest. further-spent c.args.constructed c.args.nested c.args.left c.args.octet rest c.if-left-eq1.true c.if-octet-lt128.false)

pub returns : goal.returns
returns c = λ rest. c.due_at-2.ensures rest ∙ sym (further-more c.args.constructed c.args.nested c.args.left c.args.octet rest c.requires.left c.if-octet-lt128.false)
