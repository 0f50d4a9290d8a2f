use Rattle.std.proofs.Common.{arith, ◌∙◌, ◌+◌, drop}
use Rattle.ber_core.proofs.Octets.{number_after-drop, number_at-large, number_at-done}
use Rattle.ber_core.proofs.head.number.Goals as goal

pub returns-then-value-gt-MAX_LENGTH : goal.returns-then-value-gt-MAX_LENGTH
returns-then-value-gt-MAX_LENGTH c = number_at-large _ c.args.octets.now (drop (c.loop-octet.octet-index + 1) c.args.octets.now) (number_after-drop _ _ _ c.loop-octet-test.true ∙ c.loop-octet.invariant.1) (omega arith)

pub loop-octet-preserved : goal.loop-octet-preserved
loop-octet-preserved c = (omega arith, number_after-drop _ _ _ c.loop-octet-test.true ∙ c.loop-octet.invariant.1)

pub returns : goal.returns
returns c = number_at-done _ _ c.args.octets.now c.loop-octet.invariant.1 c.loop-octet-test.false c.loop-octet.invariant.0
