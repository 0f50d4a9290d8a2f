use Rattle.std.proofs.Common.{◌≡◌, ◌≤◌, length}
use Rattle.tcap_explain.specs.Explaining.{left_of}
use Rattle.tcap_explain.proofs.by_verdict.skip_components.Given as goal

abbrev pub invariant-loop-rest : goal.invariant-loop-rest
invariant-loop-rest l = (length l.rest ≤ length l.content) × (left_of l.rest ≡ left_of l.content)

abbrev pub decreases-loop-rest : goal.decreases-loop-rest
decreases-loop-rest l = length l.rest
