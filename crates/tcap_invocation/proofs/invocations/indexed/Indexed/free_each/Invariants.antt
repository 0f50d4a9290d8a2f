use Rattle.std.proofs.Common.{◌≡◌, filter, length}
use Rattle.tcap_invocation.specs.Lapses.{is_held}
use Rattle.tcap_invocation.proofs.invocations.indexed.Indexed.free_each.Given as goal

abbrev pub invariant-loop : goal.invariant-loop
invariant-loop g l = filter (λ r. is_held l.clock r.1.stage) l.self ≡ filter (λ r. is_held l.clock r.1.stage) l.fn.self

abbrev pub decreases-loop : goal.decreases-loop
decreases-loop g l = length l.self
