use Rattle.std.proofs.Common.{rules, tests, arith, ◌≡◌, false}
use Rattle.std.proofs.lemmas.List.Sorted.{IsPartitionPoint-from_clause}
use Rattle.tcap_invocation.specs.TimerList.{is_earlier}
use Rattle.tcap_invocation.proofs.TimerLemmas.{IsPartitionedBy-timer, none-earlier}
use Rattle.tcap_invocation.proofs.invocations.timers.sorted.place_of.Goals as goal

pub returns-clause-place : goal.returns-clause-place
returns-clause-place g c =
    IsPartitionPoint-from_clause (λ t. is_earlier t c.args.timer) c.args.timers.now.items c.partition_point.result c.partition_point.ensures.partitioned (IsPartitionedBy-timer c.args.timers.now.items c.args.timer c.requires) (λ a r f k. search (rules, tests))

pub returns-then-not-is_earlier-clause-place : goal.returns-then-not-is_earlier-clause-place
returns-then-not-is_earlier-clause-place g c =
    let late : is_earlier c.in-Some.first.now c.args.timer ≡ false = search (rules, tests) in
    (λ k d low high. absurd (omega (arith, high)), λ k d low high. none-earlier c.args.timers.now.items c.args.timer c.in-Some.first.now c.requires c.in-Some.ensures.lookup late k d high)
