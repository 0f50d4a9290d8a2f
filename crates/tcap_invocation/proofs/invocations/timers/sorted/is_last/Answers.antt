use Rattle.std.proofs.Common.{◌≡◌, ◌-◌, rules, tests, true, length, slice_index_or}
use Rattle.tcap_invocation.specs.TimerList.{is_earlier}
use Rattle.tcap_invocation.proofs.TimerLemmas.{put-last}
use Rattle.tcap_invocation.proofs.invocations.timers.sorted.is_last.Goals as goal

pub returns-in-Some : goal.returns-in-Some
returns-in-Some g c = λ yes.
    let early : is_earlier c.in-Some.last.now c.args.timer ≡ true = search (rules, tests, yes) in
    let is : c.in-Some.last.now ≡ slice_index_or c.args.timers.now.items (length c.args.timers.now.items - 1) c.in-Some.last.now = search rules in
    put-last c.args.timer c.in-Some.last.now c.args.timers.now.items c.requires is early
