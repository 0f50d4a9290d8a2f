use Rattle.std.proofs.Common.{rules, ◌≡◌, ◌∙◌, insert}
use Rattle.tcap_invocation.specs.TimerList.{is_earlier}
use Rattle.tcap_invocation.proofs.SortLemmas.{insert-put}
use Rattle.tcap_invocation.proofs.invocations.timers.sorted.put.Goals as goal

pub returns-clause-timers : goal.returns-clause-timers
returns-clause-timers g c =
    let new : c.insert.new.self.items ≡ insert c.args.timers.now.items c.place_of-at.result c.args.timer = search rules in
    new ∙ insert-put is_earlier c.args.timers.now.items c.args.timer c.place_of-at.result (search rules) (search rules)
