use Rattle.std.proofs.Common.{ap, length, List, ◌∙◌}
use Rattle.std.specs.Prelude.{filter_map}
use Rattle.tcap_invocation.specs.declared.invocations.timers.Timer.{Timer}
use Rattle.tcap_invocation.specs.TimerList.{told_of_timer}
use Rattle.tcap_invocation.proofs.TimelyLemmas.{due_at-timers}
use Rattle.tcap_invocation.proofs.invocations.indexed.Indexed.due_count.Goals as goal

pub returns : goal.returns
returns g c =
    rw (← c.self.view_is) (c.due_count.ensures ∙ ap (λ (ts : List Timer). length (filter_map (told_of_timer c.args.clock) ts)) c.self.invariant.1.timers ∙ due_at-timers c.args.clock c.self.inside.entries.entries)
