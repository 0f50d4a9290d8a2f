use Rattle.std.proofs.Common.{◌∙◌, ap}
use Rattle.std.specs.List.{sum_by}
use Rattle.timer_queue.specs.Due.{due_left}
use Rattle.timed_table.proofs.DueLemmas.{due-sum}
use Rattle.timed_table.proofs.table.Table.due.Goals as goal

pub returns : goal.returns
returns g c =
    λ weight. rw (← c.self.view_is) (ap (sum_by weight) c.new.ensures ∙ due-sum weight c.args.moment c.self.inside.keys c.self.inside.values c.self.inside.timers c.self.invariant.tied (due_left c.due.result) c.due.ensures)
