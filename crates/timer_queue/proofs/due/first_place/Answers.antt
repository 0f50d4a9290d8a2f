use Rattle.std.proofs.Common.{rules, ◌≡◌, true, length}
use Rattle.timer_queue.specs.Due.{is_due_place}
use Rattle.timer_queue.proofs.WalkLemmas.{due-within, from-first}
use Rattle.timer_queue.proofs.due.first_place.Goals as goal

pub returns-then-is_due_place : goal.returns-then-is_due_place
returns-then-is_due_place c =
    let h = c.args.heap.now in
    let t = c.args.timers.now in
    let e : is_due_place c.args.moment h t 0 ≡ true = search rules in
    from-first (is_due_place c.args.moment h t) (length h) (due-within c.args.moment h t) e
