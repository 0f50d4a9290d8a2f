use Rattle.std.proofs.Common.{rules, ◌≡◌, true, length}
use Rattle.timer_queue.specs.Due.{is_due_place}
use Rattle.timer_queue.proofs.WalkLemmas.{due-within, from-true}
use Rattle.timer_queue.proofs.due.place_or_later.Goals as goal

pub returns-then-is_due_place : goal.returns-then-is_due_place
returns-then-is_due_place c =
    let h = c.args.heap.now in
    let t = c.args.timers.now in
    let e : is_due_place c.args.moment h t c.args.place ≡ true = search rules in
    from-true (is_due_place c.args.moment h t) (length h) (due-within c.args.moment h t) c.args.place e
