use Rattle.std.proofs.Common.{arith, tests, ◌∙◌, ◌+◌, ◌*◌, ◌≤◌, length}
use Rattle.timer_queue.specs.Due.{is_due_place}
use Rattle.timer_queue.proofs.WalkLemmas.{due-within, below-left, below-none}
use Rattle.timer_queue.proofs.due.next_place.Goals as goal

pub returns-then-place-heap : goal.returns-then-place-heap
returns-then-place-heap c =
    let h = c.args.heap.now in
    let t = c.args.timers.now in
    c.place_or_later.ensures ∙ below-left (is_due_place c.args.moment h t) (length h) (due-within c.args.moment h t) c.args.place

pub returns-else-place-heap : goal.returns-else-place-heap
returns-else-place-heap c =
    let h = c.args.heap.now in
    let t = c.args.timers.now in
    let past : length h ≤ 2 * c.args.place + 1 = grind (arith, tests, c.if-place-heap.false) in
    c.later_place.ensures ∙ below-none (is_due_place c.args.moment h t) (length h) (due-within c.args.moment h t) c.args.place past
