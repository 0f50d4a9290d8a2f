use Rattle.std.proofs.Common.{rules, ◌≡◌, ◌∙◌, ap, None, Some}
use Rattle.timer_queue.specs.Order.{timer_at}
use Rattle.timer_queue.specs.Heap.{item_at}
use Rattle.timer_queue.proofs.ChangeLemmas.{none-first, some-first}
use Rattle.timer_queue.proofs.queue.first_item.Goals as goal

pub returns-in_err-timers : goal.returns-in_err-timers
returns-in_err-timers c =
    let at : item_at c.args.heap.now 0 ≡ c.in_ok-item.field-0.now = search rules in
    let none : timer_at c.args.timers.now (item_at c.args.heap.now 0) ≡ None = ap (timer_at c.args.timers.now) at ∙ c.in_err-timers.was in
    rw c.from_residual-in_err-timers.ensures (none-first c.args.heap.now c.args.timers.now c.requires.ordered c.requires.listed none)

pub returns : goal.returns
returns c =
    let at : item_at c.args.heap.now 0 ≡ c.in_ok-item.field-0.now = search rules in
    let some : timer_at c.args.timers.now (item_at c.args.heap.now 0) ≡ Some c.in_ok-timers.field-0 = ap (timer_at c.args.timers.now) at ∙ c.in_ok-timers.was in
    rw at at (some-first c.args.heap.now c.args.timers.now c.requires.ordered c.requires.listed c.in_ok-timers.field-0 some)
