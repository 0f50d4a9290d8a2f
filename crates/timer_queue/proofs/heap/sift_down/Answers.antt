use Rattle.std.proofs.Common.{◌≡◌, false, rules}
use Rattle.timer_queue.specs.Order.{comes_before}
use Rattle.timer_queue.specs.Heap.{key_at}
use Rattle.timer_queue.proofs.SiftLemmas.{fine-below, ordered-whole}
use Rattle.timer_queue.proofs.heap.sift_down.Goals as goal

pub returns-else-is_before-clause-ordered : goal.returns-else-is_before-clause-ordered
returns-else-is_before-clause-ordered c =
    let down = c.least_child-child.result in
    let key = key_at c.args.timers.now c.args.heap.now in
    let later : comes_before (key down) (key c.args.at) ≡ false = search rules in
    ordered-whole key _ _ c.requires.but c.requires.above (fine-below key _ _ down c.least_child-child.ensures.least later)
