use Rattle.std.proofs.Common.{◌≡◌, true, rules}
use Rattle.timer_queue.specs.Order.{comes_before}
use Rattle.timer_queue.specs.Heap.{key_at}
use Rattle.timer_queue.proofs.SiftLemmas.{below-before}
use Rattle.timer_queue.proofs.heap.sift.Goals as goal

pub sift_up-requires-clause-below : goal.sift_up-requires-clause-below
sift_up-requires-clause-below c =
    let key = key_at c.args.timers.now c.args.heap.now in
    let before : comes_before (key c.args.at) (key c.parent_of.result) ≡ true = search rules in
    below-before key _ _ _ c.requires.but c.parent_of.ensures.parent before
