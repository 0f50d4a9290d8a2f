use Rattle.std.proofs.Common.{arith, ◌≡◌, ◌≢◌, ◌<◌, true, length, rules}
use Rattle.timer_queue.specs.Order.{comes_before}
use Rattle.timer_queue.specs.Heap.{key_at}
use Rattle.timer_queue.proofs.SiftLemmas.{but-up, below-up}
use Rattle.timer_queue.proofs.TieLemmas.{keys-swapped, tied-swapped}
use Rattle.timer_queue.proofs.heap.+sift_up.Goals as goal

pub sift_up-requires : goal.sift_up-requires
sift_up-requires t c =
    let up = c.parent_of-parent.result in
    let at = c.args.at in
    let child = c.parent_of-parent.ensures.parent in
    let lower = c.parent_of-parent.ensures.lower in
    let tied = c.requires.tied in
    let key = key_at c.args.timers.now c.args.heap.now in
    let before : comes_before (key at) (key up) ≡ true = search rules in
    let differ : at ≢ up = omega (arith, lower) in
    let up_in : up < length c.args.timers.now = omega (arith, lower, c.requires.at) in
    let swapped = keys-swapped c.args.heap.now at up (omega (arith, c.requires.at, tied.as_many)) (omega (arith, up_in, tied.as_many)) differ c.args.timers.now in
    rw (c.swap_places.ensures.heap, c.swap_places.ensures.places) (
      omega (arith, lower, c.decreases),
      (
        up_in,
        (
          tied-swapped _ _ _ _ _ c.requires.at up_in differ tied,
          (
            but-up key _ _ _ c.requires.but up child c.requires.at swapped before c.requires.below,
            below-up key _ _ _ c.requires.but up child c.requires.at swapped before c.requires.below,
          ),
        ),
      ),
    )
