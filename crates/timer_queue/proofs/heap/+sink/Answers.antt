use Rattle.std.proofs.Common.{arith, ◌≢◌, ◌≡◌, ◌<◌, ℕ, List, false, length, set, subst, sym}
use Rattle.std.proofs.lemmas.List.{get_or-set_other, length-set}
use Rattle.timer_queue.specs.Heap.{IsChild, item_at, key_at, heap_with}
use Rattle.timer_queue.specs.Order.{comes_before}
use Rattle.timer_queue.proofs.HoleLemmas.{all-within, key-elsewhere, heap-moved, places-moved}
use Rattle.timer_queue.proofs.SiftLemmas.{child_past, but-down}
use Rattle.timer_queue.proofs.TieLemmas.{keys-swapped, tied-swapped}
use Rattle.timer_queue.proofs.heap.+sink.Goals as goal

pub sink-requires : goal.sink-requires
sink-requires t c =
    let heap : List ℕ = c.args.heap.now in
    let places : List ℕ = c.args.places.now in
    let timers = c.args.timers.now in
    let count : ℕ = length timers in
    let at : ℕ = c.args.at in
    let item : ℕ = c.args.item in
    let down : ℕ = c.least_child-child.result in
    let child = c.least_child-child.ensures.child in
    let there = c.least_child-child.ensures.there in
    let past = child_past down at child in
    let tied = c.requires.tied in
    let at_in = c.requires.at in
    let differ : at ≢ down = omega (arith, past) in
    let put : List ℕ = heap_with heap at item in
    let key = key_at timers put in
    let swapped = keys-swapped put at down (omega (arith, at_in, tied.as_many)) (omega (arith, there, tied.as_many)) differ timers in
    let is_heap = heap-moved heap places count at item at_in tied down there differ in
    let is_places = places-moved heap places count at item at_in tied down there differ in
    let least : (below : ℕ) → IsChild below at → below < count → comes_before (key below) (key down) ≡ false =
    λ below h lt. rw (
      key-elsewhere heap places count at item at_in tied timers below (λ e. let more = child_past below at h in omega (arith, more, e)),
      key-elsewhere heap places count at item at_in tied timers down (λ e. differ (sym e)),
    ) (c.least_child-child.ensures.least below h lt) in
    let hole : item_at (set heap at (item_at heap down)) down < count =
    subst (λ i. i < count) (sym (get_or-set_other heap at down (item_at heap down) 0 (λ e. differ (sym e))))
    (all-within heap places count at item at_in tied c.requires.hole down there) in
    let item_in : item < length (set places (item_at heap down) at) =
    let long = length-set places (item_at heap down) at in
    omega (arith, long, c.requires.item) in (
      omega (arith, past, there, c.decreases),
      (
        there,
        (
          hole,
          (
            item_in,
            (
              rw (is_heap, is_places) (tied-swapped _ _ count at down at_in there differ tied),
              rw is_heap (but-down key _ count at c.requires.but down child there swapped least),
            ),
          ),
        ),
      ),
    )
