use Rattle.timer_queue.specs.Heap.{place_of}
use Rattle.timer_queue.proofs.queue.TimerQueue.first.Goals as goal

pub first_item-requires-clause-listed : goal.first_item-requires-clause-listed
first_item-requires-clause-listed g c =
    let t = c.self.invariant.tied in
    rw (c.deref.ensures.value, c.deref-2.ensures.value) (λ item lt. (place_of c.self.inside.places.items item, t.listed item lt, t.found item lt))
