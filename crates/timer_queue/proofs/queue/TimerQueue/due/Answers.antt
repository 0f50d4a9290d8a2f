use Rattle.timer_queue.proofs.DueLemmas.{walk-due}
use Rattle.timer_queue.proofs.queue.TimerQueue.due.Goals as goal

pub returns : goal.returns
returns g c =
    let h = c.self.inside.heap.items in
    let t = c.self.inside.timers.items in
    rw (c.new.ensures, c.deref.ensures.value, c.deref-2.ensures.value, ← c.self.view_is) (walk-due c.args.moment h c.self.inside.places.items t c.self.invariant)
