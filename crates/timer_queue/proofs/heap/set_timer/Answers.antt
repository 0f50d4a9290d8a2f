use Rattle.std.proofs.lemmas.List.{length-set}
use Rattle.timer_queue.proofs.ChangeLemmas.{but-set}
use Rattle.timer_queue.proofs.heap.set_timer.Goals as goal

pub sift-requires-clause-but : goal.sift-requires-clause-but
sift-requires-clause-but c =
    rw (length-set c.args.timers.now c.args.item c.args.timer) (but-set c.args.heap.now c.args.places.now c.args.timers.now c.args.item c.args.timer c.requires.sound c.requires.item)
