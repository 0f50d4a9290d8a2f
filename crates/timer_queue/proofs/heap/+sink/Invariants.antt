use Rattle.std.proofs.Common.{◌-◌, length}
use Rattle.timer_queue.proofs.heap.+sink.Given as goal

abbrev pub decreases-sink : goal.decreases-sink
decreases-sink l = length l.timers.now - l.at
