use Rattle.timer_queue.proofs.due.+later_place.Given as goal

abbrev pub decreases-later_place : goal.decreases-later_place
decreases-later_place l = l.place
