use Rattle.std.proofs.Common.{◌≡◌}
use Rattle.tcap_play.specs.Pieces.{left, pieces_left}
use Rattle.tcap_stories.specs.Story.{plays_any}
use Rattle.tcap_stories.proofs.story.plays_any.Given as goal

-- whether one is played is whether one of those that are left is
abbrev pub invariant-loop-rest : goal.invariant-loop-rest
invariant-loop-rest l = plays_any (pieces_left 10 l.rest) ≡ plays_any (pieces_left 10 l.fn.rest)

abbrev pub decreases-loop-rest : goal.decreases-loop-rest
decreases-loop-rest l = left l.rest
