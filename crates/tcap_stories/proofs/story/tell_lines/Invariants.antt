use Rattle.std.proofs.Common.{◌≡◌, ◌+◌, ◌≤◌, true}
use Rattle.tcap_play.specs.EnginesView.{StandAt}
use Rattle.tcap_play.specs.Pieces.{left, pieces_left}
use Rattle.tcap_play.specs.Play.{Played}
use Rattle.tcap_stories.specs.Comparing.{and_then}
use Rattle.tcap_stories.specs.Views.{so_far, told_at, told_on}
use Rattle.tcap_stories.proofs.story.tell_lines.Given as goal

-- what was told, and what is told from the next line on, is all
abbrev pub invariant-loop-rest : goal.invariant-loop-rest
invariant-loop-rest g l =
    ((p : Played) → StandAt p l.fn.engines → (q : Played) × StandAt q l.engines
    × (and_then (so_far l.fn.text.items true) (told_at l.opening p) ≡ told_on l.text.items l.good l.comparing (l.number + 1) q (pieces_left 10 l.rest)))
    × (l.number + left l.rest ≤ 18446744073709551615)

abbrev pub decreases-loop-rest : goal.decreases-loop-rest
decreases-loop-rest g l = left l.rest
