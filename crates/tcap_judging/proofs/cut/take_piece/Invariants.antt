use Rattle.std.proofs.Common.{◌≤◌, ◌+◌, ℕ, List, length}
use Rattle.std.specs.Prelude.{string_bytes}
use Rattle.tcap_judging.proofs.LineCuts.{IsSoFar}
use Rattle.tcap_judging.specs.LineViews.{IsUnderWay}
use Rattle.tcap_judging.specs.NameViews.{form_view}
use Rattle.tcap_judging.proofs.cut.take_piece.Given as goal

-- the lines so far, and what is left of the piece
abbrev pub invariant-loop-line : goal.invariant-loop-line
invariant-loop-line g l =
    (l.begun.number + length l.rest ≤ l.fn.begun.number + length l.piece)
    × ((before : List ℕ) → IsUnderWay before l.fn.begun.kept.items l.fn.begun.is_long
    → IsSoFar (form_view l.fn.form) l.naming before l.piece l.rest l.fn.begun.number l.begun.kept.items l.begun.is_long l.begun.number (string_bytes l.fn.text) (string_bytes l.text) l.good)

abbrev pub decreases-loop-line : goal.decreases-loop-line
decreases-loop-line g l = length l.rest
