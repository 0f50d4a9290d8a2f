use Rattle.std.proofs.Common.{◌≡◌, ◌+◌, ◌≤◌, string_bytes}
use Rattle.tcap_play.specs.Pieces.{left, pieces_left}
use Rattle.tcap_play.specs.Play.{Played, behind, printed_from}
use Rattle.tcap_play.specs.PlayViews.{IsAt}
use Rattle.tcap_play.proofs.play.play_lines.Given as goal

abbrev pub invariant-loop-rest : goal.invariant-loop-rest
invariant-loop-rest g l =
    ((p : Played) → IsAt p l.fn.a l.fn.b → (q : Played) × IsAt q l.a l.b
    × (behind (string_bytes l.fn.text) (printed_from (l.opening.passed + 1) p (pieces_left 10 l.opening.rest)) ≡ behind (string_bytes l.text) (printed_from (l.number + 1) q (pieces_left 10 l.rest))))
    × (l.number + left l.rest ≤ 18446744073709551615)

abbrev pub decreases-loop-rest : goal.decreases-loop-rest
decreases-loop-rest g l = left l.rest
