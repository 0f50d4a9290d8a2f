use Rattle.std.proofs.Common.{◌≡◌, ◌+◌, ◌≤◌, length}
use Rattle.tcap_play.specs.Opening.{opening_from, opening_of}
use Rattle.tcap_play.specs.Pieces.{left, pieces_left}
use Rattle.tcap_play.proofs.opening.opening_of.Given as goal

abbrev pub invariant-loop-rest : goal.invariant-loop-rest
invariant-loop-rest g l =
    (opening_of l.script ≡ opening_from l.passed (pieces_left 10 l.rest)) × (l.passed + left l.rest ≤ length l.script + 1)

abbrev pub decreases-loop-rest : goal.decreases-loop-rest
decreases-loop-rest g l = left l.rest
