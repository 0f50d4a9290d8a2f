use Rattle.std.proofs.Common.{◌≤◌, ◌+◌, List, ℕ}
use Rattle.tcap_model.specs.Histories.History.{History}
use Rattle.tcap_play.specs.Pieces.{left}
use Rattle.tcap_living.specs.Session.{HasAnswered}
use Rattle.tcap_living.proofs.Takings.{IsTaking}
use Rattle.tcap_living.proofs.session.Session.take.Given as goal

-- what was taken so far, and that the lines that are left can be numbered
abbrev pub invariant-loop-rest : goal.invariant-loop-rest
invariant-loop-rest g l =
    ((start : History) (answered : List (List ℕ)) → HasAnswered start answered l.fn.self
    → IsTaking l.format start answered l.fn.self.line.items l.piece l.rest l.self (g.W.Write.contents l.fn.writer) (g.W.Write.contents l.writer))
    × (l.self.number + left l.rest ≤ 18446744073709551615)

abbrev pub decreases-loop-rest : goal.decreases-loop-rest
decreases-loop-rest g l = left l.rest
