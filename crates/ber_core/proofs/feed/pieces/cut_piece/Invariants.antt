use Rattle.std.proofs.Common.{map, length}
use Rattle.ber_core.proofs.PieceSteps.{IsTold}
use Rattle.ber_core.proofs.feed.pieces.cut_piece.Given as goal

abbrev pub invariant-loop-begun : goal.invariant-loop-begun
invariant-loop-begun g l = IsTold l.fn.begun l.fn.piece (map (λ m. m.items) l.messages.items) l.scanner l.begun l.rest

abbrev pub decreases-loop-begun : goal.decreases-loop-begun
decreases-loop-begun g l = length l.rest
