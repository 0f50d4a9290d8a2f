use Rattle.std.proofs.Common.{drop, map}
use Rattle.tcap_text.proofs.StreamLines.{IsSoFar}
use Rattle.tcap_text.proofs.stream.write_verdicts.Given as goal

-- the lines so far, and the messages that are left
abbrev pub invariant-loop-message : goal.invariant-loop-message
invariant-loop-message g l =
    IsSoFar (map (λ m. m.items) l.messages) (map (λ m. m.items) (drop l.message-index l.messages)) (g.W.Write.contents l.fn.writer) (g.W.Write.contents l.writer) l.good
