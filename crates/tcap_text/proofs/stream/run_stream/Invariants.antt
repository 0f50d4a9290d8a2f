use Rattle.tcap_text.proofs.StreamGoing.{IsGoing}
use Rattle.tcap_text.proofs.stream.run_stream.Given as goal

-- what was read and written so far
abbrev pub invariant-loop : goal.invariant-loop
invariant-loop g l =
    IsGoing (g.R.Read.remaining l.initial.reader) (g.R.Read.remaining l.reader) (g.W.Write.contents l.initial.writer) (g.W.Write.contents l.writer) l.feed l.good l.counter
