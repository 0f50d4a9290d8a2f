use Rattle.tcap_engine.specs.Limits.{empty_history}
use Rattle.tcap_living.proofs.Goings.{IsGoing}
use Rattle.tcap_living.proofs.run.run_live.Given as goal

-- what was read and written so far
abbrev pub invariant-loop : goal.invariant-loop
invariant-loop g l =
    IsGoing l.fn.format (empty_history l.fn.limits l.fn.first_dialogue l.fn.first_number) (g.R.Read.remaining l.initial.reader) (g.R.Read.remaining l.reader) (g.W.Write.contents l.initial.writer) (g.W.Write.contents l.writer) l.session l.counter
