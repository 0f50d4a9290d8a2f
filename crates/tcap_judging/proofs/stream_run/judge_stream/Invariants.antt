use Rattle.std.proofs.Common.{◌≡◌, ◌≤◌, ◌+◌, ◌*◌, None, length}
use Rattle.tcap_judging.proofs.Going.{IsGoing}
use Rattle.tcap_judging.specs.Entry.{StreamTells, octets_in}
use Rattle.tcap_judging.specs.NameViews.{form_view}
use Rattle.tcap_judging.proofs.stream_run.judge_stream.Given as goal

-- what was read and written so far, and what is kept of the stream
abbrev pub invariant-loop : goal.invariant-loop
invariant-loop g l =
    (going : IsGoing (form_view l.fn.form) StreamTells (g.R.Read.remaining l.initial.reader) (g.R.Read.remaining l.reader) (g.W.Write.contents l.initial.writer) (g.W.Write.contents l.writer) l.good l.counter)
    × (going.tells.rest ≡ l.behind.kept.items)
    × (going.tells.fault ≡ None)
    × (l.behind.offset ≡ octets_in going.tells.messages)
    × (l.behind.offset + length l.behind.kept.items ≤ l.counter * 4096)
