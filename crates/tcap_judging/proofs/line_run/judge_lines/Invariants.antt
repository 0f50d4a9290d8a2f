use Rattle.std.proofs.Common.{◌≡◌, ◌≤◌, ◌+◌, ◌*◌, length}
use Rattle.tcap_judging.proofs.Going.{IsGoing}
use Rattle.tcap_judging.specs.Entry.{LinesTell}
use Rattle.tcap_judging.specs.LineViews.{IsUnderWay}
use Rattle.tcap_judging.specs.NameViews.{form_view}
use Rattle.tcap_judging.proofs.line_run.judge_lines.Given as goal

-- what was read and written so far, and the line that is under way
abbrev pub invariant-loop : goal.invariant-loop
invariant-loop g l =
    (going : IsGoing (form_view l.fn.form) (LinesTell l.naming) (g.R.Read.remaining l.initial.reader) (g.R.Read.remaining l.reader) (g.W.Write.contents l.initial.writer) (g.W.Write.contents l.writer) l.good l.counter)
    × IsUnderWay going.tells.rest l.begun.kept.items l.begun.is_long
    × (l.begun.number ≡ length going.tells.lines + 1)
    × (l.begun.number ≤ 1 + l.counter * 4096)
