use Rattle.std.proofs.Common.{◌≤◌, ◌+◌, ◌*◌, length, true, false}
use Rattle.tcap_judging.proofs.Going.{IsGoing}
use Rattle.tcap_judging.specs.Resync.{ResyncTells}
use Rattle.tcap_judging.specs.ResyncSteps.{Leads, offset_at}
use Rattle.tcap_judging.specs.declared.place.Place.TheVariants.{Reading}
use Rattle.tcap_judging.specs.NameViews.{form_view}
use Rattle.tcap_judging.proofs.resync_run.judge_resynced.Given as goal

-- what was read and written so far, and where the run stands
abbrev pub invariant-loop : goal.invariant-loop
invariant-loop g l =
    (going : IsGoing (form_view l.fn.form) ResyncTells (g.R.Read.remaining l.initial.reader) (g.R.Read.remaining l.reader) (g.W.Write.contents l.initial.writer) (g.W.Write.contents l.writer) l.good l.counter)
    × Leads false (Reading 0) going.input going.entries l.left.place l.left.kept.items true
    × (offset_at l.left.place + length l.left.kept.items ≤ l.counter * 4096)
