use Rattle.std.proofs.Common.{◌≡◌, ◌+◌, false, length}
use Rattle.std.specs.Prelude.{string_bytes}
use Rattle.tcap_judging.specs.ResyncSteps.{AddsSteps, left_at, offset_at}
use Rattle.tcap_judging.specs.NameViews.{form_view}
use Rattle.tcap_judging.proofs.resync.advance.Given as goal

-- the steps so far
abbrev pub invariant-loop-next : goal.invariant-loop-next
invariant-loop-next g l =
    AddsSteps (form_view l.fn.form) l.fn.ends l.fn.place l.fn.octets l.place l.rest false (string_bytes l.fn.text) (string_bytes l.text) l.good
    × (offset_at l.place + length l.rest ≡ offset_at l.fn.place + length l.fn.octets)

abbrev pub decreases-loop-next : goal.decreases-loop-next
decreases-loop-next g l = left_at l.place (length l.rest)
