use Rattle.std.proofs.Common.{◌≡◌, ◌+◌, length}
use Rattle.std.specs.Prelude.{string_bytes}
use Rattle.tcap_judging.proofs.StreamCuts.{IsSoFar}
use Rattle.tcap_judging.specs.NameViews.{form_view}
use Rattle.tcap_judging.proofs.stream_cut.add_messages.Given as goal

-- the messages so far, and what is left
abbrev pub invariant-loop-element : goal.invariant-loop-element
invariant-loop-element g l =
    (l.place + length l.rest ≡ l.fn.offset + length l.fn.octets)
    × IsSoFar (form_view l.fn.form) l.fn.octets l.rest l.fn.offset l.place (string_bytes l.fn.text) (string_bytes l.text) l.good

abbrev pub decreases-loop-element : goal.decreases-loop-element
decreases-loop-element g l = length l.rest
