-- Whether a component comes into a queue.
use Rattle.std.proofs.Common.{◌≡◌, ℕ, ◌+◌, Bool, true, false, nat_le, nat_lt, List, length, Option, Some, None, refl, sym, ap, ◌∙◌, arith, if◌then◌else◌}
use Rattle.std.proofs.lemmas.Bool.{ltb-true}
use Rattle.std.proofs.lemmas.Bool.Decides.{nat_tests}
use Rattle.ber_core.proofs.CallerLemmas.{some_is}
use Rattle.ber_core.specs.Length.{length_limit}
use Rattle.tcap_component.specs.Component.{ComponentParts}
use Rattle.tcap_component.specs.Written.{coded_part, has_code, has_parameter, written_component, write_fault}
use Rattle.tcap_component.specs.declared.fault.WriteFault.{WriteFault}
use Rattle.tcap_component.specs.declared.fault.WriteFault.TheVariants.{TooLong, BadParameter, BadOid}
use Rattle.tcap_model.specs.Procedures.QueueRules.{Queued, queue_limit, fits, queued}
use Rattle.tcap_model.specs.Words.Fault.{Fault}
use Rattle.tcap_primitives.specs.declared.queue.Part.{Part}
use Rattle.tcap_primitives.specs.QueueRefusals.{written_fault, queue_fault}
use Rattle.tcap_primitives.specs.Parts.{total}
use Rattle.tcap_primitives.specs.QueueViews.{cut}
use Rattle.tcap_primitives.proofs.CutLemmas.{cut-joined}

-- Whether a component of a known length fits.
pub room-fits : (parts : List Part) (all : List ℕ) (c : Queued) (held len : ℕ) → total parts ≡ length all → held ≡ length all → len ≡ length c.octets →
    nat_le (held + len) queue_limit ≡ fits queue_limit (cut parts all) c
room-fits parts all c held len whole holds is = rw (cut-joined parts all whole, holds, is) refl

-- A component above the limit of a length is above that of the queue.
long-full : (queue : List Queued) (c : Queued) → nat_lt length_limit (length c.octets) ≡ true → fits queue_limit queue c ≡ false
long-full queue c e = let above = ltb-true length_limit (length c.octets) e in grind (arith, nat_tests)

-- The tests of a component that is written, and of one that is queued, in their order.
abbrev written_by : (code parameter long : Bool) → Option WriteFault
written_by code parameter long = if code then (if parameter then (if long then Some TooLong else None) else Some BadParameter) else Some BadOid

abbrev queued_by : (code parameter room : Bool) → Option Fault
queued_by code parameter room = if code then (if parameter then (if room then None else Some Fault.too_long) else Some Fault.bad_parameter) else Some Fault.bad_oid

same_fault : (f g : WriteFault) → Some f ≡ Some g → Some (written_fault f) ≡ Some (written_fault g)
same_fault f g e = ap (λ (x : WriteFault). Some (written_fault x)) (some_is f g e)

refused_by : (code parameter long room : Bool) (f : WriteFault) → (long ≡ true → room ≡ false) → Some f ≡ written_by code parameter long → Some (written_fault f) ≡ queued_by code parameter room
refused_by true true true room f full e = rw (full refl) (same_fault f TooLong e)
refused_by true true false room f full e = absurd cc
refused_by true false long room f full e = same_fault f BadParameter e
refused_by false parameter long room f full e = same_fault f BadOid e

room_by : (code parameter long room : Bool) → None ≡ written_by code parameter long → queued_by code parameter room ≡ (if room then None else Some Fault.too_long)
room_by true true true room e = absurd cc
room_by true true false room e = refl
room_by true false long room e = absurd cc
room_by false parameter long room e = absurd cc

-- A component that can't be written isn't queued.
pub refused-component : (queue : List Queued) (c : ComponentParts) (f : WriteFault) → Some f ≡ write_fault c → Some (written_fault f) ≡ queue_fault queue c
unfolding write_fault
refused-component queue c f e =
    refused_by (has_code (coded_part c)) (has_parameter (coded_part c)) (nat_lt length_limit (length (written_component c))) (fits queue_limit queue (queued None c)) f (long-full queue (queued None c)) e

-- One that can be written is queued where it fits.
pub room-component : (queue : List Queued) (c : ComponentParts) → None ≡ write_fault c → queue_fault queue c ≡ (if fits queue_limit queue (queued None c) then None else Some Fault.too_long)
unfolding write_fault
room-component queue c e =
    room_by (has_code (coded_part c)) (has_parameter (coded_part c)) (nat_lt length_limit (length (written_component c))) (fits queue_limit queue (queued None c)) e

-- One that can be written is queued or too long, by its length.
pub room-tested : (parts : List Part) (all : List ℕ) (c : ComponentParts) (held len : ℕ) (room : Bool) → total parts ≡ length all → held ≡ length all → len ≡ length (written_component c) → write_fault c ≡ None → nat_le (held + len) queue_limit ≡ room →
    queue_fault (cut parts all) c ≡ (if room then None else Some Fault.too_long)
room-tested parts all c held len room whole holds is e test =
    room-component (cut parts all) c (sym e) ∙ ap (λ (b : Bool). let none : Option Fault = None in if b then none else Some Fault.too_long) (sym (room-fits parts all (queued None c) held len whole holds is) ∙ test)
