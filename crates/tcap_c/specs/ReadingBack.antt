-- How a program reads an output back from the struct and the room.
use Rattle.std.specs.Prelude.{◌≡◌, ℕ, ℤ, ◌-◌, ◌==◌, Bool, true, false, nat_lt, List, take, drop, Option, Some, None, if◌then◌else◌}
use Rattle.std.specs.Ordering.{int_eq}
use Rattle.tcap_component.specs.Component.{CodeParts, BodyParts}
use Rattle.tcap_component.specs.Problem.{ProblemParts}
use Rattle.tcap_component.specs.declared.problem.Kind.TheVariants as problem
use Rattle.tcap_pdu.specs.DialogueSpelling.{PduValue, Source}
use Rattle.tcap_model.specs.Words.Output.{Output, AbortCause, Closing, ComponentIndication, DialogueIndication, DropCause, Rejector}
use Rattle.tcap_station.specs.WaitingOutput.{WaitingOutput}
use Rattle.tcap_c.specs.Numbers.{no_id}
use Rattle.tcap_c.specs.Parts.{Parts}
use Rattle.tcap_c.specs.Shows.{Shows}
use Rattle.tcap_c.specs.declared.output_numbers.OutputNumbers.{OutputNumbers}
use Rattle.tcap_c.specs.declared.output_numbers.PartPlace.{PartPlace}

-- A part, by its place in the room (own).
abbrev pub part_in : PartPlace → List ℕ → List ℕ
part_in place room = take place.len (drop place.at room)

-- The parts in the room, by their places (own).
abbrev pub parts_in : OutputNumbers → List ℕ → Parts
parts_in n room = record {
  address = part_in n.address room;
  message = part_in n.message room;
  context = part_in n.context room;
  info = part_in n.info room;
  global = part_in n.global room;
  parameter = part_in n.parameter room;
}

-- A value where a flag says that there is one (own).
abbrev pub if_so : {T : Type 0} → Bool → T → Option T
if_so false x = None
if_so true x = Some x

-- An identifier, unless it is none (own).
abbrev pub id_in : ℤ → Option ℤ
id_in n = if int_eq n no_id then None else Some n

-- A code, by its kind (own).
abbrev pub code_in : OutputNumbers → Parts → CodeParts
code_in n p = if n.code_kind == 1 then CodeParts.local n.local else CodeParts.global p.global

-- A parameter, if there is one (own).
abbrev pub parameter_in : OutputNumbers → Parts → Option (List ℕ)
parameter_in n p = if_so n.has_parameter p.parameter

-- The body of a result, if there is a code (own).
abbrev pub body_in : OutputNumbers → Parts → Option BodyParts
body_in n p =
    if n.code_kind == 0 then None else Some (record { code = code_in n p; parameter = parameter_in n p })

-- A problem by its number (own).
abbrev pub problem_in : ℕ → ProblemParts
problem_in n =
    if nat_lt n 256 then record { kind = problem.General; code = n }
    else if nat_lt n 512 then record { kind = problem.Invoke; code = n - 256 }
    else if nat_lt n 768 then record { kind = problem.Result; code = n - 512 }
    else record { kind = problem.Error; code = n - 768 }

-- A cause by its number (own).
abbrev pub cause_in : ℕ → AbortCause
cause_in n =
    if nat_lt n 256 then AbortCause.cause n
    else if n == 256 then AbortCause.abnormal
    else if n == 257 then AbortCause.no_common
    else AbortCause.idle

-- Why a message is dropped, by its number (own).
abbrev pub drop_in : ℕ → DropCause
drop_in n =
    if n == 0 then DropCause.too_long
    else if n == 1 then DropCause.bad_message
    else if n == 2 then DropCause.no_dialogue
    else DropCause.bad_dialogue

-- A diagnostic by its number (own).
abbrev pub diagnostic_in : ℕ → Source
diagnostic_in n = if nat_lt n 256 then Source.user n else Source.provider (n - 256)

-- A dialogue PDU, if there is one (own).
abbrev pub pdu_in : OutputNumbers → Parts → Option PduValue
pdu_in n p =
    if n.pdu == 0 then None
    else if n.pdu == 1 then Some (PduValue.aarq n.is_version1 p.context p.info)
    else if n.pdu == 2 then Some (PduValue.audt n.is_version1 p.context p.info)
    else if n.pdu == 3 then
    Some (PduValue.aare n.is_version1 p.context n.is_accepted (diagnostic_in n.diagnostic) p.info)
    else if n.pdu == 4 then Some (PduValue.abrt n.is_by_provider p.info)
    else Some (PduValue.foreign p.info)

-- The closing of an invocation (own).
abbrev pub closed_in : OutputNumbers → Closing → ComponentIndication
closed_in n closing = ComponentIndication.closed n.dialogue n.number n.invoke_id closing

-- A Reject: it closes an invocation, or is another indication (own).
abbrev pub reject_in : Rejector → OutputNumbers → ComponentIndication → ComponentIndication
reject_in by n other = if n.closes then closed_in n (Closing.rejected (problem_in n.problem) by) else other

-- The dialogue of a component, if it isn't of a Unidirectional (own).
abbrev pub dialogue_if_any_in : OutputNumbers → Option ℕ
dialogue_if_any_in n = if_so n.has_dialogue n.dialogue

-- A Reject by the component sublayer here that closes no invocation (own).
abbrev pub local_in : OutputNumbers → ComponentIndication
local_in n =
    ComponentIndication.local_reject (dialogue_if_any_in n) (id_in n.invoke_id) (problem_in n.problem)

-- A Reject from the peer that closes no invocation (own).
abbrev pub remote_in : Rejector → OutputNumbers → ComponentIndication
remote_in by n =
    ComponentIndication.remote_reject (dialogue_if_any_in n) (id_in n.invoke_id) (problem_in n.problem) by

-- TC-INVOKE (own).
abbrev pub invoked_in : OutputNumbers → Parts → ComponentIndication
invoked_in n p =
    ComponentIndication.invoked (dialogue_if_any_in n) n.invoke_id (id_in n.linked_id) (code_in n p) (parameter_in n p)

-- An indication of component handling, by its kind, 8 to 16 and from 18 on (own).
abbrev pub component_in : OutputNumbers → Parts → ComponentIndication
component_in n p =
    if n.kind == 8 then invoked_in n p
    else if n.kind == 9 then closed_in n (Closing.result_last (body_in n p))
    else if n.kind == 10 then ComponentIndication.result_more n.dialogue n.number n.invoke_id (body_in n p)
    else if n.kind == 11 then closed_in n (Closing.error_back (code_in n p) (parameter_in n p))
    else if n.kind == 12 then closed_in n Closing.lapsed
    else if n.kind == 13 then closed_in n Closing.ended
    else if n.kind == 14 then reject_in Rejector.local n (local_in n)
    else if n.kind == 15 then reject_in Rejector.remote_provider n (remote_in Rejector.remote_provider n)
    else if n.kind == 16 then reject_in Rejector.remote_user n (remote_in Rejector.remote_user n)
    else if n.kind == 18 then remote_in Rejector.local n
    else closed_in n Closing.given_up

-- An indication of dialogue handling, by its kind, 2 to 7 (own).
abbrev pub dialogue_in : OutputNumbers → Parts → DialogueIndication
dialogue_in n p =
    if n.kind == 2 then DialogueIndication.uni (if_so n.has_context p.context) p.info
    else if n.kind == 3 then DialogueIndication.begin n.dialogue (if_so n.has_context p.context) p.info
    else if n.kind == 4 then DialogueIndication.go_on n.dialogue (if_so n.has_context p.context) p.info
    else if n.kind == 5 then DialogueIndication.end n.dialogue (if_so n.has_context p.context) p.info
    else if n.kind == 6 then DialogueIndication.u_abort n.dialogue (pdu_in n p)
    else DialogueIndication.p_abort n.dialogue (cause_in n.cause)

-- An output, by its kind (own).
abbrev pub output_in : OutputNumbers → Parts → Output
output_in n p =
    if n.kind == 1 then Output.send p.address p.message
    else if nat_lt n.kind 8 then Output.dialogue (dialogue_in n p)
    else if n.kind == 17 then Output.dropped (drop_in n.cause)
    else Output.component (component_in n p)

-- An output that waits, as a program reads it back (own).
abbrev pub waiting_in : OutputNumbers → List ℕ → WaitingOutput
waiting_in n room =
    record { output = output_in n (parts_in n room); event = n.event; is_last = n.is_last }

-- What a struct and a room show is read back from them: it is all there (own).
abbrev pub IsReadBack : Type 0
IsReadBack = (w : WaitingOutput) (n : OutputNumbers) (room : List ℕ) → Shows w n room → waiting_in n room ≡ w

-- So a struct and a room show no more than one output that waits (own).
abbrev pub IsOneOutput : Type 0
IsOneOutput = (w w' : WaitingOutput) (n : OutputNumbers) (room : List ℕ) → Shows w n room → Shows w' n room → w ≡ w'
