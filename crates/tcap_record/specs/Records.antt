-- The record of an event: its octets, and where octets are no record.
use Rattle.std.specs.Prelude.{◌≡◌, ℕ, ◌+◌, ◌^◌, ◌<◌, ◌≤◌, Bool, true, ◌&&◌, List, [], ◌∷◌, ◌++◌, length, take, Option, Some, None, IsTrue, nat_lt}
use Rattle.std.specs.List.{AllByRecursion, flat_map}
use Rattle.tcap_component.specs.Component.{CodeParts, BodyParts}
use Rattle.tcap_component.specs.Component.CodeParts.{local, global}
use Rattle.tcap_model.specs.Words.Event.{Event}
use Rattle.tcap_model.specs.Words.Event.Event.{new_dialogue, on_dialogue, received, moment}
use Rattle.tcap_model.specs.Words.InRange.{InRange}
use Rattle.tcap_model.specs.Words.Request.Request.{component, dialogue}
use Rattle.tcap_model.specs.Words.Request.ComponentRequest.{invoke, result_last, result_more, error_back, u_reject, u_cancel}
use Rattle.tcap_model.specs.Words.Request.DialogueRequest.{uni, begin, go_on, finish, u_abort}
use Rattle.tcap_record.specs.declared.kind.EventKind.{EventKind}
use Rattle.tcap_record.specs.declared.kind.EventKind.TheVariants as kind
use Rattle.tcap_record.specs.Parts.{short, long, identifier, octet_string, address, optional, code, body, class, problem, ending, reason}

-- The version of the layout: 1 (own).
abbrev pub version : ℕ
version = 1

-- The octet of each kind of event (own).
abbrev pub event_octet : EventKind → ℕ
event_octet kind.NewDialogue = 1
event_octet kind.Invoke = 2
event_octet kind.ResultLast = 3
event_octet kind.ResultMore = 4
event_octet kind.ErrorBack = 5
event_octet kind.Reject = 6
event_octet kind.Cancel = 7
event_octet kind.Uni = 8
event_octet kind.Begin = 9
event_octet kind.Continue = 10
event_octet kind.End = 11
event_octet kind.Abort = 12
event_octet kind.Bytes = 13
event_octet kind.Moment = 14

-- The kind of an event (own).
abbrev pub kind_of : Event → EventKind
kind_of new_dialogue = kind.NewDialogue
kind_of (on_dialogue d (component (invoke id class code parameter linked timeout))) = kind.Invoke
kind_of (on_dialogue d (component (result_last id body))) = kind.ResultLast
kind_of (on_dialogue d (component (result_more id body))) = kind.ResultMore
kind_of (on_dialogue d (component (error_back id code parameter))) = kind.ErrorBack
kind_of (on_dialogue d (component (u_reject id problem))) = kind.Reject
kind_of (on_dialogue d (component (u_cancel id))) = kind.Cancel
kind_of (on_dialogue d (dialogue (uni to context info))) = kind.Uni
kind_of (on_dialogue d (dialogue (begin to context info))) = kind.Begin
kind_of (on_dialogue d (dialogue (go_on context info))) = kind.Continue
kind_of (on_dialogue d (dialogue (finish how context info))) = kind.End
kind_of (on_dialogue d (dialogue (u_abort why info))) = kind.Abort
kind_of (received from bytes) = kind.Bytes
kind_of (moment now) = kind.Moment

-- The fields of an event, in order (own).
abbrev pub fields_of : Event → List ℕ
fields_of new_dialogue = []
fields_of (on_dialogue d (component (invoke id c op parameter linked timeout))) =
    short d ++ (identifier id ++ (class c ++ (code op
    ++ (optional octet_string parameter ++ (optional identifier linked ++ long timeout)))))
fields_of (on_dialogue d (component (result_last id given))) = short d ++ (identifier id ++ optional body given)
fields_of (on_dialogue d (component (result_more id given))) = short d ++ (identifier id ++ optional body given)
fields_of (on_dialogue d (component (error_back id c parameter))) =
    short d ++ (identifier id ++ (code c ++ optional octet_string parameter))
fields_of (on_dialogue d (component (u_reject id p))) = short d ++ (optional identifier id ++ problem p)
fields_of (on_dialogue d (component (u_cancel id))) = short d ++ identifier id
fields_of (on_dialogue d (dialogue (uni to context info))) =
    short d ++ (address to ++ (optional octet_string context ++ octet_string info))
fields_of (on_dialogue d (dialogue (begin to context info))) =
    short d ++ (address to ++ (optional octet_string context ++ octet_string info))
fields_of (on_dialogue d (dialogue (go_on context info))) =
    short d ++ (optional octet_string context ++ octet_string info)
fields_of (on_dialogue d (dialogue (finish how context info))) =
    short d ++ (ending how ++ (optional octet_string context ++ octet_string info))
fields_of (on_dialogue d (dialogue (u_abort why info))) = short d ++ (reason why ++ octet_string info)
fields_of (received from bytes) = address from ++ octet_string bytes
fields_of (moment now) = long now

-- The record of an event: the version, the octet of its kind, its fields (own).
abbrev pub record_of : Event → List ℕ
record_of event = version ∷ event_octet (kind_of event) ∷ fields_of event

-- The records of events, one after the other (own).
abbrev pub log_of : List Event → List ℕ
log_of events = flat_map record_of events

-- ---- which events have a record

-- Octets are fewer than 2^32 (own).
abbrev pub is_counted : List ℕ → Bool
is_counted octets = nat_lt (length octets) (2 ^ 32)

-- Octets are fewer than 2^32, where there are any (own).
abbrev pub is_counted_if_any : Option (List ℕ) → Bool
is_counted_if_any None = true
is_counted_if_any (Some octets) = is_counted octets

-- The octets of a code are fewer than 2^32 (own).
abbrev pub is_counted_code : CodeParts → Bool
is_counted_code (local number) = true
is_counted_code (global octets) = is_counted octets

-- The octets of a body's code and parameter are fewer than 2^32 each (own).
abbrev pub is_counted_body : Option BodyParts → Bool
is_counted_body None = true
is_counted_body (Some given) = is_counted_code given.code && is_counted_if_any given.parameter

-- The octets of each part of an event are fewer than 2^32 (own).
abbrev pub is_counted_event : Event → Bool
is_counted_event new_dialogue = true
is_counted_event (on_dialogue d (component (invoke id c op parameter linked timeout))) =
    is_counted_code op && is_counted_if_any parameter
is_counted_event (on_dialogue d (component (result_last id given))) = is_counted_body given
is_counted_event (on_dialogue d (component (result_more id given))) = is_counted_body given
is_counted_event (on_dialogue d (component (error_back id c parameter))) =
    is_counted_code c && is_counted_if_any parameter
is_counted_event (on_dialogue d (component (u_reject id p))) = true
is_counted_event (on_dialogue d (component (u_cancel id))) = true
is_counted_event (on_dialogue d (dialogue (uni to context info))) = is_counted_if_any context && is_counted info
is_counted_event (on_dialogue d (dialogue (begin to context info))) = is_counted_if_any context && is_counted info
is_counted_event (on_dialogue d (dialogue (go_on context info))) = is_counted_if_any context && is_counted info
is_counted_event (on_dialogue d (dialogue (finish how context info))) = is_counted_if_any context && is_counted info
is_counted_event (on_dialogue d (dialogue (u_abort why info))) = is_counted info
is_counted_event (received from bytes) = is_counted bytes
is_counted_event (moment now) = true

-- An event has a record: its numbers are those that its types hold, and each of its parts has fewer octets
-- than 2^32 (own).
pub record HasRecord (event : Event) : Type 0 where
  pub in_range : InRange event
  pub is_counted : IsTrue (is_counted_event event)

-- Each of the events has a record (own).
abbrev pub AllHaveRecords : List Event → Type 0
AllHaveRecords events = AllByRecursion HasRecord events

-- ---- where octets are no record

-- Octets begin the record of some event (own).
pub record Begins (front : List ℕ) : Type 0 where
  pub event : Event
  pub more : List ℕ
  pub has_record : HasRecord event
  pub is_record : record_of event ≡ front ++ more

-- The octets before a place begin a record; there they end, or an octet stands there with which they begin
-- none (own).
pub record StopsAt (octets : List ℕ) (place : ℕ) : Type 0 where
  pub within : place ≤ length octets
  pub begins : Begins (take place octets)
  pub stops : place < length octets → Begins (take (place + 1) octets) → ⊥

-- No record stands first in the octets, and this is the place where they stop beginning one (own).
pub record DamagedFirst (octets : List ℕ) (place : ℕ) : Type 0 where
  pub no_record : (event : Event) (rest : List ℕ) → HasRecord event → octets ≡ record_of event ++ rest → ⊥
  pub stops_at : StopsAt octets place

-- The octets are no record and nothing behind it, and this is the place where they stop beginning one (own).
pub record Damaged (octets : List ℕ) (place : ℕ) : Type 0 where
  pub no_record : (event : Event) → HasRecord event → octets ≡ record_of event → ⊥
  pub stops_at : StopsAt octets place
