-- The record of an event, read from left to right.
use Rattle.std.specs.Prelude.{ℕ, ℤ, List, [], ◌∷◌, length, Option, Result, Ok, Err, ◌==◌, if◌then◌else◌}
use Rattle.ber_core.specs.Results.{◌>>=◌}
use Rattle.tcap_component.specs.Problem.{ProblemParts}
use Rattle.tcap_component.specs.Component.{CodeParts, BodyParts}
use Rattle.tcap_invocation.specs.declared.class.Class.{Class}
use Rattle.tcap_model.specs.Words.Event.{Event}
use Rattle.tcap_model.specs.Words.Event.Event.{new_dialogue, on_dialogue, received, moment}
use Rattle.tcap_model.specs.Words.Request.{Ending, AbortReason}
use Rattle.tcap_model.specs.Words.Request.Request.{component, dialogue}
use Rattle.tcap_model.specs.Words.Request.ComponentRequest.{invoke, result_last, result_more, error_back, u_reject, u_cancel}
use Rattle.tcap_model.specs.Words.Request.DialogueRequest.{uni, begin, go_on, finish, u_abort}
use Rattle.tcap_record.specs.declared.kind.EventKind.{EventKind}
use Rattle.tcap_record.specs.declared.kind.EventKind.TheVariants as kind
use Rattle.tcap_record.specs.Fields.{Reading, listed, pair_at, as_at, choice_at}
use Rattle.tcap_record.specs.Parts.{short_at, long_at, identifier_at, octet_string_at, address_at, optional_at, code_at, body_at, class_at, problem_at, ending_at, reason_at}
use Rattle.tcap_record.specs.Records.{version}

-- ---- the fields of each kind, as a value

-- The fields of each kind of event, in order (own).
abbrev pub Fields : EventKind → Type 0
Fields kind.NewDialogue = Unit {0}
Fields kind.Invoke = ℕ × (ℤ × (Class × (CodeParts × (Option (List ℕ) × (Option ℤ × ℕ)))))
Fields kind.ResultLast = ℕ × (ℤ × Option BodyParts)
Fields kind.ResultMore = ℕ × (ℤ × Option BodyParts)
Fields kind.ErrorBack = ℕ × (ℤ × (CodeParts × Option (List ℕ)))
Fields kind.Reject = ℕ × (Option ℤ × ProblemParts)
Fields kind.Cancel = ℕ × ℤ
Fields kind.Uni = ℕ × (List ℕ × (Option (List ℕ) × List ℕ))
Fields kind.Begin = ℕ × (List ℕ × (Option (List ℕ) × List ℕ))
Fields kind.Continue = ℕ × (Option (List ℕ) × List ℕ)
Fields kind.End = ℕ × (Ending × (Option (List ℕ) × List ℕ))
Fields kind.Abort = ℕ × (AbortReason × List ℕ)
Fields kind.Bytes = List ℕ × List ℕ
Fields kind.Moment = ℕ

-- The event of a kind that has these fields (own).
abbrev pub event_of : (k : EventKind) → Fields k → Event
event_of kind.NewDialogue f = new_dialogue
event_of kind.Invoke f =
    on_dialogue f.0 (component (invoke f.1.0 f.1.1.0 f.1.1.1.0 f.1.1.1.1.0 f.1.1.1.1.1.0 f.1.1.1.1.1.1))
event_of kind.ResultLast f = on_dialogue f.0 (component (result_last f.1.0 f.1.1))
event_of kind.ResultMore f = on_dialogue f.0 (component (result_more f.1.0 f.1.1))
event_of kind.ErrorBack f = on_dialogue f.0 (component (error_back f.1.0 f.1.1.0 f.1.1.1))
event_of kind.Reject f = on_dialogue f.0 (component (u_reject f.1.0 f.1.1))
event_of kind.Cancel f = on_dialogue f.0 (component (u_cancel f.1))
event_of kind.Uni f = on_dialogue f.0 (dialogue (uni f.1.0 f.1.1.0 f.1.1.1))
event_of kind.Begin f = on_dialogue f.0 (dialogue (begin f.1.0 f.1.1.0 f.1.1.1))
event_of kind.Continue f = on_dialogue f.0 (dialogue (go_on f.1.0 f.1.1))
event_of kind.End f = on_dialogue f.0 (dialogue (finish f.1.0 f.1.1.0 f.1.1.1))
event_of kind.Abort f = on_dialogue f.0 (dialogue (u_abort f.1.0 f.1.1))
event_of kind.Bytes f = received f.0 f.1
event_of kind.Moment f = moment f

-- ---- the fields of each kind, read

-- A context that may be missing, and user information (own).
abbrev pub portion_at : List ℕ → Reading (Option (List ℕ) × List ℕ)
portion_at octets = pair_at (optional_at octet_string_at) octet_string_at octets

-- The fields of each kind of event, read (own).
unfoldable pub kind_fields_at : (k : EventKind) → List ℕ → Reading (Fields k)
kind_fields_at kind.NewDialogue octets = Ok (tt, octets)
kind_fields_at kind.Invoke octets =
    pair_at short_at (pair_at identifier_at (pair_at class_at (pair_at code_at (pair_at (optional_at octet_string_at)
    (pair_at (optional_at identifier_at) long_at))))) octets
kind_fields_at kind.ResultLast octets = pair_at short_at (pair_at identifier_at (optional_at body_at)) octets
kind_fields_at kind.ResultMore octets = pair_at short_at (pair_at identifier_at (optional_at body_at)) octets
kind_fields_at kind.ErrorBack octets =
    pair_at short_at (pair_at identifier_at (pair_at code_at (optional_at octet_string_at))) octets
kind_fields_at kind.Reject octets = pair_at short_at (pair_at (optional_at identifier_at) problem_at) octets
kind_fields_at kind.Cancel octets = pair_at short_at identifier_at octets
kind_fields_at kind.Uni octets = pair_at short_at (pair_at address_at portion_at) octets
kind_fields_at kind.Begin octets = pair_at short_at (pair_at address_at portion_at) octets
kind_fields_at kind.Continue octets = pair_at short_at portion_at octets
kind_fields_at kind.End octets = pair_at short_at (pair_at ending_at portion_at) octets
kind_fields_at kind.Abort octets = pair_at short_at (pair_at reason_at octet_string_at) octets
kind_fields_at kind.Bytes octets = pair_at address_at octet_string_at octets
kind_fields_at kind.Moment octets = long_at octets

-- ---- a record, read

-- The versions by their octets: there is one (own).
abbrev pub version_table : List (ℕ × Unit {0})
version_table = (version, tt) ∷ []

-- The kinds of event by their octets (own).
abbrev pub event_table : List (ℕ × EventKind)
event_table =
    (1, kind.NewDialogue) ∷ (2, kind.Invoke) ∷ (3, kind.ResultLast) ∷ (4, kind.ResultMore) ∷ (5, kind.ErrorBack)
    ∷ (6, kind.Reject) ∷ (7, kind.Cancel) ∷ (8, kind.Uni) ∷ (9, kind.Begin) ∷ (10, kind.Continue) ∷ (11, kind.End)
    ∷ (12, kind.Abort) ∷ (13, kind.Bytes) ∷ (14, kind.Moment) ∷ []

-- The event of a kind, from its fields (own).
abbrev pub event_at : EventKind → List ℕ → Reading Event
event_at k octets = as_at (event_of k) (kind_fields_at k) octets

-- The event behind the version (own).
abbrev pub versioned_at : Unit {0} → List ℕ → Reading Event
versioned_at v octets = choice_at (listed event_table) event_at octets

-- The event whose record stands first (own).
unfoldable pub record_at : List ℕ → Reading Event
record_at octets = choice_at (listed version_table) versioned_at octets

-- The event, where nothing stands behind its record; else how many octets are left (own).
abbrev pub alone : Event × List ℕ → Result Event ℕ
alone read = if length read.1 == 0 then Ok read.0 else Err (length read.1)

-- The event whose record the octets are (own).
abbrev pub alone_at : List ℕ → Result Event ℕ
alone_at octets = record_at octets >>= alone
