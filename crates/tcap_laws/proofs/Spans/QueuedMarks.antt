-- Marks that leave an invocation queued: all but Sent, the end of its dialogue and the user's cancel.
use Rattle.std.proofs.Common.{◌≡◌, ℕ, ℤ, Bool, true, false, List, [], ◌∷◌, ◌++◌, Option, Some, None, Result, Ok, Err, refl, sym, ap, subst, ◌∙◌, inl, inr, append-nil, append_assoc}
use Rattle.std.specs.Prelude.{unwrap_or}
use Rattle.std.specs.List.{AllByRecursion}
use Rattle.std.specs.Ordering.{int_eq}
use Rattle.std.specs.Option.{option_or}
use Rattle.std.proofs.lemmas.Bool.{cases_Bool}
use Rattle.tcap_pdu.specs.declared.fault.FrameFault.{FrameFault}
use Rattle.tcap_pdu.specs.FrameReading.{frame_at}
use Rattle.tcap_pdu.specs.FrameSpelling.{Message}
use Rattle.tcap_component.specs.declared.problem.Kind.{Kind}
use Rattle.tcap_component.specs.declared.problem.Kind.TheVariants as kind
use Rattle.tcap_component.specs.Component.{ComponentParts}
use Rattle.tcap_component.specs.ComponentFault.{FaultParts}
use Rattle.tcap_component.specs.ComponentReading.{components_of}
use Rattle.tcap_component.specs.Problem.{ProblemParts}
use Rattle.tcap_invocation.specs.declared.class.Class.{Class}
use Rattle.tcap_model.specs.Invocations.Closes.{closing_of}
use Rattle.tcap_model.specs.Invocations.Deadline.{sent_clock}
use Rattle.tcap_model.specs.Words.Event.{Event}
use Rattle.tcap_model.specs.Histories.Life.{life_by_event, life_by_request, Life, life_by_message, life_by_verdict, life_if_live, life_by_moment}
use Rattle.tcap_model.specs.Invocations.Marks.{Mark, Noted, marks_by_event, marks_of_request, end_if_over, marked, reject_marks, marks_of_component, component_marks, if_normal, marks_of_message, marks_if_live}
use Rattle.tcap_model.specs.Invocations.Outcome.{first_closing}
use Rattle.tcap_model.specs.Procedures.PortionRules.{PortionVerdict, portion_verdict}
use Rattle.tcap_model.specs.Words.Request.{Request, ComponentRequest, DialogueRequest}
use Rattle.tcap_model.specs.Words.State.{State, is_live}
use Rattle.tcap_model.specs.Words.Time.{is_idle}
use Rattle.tcap_laws.proofs.Spans.MarksAfterBirth.{noted_at_clock}
use Rattle.tcap_laws.proofs.Spans.DecisionSteps.{first_closing-append}
use Rattle.tcap_laws.proofs.Spans.SentClocks.{sent_clock-append}
use Rattle.tcap_laws.proofs.ListLemmas.{each-append}

abbrev pub LeavesQueued : Mark → Type 0
LeavesQueued Mark.sent = ⊥
LeavesQueued Mark.end = ⊥
LeavesQueued Mark.given_up = ⊥
LeavesQueued (Mark.moment now) = Unit {0}
LeavesQueued (Mark.last body) = Unit {0}
LeavesQueued (Mark.more body) = Unit {0}
LeavesQueued (Mark.error code parameter) = Unit {0}
LeavesQueued (Mark.reject problem) = Unit {0}

abbrev pub AllLeave : List Mark → Type 0
AllLeave made = AllByRecursion LeavesQueued made

-- ---- a span after such marks

-- neither sent nor closed
pub record IsUnsent (class : Class) (timeout : ℕ) (span : List Noted) : Type 0 where
  pub unsent : sent_clock span ≡ None
  pub unclosed : first_closing class timeout span ≡ None

no_clock : (clock : ℕ) (mark : Mark) → LeavesQueued mark
    → sent_clock (record { clock = clock; mark = mark } ∷ []) ≡ None
no_clock clock Mark.sent leaves = absurd leaves
no_clock clock Mark.end leaves = absurd leaves
no_clock clock Mark.given_up leaves = absurd leaves
no_clock clock (Mark.moment now) leaves = refl
no_clock clock (Mark.last body) leaves = refl
no_clock clock (Mark.more body) leaves = refl
no_clock clock (Mark.error code parameter) leaves = refl
no_clock clock (Mark.reject problem) leaves = refl

no_closing : (class : Class) (timeout : ℕ) (mark : Mark) → LeavesQueued mark → closing_of class timeout None mark ≡ None
no_closing class timeout Mark.sent leaves = absurd leaves
no_closing class timeout Mark.end leaves = absurd leaves
no_closing class timeout Mark.given_up leaves = absurd leaves
no_closing class timeout (Mark.moment now) leaves = refl
no_closing class timeout (Mark.last body) leaves = refl
no_closing class timeout (Mark.more body) leaves = refl
no_closing class timeout (Mark.error code parameter) leaves = refl
no_closing class timeout (Mark.reject problem) leaves = refl

both-none : {X : Type 0} (x y : Option X) → x ≡ None → y ≡ None → option_or x y ≡ None
both-none x y p q = rw (p, q) refl

one-more : (class : Class) (timeout clock : ℕ) (mark : Mark) (span : List Noted) → LeavesQueued mark
    → IsUnsent class timeout span → IsUnsent class timeout (span ++ record { clock = clock; mark = mark } ∷ [])
one-more class timeout clock mark span leaves was = record {
  unsent = sent_clock-append span (record { clock = clock; mark = mark } ∷ [])
      ∙ both-none (sent_clock span) (sent_clock (record { clock = clock; mark = mark } ∷ [])) was.unsent
      (no_clock clock mark leaves);
  unclosed = first_closing-append class timeout span (record { clock = clock; mark = mark } ∷ [])
      ∙ both-none (first_closing class timeout span) (option_or (closing_of class timeout (sent_clock span) mark) None)
      was.unclosed
      (both-none (closing_of class timeout (sent_clock span) mark) None
      (ap (λ (s : Option ℕ). closing_of class timeout s mark) was.unsent ∙ no_closing class timeout mark leaves)
      refl);
}

pub still-unsent : (class : Class) (timeout clock : ℕ) (made : List Mark) (span : List Noted) → AllLeave made
    → IsUnsent class timeout span → IsUnsent class timeout (span ++ noted_at_clock clock made)
still-unsent class timeout clock [] span leave was = subst (IsUnsent class timeout) (sym (append-nil span)) was
still-unsent class timeout clock (mark ∷ made) span leave was =
    subst (IsUnsent class timeout) (append_assoc span (record { clock = clock; mark = mark } ∷ [])
    (noted_at_clock clock made))
    (still-unsent class timeout clock made (span ++ record { clock = clock; mark = mark } ∷ []) leave.1
    (one-more class timeout clock mark span leave.0 was))

-- ---- which marks are so

pub marked-leaves : (id named : ℤ) (mark : Mark) → LeavesQueued mark → AllLeave (marked id named mark)
marked-leaves id named mark leaves = elim (cases_Bool (int_eq named id)) [
  | inl same ↦ rw same (leaves, tt)
  | inr other ↦ rw other tt
]

reject-leaves : (id named : ℤ) (problem : ProblemParts) (k : Kind) → AllLeave (reject_marks id named problem k)
reject-leaves id named problem kind.General = marked-leaves id named (Mark.reject problem) tt
reject-leaves id named problem kind.Invoke = marked-leaves id named (Mark.reject problem) tt
reject-leaves id named problem kind.Result = tt
reject-leaves id named problem kind.Error = tt

component-leaves : (id : ℤ) (c : ComponentParts) → AllLeave (marks_of_component id c)
component-leaves id (ComponentParts.invoke named linked code parameter) = tt
component-leaves id (ComponentParts.result_last named body) = marked-leaves id named (Mark.last body) tt
component-leaves id (ComponentParts.error_back named code parameter) =
    marked-leaves id named (Mark.error code parameter) tt
component-leaves id (ComponentParts.reject_back None problem) = tt
component-leaves id (ComponentParts.reject_back (Some named) problem) = reject-leaves id named problem problem.kind
component-leaves id (ComponentParts.result_more named body) = marked-leaves id named (Mark.more body) tt

components-leave : (id : ℤ) (items : List (Result ComponentParts FaultParts)) → AllLeave (component_marks id items)
components-leave id [] = tt
components-leave id (Ok c ∷ items) =
    each-append LeavesQueued (marks_of_component id c) (component_marks id items) (component-leaves id c)
    (components-leave id items)
components-leave id (Err f ∷ items) = tt

-- the life that is left
abbrev pub IsStanding : Life → Type 0
IsStanding Life.unborn = ⊥
IsStanding (Life.standing state context) = Unit {0}
IsStanding Life.over = ⊥

pub no-ending : (state : State) (context : Option (List ℕ)) (after : Life) → IsStanding after
    → AllLeave (end_if_over (Life.standing state context) after)
no-ending state context Life.unborn stands = absurd stands
no-ending state context (Life.standing s c) stands = tt
no-ending state context Life.over stands = absurd stands

continue-leaves : (id : ℤ) (state : State) (context : Option (List ℕ)) (origin content : List ℕ) (other : List Mark)
    (verdict : PortionVerdict) → IsStanding (life_by_verdict state context origin verdict)
    → AllLeave (unwrap_or (if_normal verdict (component_marks id (components_of content))) other)
continue-leaves id state context origin content other (PortionVerdict.normal told info) stands =
    components-leave id (components_of content)
continue-leaves id state context origin content other PortionVerdict.abnormal stands = absurd stands

message-leaves : (id : ℤ) (state : State) (context : Option (List ℕ)) (other : List Mark)
    (read : Result Message FrameFault) → AllLeave other → IsStanding (life_by_message state context read)
    → AllLeave (unwrap_or (marks_of_message id state context read) other)
message-leaves id state context other (Ok (Message.go_on origin to portion components)) leave stands =
    continue-leaves id state context origin components other (portion_verdict state context portion) stands
message-leaves id state context other (Ok (Message.end to portion components)) leave stands = absurd stands
message-leaves id state context other (Ok (Message.abort to reason)) leave stands = absurd stands
message-leaves id state context other (Ok (Message.unidirectional portion components)) leave stands = leave
message-leaves id state context other (Ok (Message.begin origin portion components)) leave stands = leave
message-leaves id state context other (Err fault) leave stands = absurd stands

live-leaves : (alive : Bool) (id : ℤ) (state : State) (context : Option (List ℕ)) (other : List Mark) (bytes : List ℕ)
    → AllLeave other → IsStanding (life_if_live alive state context bytes)
    → AllLeave (unwrap_or (marks_if_live alive id state context bytes) other)
live-leaves true id state context other bytes leave stands =
    message-leaves id state context other (frame_at bytes) leave stands
live-leaves false id state context other bytes leave stands = leave

pub bytes-leave : (id : ℤ) (state : State) (context : Option (List ℕ)) (bytes : List ℕ)
    → IsStanding (life_if_live (is_live state) state context bytes) →
    AllLeave (unwrap_or (marks_if_live (is_live state) id state context bytes)
    (end_if_over (Life.standing state context) (life_if_live (is_live state) state context bytes)))
bytes-leave id state context bytes stands =
    live-leaves (is_live state) id state context
    (end_if_over (Life.standing state context) (life_if_live (is_live state) state context bytes)) bytes
    (no-ending state context (life_if_live (is_live state) state context bytes) stands) stands

-- ---- requests that leave an invocation queued

-- all but those that take the queue, and the cancel of this identifier
abbrev pub SparesAt : ℤ → Request → Type 0
SparesAt id (Request.component (ComponentRequest.invoke named class code parameter linked timeout)) = Unit {0}
SparesAt id (Request.component (ComponentRequest.result_last named body)) = Unit {0}
SparesAt id (Request.component (ComponentRequest.result_more named body)) = Unit {0}
SparesAt id (Request.component (ComponentRequest.error_back named code parameter)) = Unit {0}
SparesAt id (Request.component (ComponentRequest.u_reject named problem)) = Unit {0}
SparesAt id (Request.component (ComponentRequest.u_cancel named)) = int_eq named id ≡ false
SparesAt id (Request.dialogue (DialogueRequest.uni to context info)) = Unit {0}
SparesAt id (Request.dialogue (DialogueRequest.begin to context info)) = ⊥
SparesAt id (Request.dialogue (DialogueRequest.go_on context info)) = ⊥
SparesAt id (Request.dialogue (DialogueRequest.finish ending context info)) = Unit {0}
SparesAt id (Request.dialogue (DialogueRequest.u_abort why info)) = Unit {0}

request-leaves : (id : ℤ) (s : State) (c : Option (List ℕ)) (r : Request) → IsStanding (life_by_request s c r)
    → SparesAt id r → AllLeave (unwrap_or (marks_of_request id r)
    (end_if_over (Life.standing s c) (life_by_request s c r)))
request-leaves id s c (Request.component (ComponentRequest.invoke named class code parameter linked timeout)) stands
    spares = tt
request-leaves id s c (Request.component (ComponentRequest.result_last named body)) stands spares = tt
request-leaves id s c (Request.component (ComponentRequest.result_more named body)) stands spares = tt
request-leaves id s c (Request.component (ComponentRequest.error_back named code parameter)) stands spares = tt
request-leaves id s c (Request.component (ComponentRequest.u_reject named problem)) stands spares = tt
request-leaves id s c (Request.component (ComponentRequest.u_cancel named)) stands spares = rw spares tt
request-leaves id s c (Request.dialogue (DialogueRequest.uni to context info)) stands spares = absurd stands
request-leaves id s c (Request.dialogue (DialogueRequest.begin to context info)) stands spares = absurd spares
request-leaves id s c (Request.dialogue (DialogueRequest.go_on context info)) stands spares = absurd spares
request-leaves id s c (Request.dialogue (DialogueRequest.finish ending context info)) stands spares = absurd stands
request-leaves id s c (Request.dialogue (DialogueRequest.u_abort why info)) stands spares = absurd stands

-- all events
abbrev pub Spares : ℤ → Event → Bool → Type 0
Spares id Event.new_dialogue accepted = Unit {0}
Spares id (Event.on_dialogue dialogue request) true = SparesAt id request
Spares id (Event.on_dialogue dialogue request) false = Unit {0}
Spares id (Event.received from bytes) accepted = Unit {0}
Spares id (Event.moment now) accepted = Unit {0}

pub event-leaves : (idle_ms last : ℕ) (id : ℤ) (s : State) (c : Option (List ℕ)) (event : Event) (accepted : Bool)
    → IsStanding (life_by_event idle_ms last s c event accepted) → Spares id event accepted →
    AllLeave (marks_by_event id (Life.standing s c) (life_by_event idle_ms last s c event accepted) event accepted)
event-leaves idle_ms last id s c Event.new_dialogue accepted stands spares = tt
event-leaves idle_ms last id s c (Event.on_dialogue dialogue request) true stands spares =
    request-leaves id s c request stands spares
event-leaves idle_ms last id s c (Event.on_dialogue dialogue request) false stands spares = tt
event-leaves idle_ms last id s c (Event.received from bytes) accepted stands spares = bytes-leave id s c bytes stands
event-leaves idle_ms last id s c (Event.moment now) true stands spares =
    (tt, no-ending s c (life_by_moment (is_idle idle_ms last now) s c) stands)
event-leaves idle_ms last id s c (Event.moment now) false stands spares = tt
