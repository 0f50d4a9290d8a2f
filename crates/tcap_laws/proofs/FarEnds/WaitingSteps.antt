-- What waits in a queue after one component more, and after a cancel.
use Rattle.std.proofs.Common.{◌≡◌, ℕ, ℤ, true, false, ◌==◌, List, [], ◌∷◌, Option, Some, None, refl, sym, ap, subst, ◌∙◌, inl, inr, if◌then◌else◌}
use Rattle.std.specs.Ordering.{int_eq}
use Rattle.std.specs.Prelude.{is_some, is_none}
use Rattle.std.proofs.lemmas.Bool.{cases_Bool, eq-eqb, true≢false}
use Rattle.std.proofs.lemmas.Bool.Decides.{Decides-int_eq}
use Rattle.tcap_component.specs.Component.{ComponentParts, CodeParts}
use Rattle.tcap_component.specs.Component.ComponentParts.{invoke}
use Rattle.tcap_invocation.specs.declared.class.Class.{Class}
use Rattle.tcap_model.specs.Words.Answer.{Answer, is_accepted}
use Rattle.tcap_model.specs.Words.Event.{Event}
use Rattle.tcap_model.specs.Replies.Held.{if_pending, pending}
use Rattle.tcap_model.specs.Histories.History.{Start}
use Rattle.tcap_model.specs.Invocations.Invocation.{Invocation, invocation_of, latest}
use Rattle.tcap_model.specs.Replies.Legal.{AreReplies}
use Rattle.tcap_model.specs.Histories.Life.{Life, life, life_by_event, touched}
use Rattle.tcap_model.specs.Invocations.Marks.{marks_by_event}
use Rattle.tcap_model.specs.Histories.Names.{names}
use Rattle.tcap_model.specs.Invocations.Outcome.{outcome, outcome_of}
use Rattle.tcap_model.specs.Histories.Pair.{Pair, Past}
use Rattle.tcap_model.specs.Procedures.QueueRules.{Invoking, Queued, queued, asks_for, without_invoke}
use Rattle.tcap_model.specs.Words.Request.{Request, ComponentRequest}
use Rattle.tcap_model.specs.Words.State.{State}
use Rattle.tcap_laws.proofs.Spans.EventMarks.{unnamed_marks, standing_marks}
use Rattle.tcap_laws.proofs.Spans.LatestInvocations.{new_number, new_found}
use Rattle.tcap_laws.proofs.Spans.QueuedMarks.{IsUnsent, IsStanding, Spares, event-leaves}
use Rattle.tcap_laws.proofs.Queues.RequestedComponents.{IfGood}
use Rattle.tcap_laws.proofs.Spans.SpanSteps.{span_new}
use Rattle.tcap_laws.proofs.Spans.SupersededInvocations.{latest_if_open}
use Rattle.tcap_laws.proofs.FarEnds.WaitingInvokes.{invocation_as, IsAsked, IsNoInvoke, Waits, IsWaiting, AllWait, IsLeft, asked-later}

-- ---- events

module _ (dialogue : ℕ) (event : Event) (answer : Answer) (idle_ms : ℕ) (past : Past) (s : State)
    (c : Option (List ℕ))
    (lives : life dialogue past ≡ Life.standing s c) where
  abbrev pub here : Pair
  here = record { event = event; answer = answer; idle_ms = idle_ms }

  abbrev pub after : Life
  after = life_by_event idle_ms (touched dialogue past) s c event (is_accepted answer)

  pub unnamed-left : names event dialogue ≡ false → (id : ℤ) → IsLeft dialogue id here past
  unnamed-left named id = record { made = []; is_made = unnamed_marks dialogue id event answer idle_ms past named; leave = tt }

  pub named-left : names event dialogue ≡ true → IsStanding after → (id : ℤ)
      → Spares id event (is_accepted answer) → IsLeft dialogue id here past
  named-left named stands id spares = record {
    made = marks_by_event id (Life.standing s c) after event (is_accepted answer);
    is_made = standing_marks dialogue id event answer idle_ms past s c lives named;
    leave = event-leaves idle_ms (touched dialogue past) id s c event (is_accepted answer) stands spares;
  }

-- ---- a component that is queued

none-found : (number : ℕ) (past : Past) → invocation_of number past ≡ None → is_some (invocation_of number past) ≡ false
none-found number past none = ap is_some none

-- the Invoke of a new invocation
pub new-waits : (start : Start) (dialogue number idle_ms : ℕ) (past : Past) (id : ℤ) (class : Class) (code : CodeParts)
    (parameter : Option (List ℕ)) (linked : Option ℤ) (timeout : ℕ) →
    AreReplies start (record {
      event =
          Event.on_dialogue dialogue (Request.component (ComponentRequest.invoke id class code parameter linked timeout));
      answer = Answer.number number;
      idle_ms = idle_ms;
    } ∷ past) →
    IfGood (Some (invoke id linked code parameter)) →
    IsWaiting dialogue (record {
      event =
          Event.on_dialogue dialogue (Request.component (ComponentRequest.invoke id class code parameter linked timeout));
      answer = Answer.number number;
      idle_ms = idle_ms;
    } ∷ past) (queued (Some (record { number = number; class = class }))
    (invoke id linked code parameter))
new-waits start dialogue number idle_ms past id class code parameter linked timeout legal good =
    let here : Pair = record {
      event =
          Event.on_dialogue dialogue (Request.component (ComponentRequest.invoke id class code parameter linked timeout));
      answer = Answer.number number;
      idle_ms = idle_ms;
    } in
    let i : Invocation = invocation_as number dialogue id class timeout in
    let new : invocation_of number past ≡ None = new_number start here past legal i refl in
    record {
      pair = here;
      before = past;
      id = id;
      class = class;
      code = code;
      parameter = parameter;
      linked = linked;
      timeout = timeout;
      stands = record { later = []; is_past = refl };
      is_event = refl;
      is_answer = refl;
      written = record { is_octets = refl; in_range = good.0; can = good.1 };
      is_invocation = new_found start here past legal i refl;
      unsent = subst (IsUnsent class timeout) (sym (span_new i here past (none-found number past new)))
          (record { unsent = refl; unclosed = refl });
    }

pub other-waits : (dialogue : ℕ) (past : Past) (c : ComponentParts) → IsNoInvoke c → IfGood (Some c)
    → IsWaiting dialogue past (queued None c)
other-waits dialogue past c none good =
    record { component = c; written = record { is_octets = refl; in_range = good.0; can = good.1 }; no_invoke = none }

-- ---- a cancel

abbrev cancel : ℕ → ℤ → ℕ → ℕ → Pair
cancel dialogue named number idle_ms = record {
  event = Event.on_dialogue dialogue (Request.component (ComponentRequest.u_cancel named));
  answer = Answer.given_up number;
  idle_ms = idle_ms;
}

module _ (start : Start) (past : Past) (legal : AreReplies start past) (dialogue : ℕ) (named : ℤ)
    (given idle_ms : ℕ)
    (is_pending : pending dialogue named past ≡ Some given) where
  -- another invocation has another identifier
  other-id : (octets : List ℕ) (number : ℕ) (asked : IsAsked dialogue past octets number) → (number == given) ≡ false
      → int_eq named asked.id ≡ false
  other-id octets number asked other = elim (cases_Bool (int_eq named asked.id)) [
    | inl same ↦ absurd (true≢false (sym (eq-eqb number given (same-number same)) ∙ other))
    | inr differs ↦ differs
  ]
    where
      i : Invocation
      i = invocation_as number dialogue asked.id asked.class asked.timeout

      open_there : outcome number past ≡ None
      open_there = ap (λ (o : Option Invocation). outcome_of o past) asked.is_invocation ∙ asked.unsent.unclosed

      is_latest : latest dialogue asked.id past ≡ Some i
      is_latest = latest_if_open start past number i legal asked.is_invocation open_there

      own_pending : pending dialogue asked.id past ≡ Some number
      own_pending = ap (if_pending past) is_latest
          ∙ ap (λ (o : Option _). if is_none o then Some number else None) open_there

      same-number : int_eq named asked.id ≡ true → number ≡ given
      same-number same =
          let is : Some number ≡ Some given =
          sym own_pending ∙ (ap (λ (id : ℤ). pending dialogue id past)
          (sym ((Decides-int_eq named asked.id).0 same)) ∙ is_pending) in
          cc

  module _ (left : (id : ℤ) → int_eq named id ≡ false → IsLeft dialogue id (cancel dialogue named given idle_ms) past) where
    left-in : (octets : List ℕ) (invoking : Option Invoking) → asks_for given invoking ≡ false
        → Waits dialogue past octets invoking → Waits dialogue (cancel dialogue named given idle_ms ∷ past) octets invoking
    left-in octets None other waits = waits
    left-in octets (Some v) other waits =
        asked-later dialogue (cancel dialogue named given idle_ms) past octets v.number waits
        (left waits.id (other-id octets v.number waits other))

    pub cancel-waits : (waits : List Queued) → AllWait dialogue past waits
        → AllWait dialogue (cancel dialogue named given idle_ms ∷ past) (without_invoke given waits)
    cancel-waits [] all = tt
    cancel-waits (q ∷ waits) all = elim (cases_Bool (asks_for given q.invoking)) [
      | inl asks ↦ rw asks (cancel-waits waits all.1)
      | inr other ↦ rw other (left-in q.octets q.invoking other all.0, cancel-waits waits all.1)
    ]
