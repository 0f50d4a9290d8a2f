-- What waits in the queue of a dialogue that stands: each Invoke is that of an invocation which is
-- neither sent nor closed.
use Rattle.std.proofs.Common.{◌≡◌, ℕ, ℤ, true, not, List, [], ◌∷◌, ◌++◌, map, flat_map, option_to_list, Option, Some, None, Result, Ok, Err, sym, ap, subst, ◌∙◌, inl, inr}
use Rattle.std.specs.List.{AllByRecursion}
use Rattle.std.specs.Prelude.{is_some}
use Rattle.std.proofs.lemmas.Bool.{cases_Bool}
use Rattle.tcap_pdu.specs.declared.fault.FrameFault.{FrameFault}
use Rattle.tcap_pdu.specs.FrameReading.{frame_at}
use Rattle.tcap_pdu.specs.FrameSpelling.{Message}
use Rattle.tcap_component.specs.Component.{ComponentParts, CodeParts, InRange}
use Rattle.tcap_component.specs.Component.ComponentParts.{invoke, result_last, error_back, reject_back, result_more}
use Rattle.tcap_component.specs.Written.{written_component, CanWriteComponent}
use Rattle.tcap_invocation.specs.declared.class.Class.{Class}
use Rattle.tcap_model.specs.Words.Answer.{Answer}
use Rattle.tcap_model.specs.Histories.Clock.{clock}
use Rattle.tcap_model.specs.Procedures.ComponentHandling.{Handled}
use Rattle.tcap_model.specs.Words.Event.{Event}
use Rattle.tcap_model.specs.Invocations.Invocation.{Invocation, invocation_of}
use Rattle.tcap_model.specs.Histories.Life.{Life}
use Rattle.tcap_model.specs.Invocations.Marks.{Mark, marks}
use Rattle.tcap_model.specs.Histories.Pair.{Pair, Past}
use Rattle.tcap_model.specs.Statements.Places.{StandsIn}
use Rattle.tcap_model.specs.Procedures.PortionRules.{PortionVerdict, portion_verdict}
use Rattle.tcap_model.specs.Replies.Queue.{handled_in, rejects_of, queue_by_verdict, queue_by_message, queue_at_birth, queue_born, queue_by_bytes}
use Rattle.tcap_model.specs.Procedures.QueueRules.{Invoking, Queued, queued, queue_limit}
use Rattle.tcap_model.specs.Words.Request.{Request, ComponentRequest}
use Rattle.tcap_model.specs.Invocations.Reuse.{is_reused}
use Rattle.tcap_model.specs.Invocations.Span.{span}
use Rattle.tcap_model.specs.Words.State.{State, is_live}
use Rattle.tcap_laws.proofs.Spans.MarksAfterBirth.{noted_at_clock}
use Rattle.tcap_laws.proofs.Spans.DecisionSteps.{made_found, invocation_stays}
use Rattle.tcap_laws.proofs.Queues.FormedRejects.{IsFormed, HasFormed, handled_in-formed, reject-can}
use Rattle.tcap_laws.proofs.Queues.KeptQueues.{queue_each-each}
use Rattle.tcap_laws.proofs.Spans.QueuedMarks.{AllLeave, IsUnsent, still-unsent}
use Rattle.tcap_laws.proofs.Spans.SpanSteps.{span_grows, span_stays}

-- octets are those of a component that can be written
pub record IsWritten (octets : List ℕ) (c : ComponentParts) : Type 0 where
  pub is_octets : octets ≡ written_component c
  pub in_range : InRange c
  pub can : CanWriteComponent c

abbrev pub invocation_as : ℕ → ℕ → ℤ → Class → ℕ → Invocation
invocation_as number dialogue id class timeout =
    record { number = number; dialogue = dialogue; id = id; class = class; timeout = timeout }

-- octets are the Invoke of an invocation that is neither sent nor closed
pub record IsAsked (dialogue : ℕ) (past : Past) (octets : List ℕ) (number : ℕ) : Type 0 where
  pub pair : Pair
  pub before : Past
  pub id : ℤ
  pub class : Class
  pub code : CodeParts
  pub parameter : Option (List ℕ)
  pub linked : Option ℤ
  pub timeout : ℕ
  pub stands : StandsIn pair before past
  pub is_event : pair.event ≡ Event.on_dialogue dialogue
      (Request.component (ComponentRequest.invoke id class code parameter linked timeout))
  pub is_answer : pair.answer ≡ Answer.number number
  pub written : IsWritten octets (invoke id linked code parameter)
  pub is_invocation : invocation_of number past ≡ Some (invocation_as number dialogue id class timeout)
  pub unsent : IsUnsent class timeout (span (invocation_as number dialogue id class timeout) past)

abbrev pub IsNoInvoke : ComponentParts → Type 0
IsNoInvoke (invoke id linked code parameter) = ⊥
IsNoInvoke (result_last id body) = Unit {0}
IsNoInvoke (error_back id code parameter) = Unit {0}
IsNoInvoke (reject_back id problem) = Unit {0}
IsNoInvoke (result_more id body) = Unit {0}

-- octets are another component
pub record IsOtherComponent (octets : List ℕ) : Type 0 where
  pub component : ComponentParts
  pub written : IsWritten octets component
  pub no_invoke : IsNoInvoke component

abbrev pub Waits : ℕ → Past → List ℕ → Option Invoking → Type 0
Waits dialogue past octets None = IsOtherComponent octets
Waits dialogue past octets (Some v) = IsAsked dialogue past octets v.number

abbrev pub IsWaiting : ℕ → Past → Queued → Type 0
IsWaiting dialogue past q = Waits dialogue past q.octets q.invoking

abbrev pub AllWait : ℕ → Past → List Queued → Type 0
AllWait dialogue past waits = AllByRecursion (IsWaiting dialogue past) waits

-- ---- Rejects

module _ (dialogue : ℕ) (past : Past) where
  reject-waits : (h : Handled) (reject : Option ComponentParts) (others : List ComponentParts)
      → IsFormed dialogue h.told reject → AllWait dialogue past (map (queued None) others)
      → AllWait dialogue past (map (queued None) (option_to_list reject ++ others))
  reject-waits h None others formed rest = rest
  reject-waits h (Some c) others formed rest = (
    record {
      component = reject_back formed.0 formed.1;
      written = record {
        is_octets = ap written_component formed.2;
        in_range = (formed.4, formed.5);
        can =
            reject-can formed.0 formed.1;
      };
      no_invoke = tt;
    },
    rest,
  )

  rejects-wait : (hs : List Handled) → AllByRecursion (HasFormed dialogue) hs → AllWait dialogue past (rejects_of hs)
  rejects-wait [] formed = tt
  rejects-wait (h ∷ hs) formed =
      reject-waits h h.reject (flat_map (λ (x : Handled). option_to_list x.reject) hs) formed.0
      (rejects-wait hs formed.1)

  content-waits : (before : Past) (content : List ℕ) (waits : List Queued) → AllWait dialogue past waits
      → AllByRecursion (IsWaiting dialogue past) (queue_by_verdict (PortionVerdict.normal None []) waits
      (handled_in dialogue before content))
  content-waits before content waits all =
      queue_each-each (IsWaiting dialogue past) queue_limit waits (rejects_of (handled_in dialogue before content)) all
      (rejects-wait (handled_in dialogue before content) (handled_in-formed dialogue before content))

  verdict-waits : (before : Past) (content : List ℕ) (waits : List Queued) (verdict : PortionVerdict)
      → AllWait dialogue past waits → AllWait dialogue past
      (queue_by_verdict verdict waits (handled_in dialogue before content))
  verdict-waits before content waits (PortionVerdict.normal told info) all = content-waits before content waits all
  verdict-waits before content waits PortionVerdict.abnormal all = all

  birth-waits : (before : Past) (read : Result Message FrameFault)
      → AllWait dialogue past (queue_at_birth dialogue before read)
  birth-waits before (Ok (Message.begin origin portion components)) = content-waits before components [] tt
  birth-waits before (Ok (Message.unidirectional portion components)) = tt
  birth-waits before (Ok (Message.go_on origin to portion components)) = tt
  birth-waits before (Ok (Message.end to portion components)) = tt
  birth-waits before (Ok (Message.abort to reason)) = tt
  birth-waits before (Err f) = tt

  pub born-waits : (before : Past) (event : Event) → AllWait dialogue past (queue_born dialogue before event)
  born-waits before Event.new_dialogue = tt
  born-waits before (Event.on_dialogue named request) = tt
  born-waits before (Event.received from bytes) = birth-waits before (frame_at bytes)
  born-waits before (Event.moment now) = tt

  message-waits : (before : Past) (state : State) (context : Option (List ℕ)) (waits : List Queued)
      (read : Result Message FrameFault) → AllWait dialogue past waits
      → AllWait dialogue past (queue_by_message dialogue before (Life.standing state context) waits read)
  message-waits before state context waits (Ok (Message.go_on origin to portion components)) all =
      verdict-waits before components waits (portion_verdict state context portion) all
  message-waits before state context waits (Ok (Message.unidirectional portion components)) all = all
  message-waits before state context waits (Ok (Message.begin origin portion components)) all = all
  message-waits before state context waits (Ok (Message.end to portion components)) all = all
  message-waits before state context waits (Ok (Message.abort to reason)) all = all
  message-waits before state context waits (Err f) all = all

  pub bytes-wait : (before : Past) (state : State) (context : Option (List ℕ)) (waits : List Queued) (bytes : List ℕ)
      → AllWait dialogue past waits → AllWait dialogue past
      (queue_by_bytes dialogue before (Life.standing state context) waits bytes)
  bytes-wait before state context waits bytes all = elim (cases_Bool (is_live state)) [
    | inl lives ↦ rw lives (message-waits before state context waits (frame_at bytes) all)
    | inr not ↦ rw not all
  ]

-- ---- what waits, a pair later

-- a pair leaves the invocations of an identifier queued
pub record IsLeft (dialogue : ℕ) (id : ℤ) (pair : Pair) (past : Past) : Type 0 where
  pub made : List Mark
  pub is_made : marks dialogue id pair past ≡ noted_at_clock (clock past) made
  pub leave : AllLeave made

module _ (dialogue : ℕ) (pair : Pair) (past : Past) where
  pub asked-later : (octets : List ℕ) (number : ℕ) (asked : IsAsked dialogue past octets number)
      → IsLeft dialogue asked.id pair past → IsAsked dialogue (pair ∷ past) octets number
  asked-later octets number asked left =
      let i : Invocation = invocation_as number dialogue asked.id asked.class asked.timeout in
      let found : is_some (invocation_of number past) ≡ true = made_found number past i asked.is_invocation in
      record {
        pair = asked.pair;
        before = asked.before;
        id = asked.id;
        class = asked.class;
        code = asked.code;
        parameter = asked.parameter;
        linked = asked.linked;
        timeout = asked.timeout;
        stands = record {
          later = pair ∷ asked.stands.later;
          is_past =
              ap (λ (w : Past). pair ∷ w) asked.stands.is_past;
        };
        is_event = asked.is_event;
        is_answer = asked.is_answer;
        written = asked.written;
        is_invocation = invocation_stays number pair past i asked.is_invocation;
        unsent = elim (cases_Bool (is_reused i (pair ∷ past))) [
          | inl used ↦ subst (IsUnsent asked.class asked.timeout) (sym (span_stays i pair past found used)) asked.unsent
          | inr unused ↦ subst (IsUnsent asked.class asked.timeout)
              (sym (span_grows i pair past found unused ∙ ap (λ w. span i past ++ w) left.is_made))
              (still-unsent asked.class asked.timeout (clock past) left.made (span i past) left.leave asked.unsent)
        ];
      }

  waits-later : (octets : List ℕ) (invoking : Option Invoking) → ((id : ℤ) → IsLeft dialogue id pair past)
      → Waits dialogue past octets invoking → Waits dialogue (pair ∷ past) octets invoking
  waits-later octets None left waits = waits
  waits-later octets (Some v) left waits = asked-later octets v.number waits (left waits.id)

  pub all-later : (waits : List Queued) → ((id : ℤ) → IsLeft dialogue id pair past) → AllWait dialogue past waits
      → AllWait dialogue (pair ∷ past) waits
  all-later [] left all = tt
  all-later (q ∷ waits) left all = (waits-later q.octets q.invoking left all.0, all-later waits left all.1)
