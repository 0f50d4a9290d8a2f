-- Each Invoke that is told was asked for by the user of the engine from which it came, and was sent.
use Rattle.std.proofs.Common.{◌≡◌, ℕ, ℤ, Bool, true, false, ◌||◌, List, [], ◌∷◌, ◌++◌, Option, Some, None, refl, sym, ap, subst, ◌∙◌, inl, inr}
use Rattle.std.specs.List.{AllByRecursion}
use Rattle.std.specs.Prelude.{is_some}
use Rattle.std.proofs.lemmas.Bool.{cases_Bool, eq-eqb}
use Rattle.tcap_component.specs.Component.{ComponentParts, CodeParts, SpellsComponent}
use Rattle.tcap_component.specs.Component.ComponentParts.{invoke, result_last, error_back, reject_back, result_more}
use Rattle.tcap_component.specs.ComponentList.{SpellsComponents}
use Rattle.tcap_component.specs.ComponentReading.{components_of}
use Rattle.tcap_component.proofs.CallerLemmas.{component_spelled, first_fault_again}
use Rattle.tcap_model.specs.Words.Answer.{Answer, is_accepted}
use Rattle.tcap_model.specs.Histories.Clock.{clock}
use Rattle.tcap_model.specs.Statements.ToldFrom.{IsOfComponent, StandsFor}
use Rattle.tcap_model.specs.Words.Event.{Event}
use Rattle.tcap_model.specs.Histories.History.{Start}
use Rattle.tcap_model.specs.Invocations.Invocation.{Invocation, invocation_of, invoked_by, invoked_of, has_id}
use Rattle.tcap_model.specs.Replies.Legal.{AreReplies}
use Rattle.tcap_model.specs.Histories.Life.{Life, life_by_event, touched}
use Rattle.tcap_model.specs.Invocations.Marks.{Mark, Noted, marks, marks_by_event}
use Rattle.tcap_model.specs.Histories.Names.{names}
use Rattle.tcap_model.specs.Statements.Net.{Engine, Trace, side, Net, IsNet}
use Rattle.tcap_model.specs.Invocations.Numbers.{number_of}
use Rattle.tcap_model.specs.Invocations.Outcome.{outcome, outcome_of, was_sent_in}
use Rattle.tcap_model.specs.Words.Output.{Output, ComponentIndication}
use Rattle.tcap_model.specs.Histories.Pair.{Pair, Past}
use Rattle.tcap_model.specs.Statements.Places.{Tells}
use Rattle.tcap_model.specs.Replies.Queue.{queue}
use Rattle.tcap_model.specs.Procedures.QueueRules.{Invoking, Queued, joined}
use Rattle.tcap_model.specs.Words.Request.{Request, ComponentRequest}
use Rattle.tcap_model.specs.Invocations.Reuse.{is_reused}
use Rattle.tcap_model.specs.Invocations.Span.{is_invoked, span}
use Rattle.tcap_model.specs.Statements.TwoEnds.{WasSent, WasAsked, Operations}
use Rattle.tcap_model.specs.Statements.FarAnswer.{Happens}
use Rattle.tcap_laws.proofs.Spans.MarksAfterBirth.{noted_at_clock}
use Rattle.tcap_laws.proofs.Peers.CarriedComponents.{Carried, carried, hears-far, stands-before}
use Rattle.tcap_laws.proofs.Spans.DecisionSteps.{made_found, invocation_stays}
use Rattle.tcap_laws.proofs.Spans.EventMarks.{standing_marks}
use Rattle.tcap_laws.proofs.Spans.QueuedMarks.{IsStanding}
use Rattle.tcap_laws.proofs.Queues.SentComponents.{all-first, same-items}
use Rattle.tcap_laws.proofs.Spans.SentSpans.{was_sent-more, was_sent-at}
use Rattle.tcap_laws.proofs.Spans.SpanSteps.{reused_step, span_grows, span_stays}
use Rattle.tcap_laws.proofs.Spans.SupersededInvocations.{unused_if_open}
use Rattle.tcap_laws.proofs.FarEnds.WaitingInvokes.{IsWritten, invocation_as, IsAsked, IsNoInvoke, Waits, AllWait}
use Rattle.tcap_laws.proofs.FarEnds.WaitingQueues.{queue-waits}
use Rattle.tcap_laws.proofs.ListLemmas.{one-of}

-- ---- what was sent stays so

sent-next : (number : ℕ) (pair : Pair) (past : Past) → WasSent number past → WasSent number (pair ∷ past)
sent-next number pair past was =
    let i : Invocation = was.invocation in
    let found : is_some (invocation_of i.number past) ≡ true = made_found number past i was.is_invocation in
    let is_later : invocation_of number (pair ∷ past) ≡ Some i =
    invocation_stays number pair past i was.is_invocation in
    elim (cases_Bool (is_reused i (pair ∷ past))) [
      | inl used ↦ record {
        invocation = i;
        is_invocation = is_later;
        is_sent = ap (was_sent_in i.class i.timeout) (span_stays i pair past found used) ∙ was.is_sent;
      }
      | inr unused ↦ record {
        invocation = i;
        is_invocation = is_later;
        is_sent = ap (was_sent_in i.class i.timeout) (span_grows i pair past found unused)
            ∙ was_sent-more i.class i.timeout (span i past) (marks i.dialogue i.id pair past) was.is_sent;
      }
    ]

pub sent-later : (number : ℕ) (later past : Past) → WasSent number past → WasSent number (later ++ past)
sent-later number [] past was = was
sent-later number (pair ∷ later) past was = sent-next number pair (later ++ past) (sent-later number later past was)

-- ---- the pair that sends an Invoke

answers-outputs : (answer : Answer) (output : Output) → Tells answer output → is_accepted answer ≡ true
answers-outputs answer output tells = ap is_accepted tells.is_answer

module _ (start : Start) (past : Past) (here : Pair) (legal : AreReplies start past)
    (accepted : is_accepted here.answer ≡ true) (octets : List ℕ) (number dialogue : ℕ)
    (asked : IsAsked dialogue past octets number) where
  abbrev i : Invocation
  i = invocation_as number dialogue asked.id asked.class asked.timeout

  found : is_some (invocation_of number past) ≡ true
  found = made_found number past i asked.is_invocation

  undecided : outcome number past ≡ None
  undecided = ap (λ (o : Option Invocation). outcome_of o past) asked.is_invocation ∙ asked.unsent.unclosed

  unused : invoked_by here ≡ None → is_reused i (here ∷ past) ≡ false
  unused none =
      reused_step i here past found
      ∙ (ap (λ (b : Bool). b || is_invoked (has_id dialogue asked.id) (invoked_by here))
      (unused_if_open start past number i legal asked.is_invocation undecided)
      ∙ ap (is_invoked (has_id dialogue asked.id)) none)

  pub sent-here : (rest : List Mark) → invoked_by here ≡ None
      → marks dialogue asked.id here past ≡ noted_at_clock (clock past) (Mark.sent ∷ rest)
      → WasSent number (here ∷ past)
  sent-here rest none made = record {
    invocation = i;
    is_invocation = invocation_stays number here past i asked.is_invocation;
    is_sent = ap (was_sent_in asked.class asked.timeout)
        (span_grows i here past found (unused none) ∙ ap (λ (w : List Noted). span i past ++ w) made)
        ∙ was_sent-at asked.class asked.timeout (clock past) (span i past) (noted_at_clock (clock past) rest)
        asked.unsent.unclosed;
  }

-- ---- the components of a queue

-- an Invoke in a queue, with what was asked
pub record HasSource (dialogue : ℕ) (past : Past) (id : ℤ) (linked : Option ℤ) (code : CodeParts)
    (parameter : Option (List ℕ)) : Type 0 where
  pub octets : List ℕ
  pub number : ℕ
  pub asked : IsAsked dialogue past octets number
  pub is_id : asked.id ≡ id
  pub is_linked : asked.linked ≡ linked
  pub is_code : asked.code ≡ code
  pub is_parameter : asked.parameter ≡ parameter

abbrev IfInvoke : ℕ → Past → ComponentParts → Type 0
IfInvoke dialogue past (invoke id linked code parameter) = HasSource dialogue past id linked code parameter
IfInvoke dialogue past (result_last id body) = Unit {0}
IfInvoke dialogue past (error_back id code parameter) = Unit {0}
IfInvoke dialogue past (reject_back id problem) = Unit {0}
IfInvoke dialogue past (result_more id body) = Unit {0}

if-none : (dialogue : ℕ) (past : Past) (c : ComponentParts) → IsNoInvoke c → IfInvoke dialogue past c
if-none dialogue past (invoke id linked code parameter) none = absurd none
if-none dialogue past (result_last id body) none = tt
if-none dialogue past (error_back id code parameter) none = tt
if-none dialogue past (reject_back id problem) none = tt
if-none dialogue past (result_more id body) none = tt

spelled-as : (octets : List ℕ) (c : ComponentParts) → IsWritten octets c → SpellsComponent c octets
spelled-as octets c written =
    subst (λ (w : List ℕ). SpellsComponent c w) (sym written.is_octets)
    (component_spelled c written.in_range written.can)

abbrev One : ℕ → Past → List ℕ → Type 0
One dialogue past octets = (c : ComponentParts) × SpellsComponent c octets × IfInvoke dialogue past c

one-waits : (dialogue : ℕ) (past : Past) (octets : List ℕ) (invoking : Option Invoking)
    → Waits dialogue past octets invoking → One dialogue past octets
one-waits dialogue past octets None other = (
  other.component,
  spelled-as octets other.component other.written,
  if-none dialogue past other.component other.no_invoke,
)
one-waits dialogue past octets (Some v) asked = (
  invoke asked.id asked.linked asked.code asked.parameter,
  spelled-as octets (invoke asked.id asked.linked asked.code asked.parameter) asked.written,
  record {
    octets = octets;
    number = v.number;
    asked = asked;
    is_id = refl;
    is_linked = refl;
    is_code =
        refl;
    is_parameter = refl;
  },
)

joined-waits : (dialogue : ℕ) (past : Past) (waits : List Queued) → AllWait dialogue past waits
    → (cs : List ComponentParts) × SpellsComponents cs (joined waits) × AllByRecursion (IfInvoke dialogue past) cs
joined-waits dialogue past [] all = ([], refl, tt)
joined-waits dialogue past (q ∷ waits) all =
    let first = one-waits dialogue past q.octets q.invoking all.0 in
    let others = joined-waits dialogue past waits all.1 in
    (first.0 ∷ others.0, (q.octets, joined waits, first.1, refl, others.1), (first.2, others.2))

-- ---- the Invoke that is told

pub stands-for-invoke : (output : Output) (c : ComponentParts) → StandsFor output c
    → (dialogue : Option ℕ) (id : ℤ) (linked : Option ℤ) (code : CodeParts) (parameter : Option (List ℕ))
    → output ≡ Output.component (ComponentIndication.invoked dialogue id linked code parameter)
    → c ≡ invoke id linked code parameter
stands-for-invoke _ _ (StandsFor.an_invoke d i l k p) dialogue id linked code parameter e =
    let a : i ≡ id = cc in
    let b : l ≡ linked = cc in
    let c : k ≡ code = cc in
    let f : p ≡ parameter = cc in
    ap (λ (x : ℤ). invoke x l k p) a ∙ (ap (λ (x : Option ℤ). invoke id x k p) b
    ∙ (ap (λ (x : CodeParts). invoke id linked x p) c ∙ ap (λ (x : Option (List ℕ)). invoke id linked code x) f))
stands-for-invoke _ _ (StandsFor.a_result_more d n i body) dialogue id linked code parameter e = absurd cc
stands-for-invoke _ _ (StandsFor.a_result_last d n i body) dialogue id linked code parameter e = absurd cc
stands-for-invoke _ _ (StandsFor.an_error d n i k p) dialogue id linked code parameter e = absurd cc
stands-for-invoke _ _ (StandsFor.a_reject d n i problem) dialogue id linked code parameter e = absurd cc

module _ (net : Net) (is : IsNet net) (engine : Engine) (pair : Pair) (before : Trace)
    (happens : Happens engine pair before net.trace) where
  pub source : (output : Output) (it : Carried net engine before pair.event output) (id : ℤ) (linked : Option ℤ)
      (code : CodeParts) (parameter : Option (List ℕ)) → it.told.component ≡ invoke id linked code parameter →
      HasSource it.sent.dialogue it.past id linked code parameter
  source output it id linked code parameter e =
      let told = it.told in
      let sent = it.sent in
      let waits = queue sent.dialogue it.past in
      let all = joined-waits sent.dialogue it.past waits
      (queue-waits (net.start it.far) sent.dialogue it.past it.is_legal.2
      (subst IsStanding (sym sent.is_life) tt)) in
      let read = first_fault_again (told.earlier ++ told.component ∷ told.later) told.fault _ told.read in
      let whole = first_fault_again all.0 None (joined waits) (all-first all.0 (joined waits) all.1) in
      let same = same-items (told.earlier ++ told.component ∷ told.later) all.0 told.fault
      (sym read ∙ (ap components_of sent.takes.is_portion ∙ whole)) in
      let here = one-of (IfInvoke sent.dialogue it.past) told.earlier told.later told.component
      (subst (AllByRecursion (IfInvoke sent.dialogue it.past)) (sym same.0) all.2) in
      subst (IfInvoke sent.dialogue it.past) e here

  -- the Invoke of that was sent
  pub invoke-sent : (output : Output) (it : Carried net engine before pair.event output) (id : ℤ) (linked : Option ℤ)
      (code : CodeParts) (parameter : Option (List ℕ))
      → (from : HasSource it.sent.dialogue it.past id linked code parameter) →
      WasSent from.number (side it.far before)
  invoke-sent output it id linked code parameter from =
      let asked = from.asked in
      let sent = it.sent in
      let sender : Pair = it.sender in
      let accepted : is_accepted sender.answer ≡ true =
      answers-outputs sender.answer (Output.send it.to it.told.bytes) it.tells in
      let named : names sender.event sent.dialogue ≡ true =
      ap (λ (e : Event). names e sent.dialogue) sent.is_event ∙ eq-eqb sent.dialogue sent.dialogue refl in
      let none : invoked_by sender ≡ None =
      ap (λ (e : Event). invoked_of e sender.answer) sent.is_event
      ∙ sent.takes.makes_none sent.dialogue (number_of sender.answer) in
      let standing : Life = Life.standing sent.state sent.context in
      let after : Life = life_by_event sender.idle_ms (touched sent.dialogue it.past) sent.state sent.context
      sender.event (is_accepted sender.answer) in
      let marked = sent.takes.is_sent asked.id standing after in
      let made : marks sent.dialogue asked.id sender it.past ≡ noted_at_clock (clock it.past) (Mark.sent ∷ marked.0) =
      standing_marks sent.dialogue asked.id sender.event sender.answer sender.idle_ms it.past sent.state sent.context sent.is_life
      named
      ∙ ap (noted_at_clock (clock it.past)) (
      ap (λ (b : Bool). marks_by_event asked.id standing
      after sender.event b) accepted
      ∙ (ap (λ (e : Event). marks_by_event asked.id standing
      after e true) sent.is_event
      ∙ marked.1)) in
      subst (WasSent from.number) (sym it.stands.is_past)
      (sent-later from.number it.stands.later (sender ∷ it.past)
      (sent-here (net.start it.far) it.past sender it.is_legal.2 accepted from.octets
      from.number sent.dialogue asked marked.0 none made))

  was-asked : (output : Output) (it : Carried net engine before pair.event output) (id : ℤ) (linked : Option ℤ)
      (code : CodeParts) (parameter : Option (List ℕ)) → HasSource it.sent.dialogue it.past id linked code parameter →
      WasAsked id linked code parameter (side it.far before)
  was-asked output it id linked code parameter from =
      let asked = from.asked in
      let sent = it.sent in
      record {
        pair = asked.pair;
        before = asked.before;
        dialogue = sent.dialogue;
        class = asked.class;
        timeout = asked.timeout;
        number = from.number;
        stands = stands-before asked.pair it.sender asked.before it.past (side it.far before) asked.stands
            it.stands;
        is_event = asked.is_event
            ∙ (ap (λ (x : ℤ). Event.on_dialogue sent.dialogue
            (Request.component (ComponentRequest.invoke x asked.class asked.code asked.parameter asked.linked
            asked.timeout))) from.is_id
            ∙ (ap (λ (x : CodeParts). Event.on_dialogue sent.dialogue
            (Request.component (ComponentRequest.invoke id asked.class x asked.parameter asked.linked
            asked.timeout))) from.is_code
            ∙ (ap (λ (x : Option (List ℕ)). Event.on_dialogue sent.dialogue
            (Request.component (ComponentRequest.invoke id asked.class code x asked.linked asked.timeout)))
            from.is_parameter
            ∙ ap (λ (x : Option ℤ). Event.on_dialogue sent.dialogue
            (Request.component (ComponentRequest.invoke id asked.class code parameter x asked.timeout)))
            from.is_linked)));
        is_answer = asked.is_answer;
        was_sent = invoke-sent output it id linked code parameter from;
      }

pub operations : (net : Net) → IsNet net → Operations net.places net.trace
operations net is engine dialogue told =
    let output : Output =
    Output.component (ComponentIndication.invoked dialogue told.id told.linked told.code told.parameter) in
    let of : IsOfComponent output = IsOfComponent.invoke dialogue told.id told.linked told.code told.parameter in
    let it = carried net is engine told.pair told.before told.happens output told.tells of in
    let is_invoke = stands-for-invoke output it.told.component it.told.stands_for dialogue told.id told.linked told.code
    told.parameter refl in
    record {
      far = it.far;
      hears = hears-far net engine told.before told.pair.event output it;
      was_asked = was-asked net is engine told.pair told.before told.happens output it told.id told.linked told.code
          told.parameter (source net is engine told.pair told.before told.happens output it told.id told.linked
          told.code told.parameter is_invoke);
    }
