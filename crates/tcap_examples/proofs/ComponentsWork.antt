-- The statements about components on worked histories: the premises, and the conclusions.
use Rattle.std.proofs.Common.{◌≡◌, ℕ, ℤ, pos, negsuc, List, [], ◌∷◌, Option, Some, None, false, length, refl, sym, ap, subst, ◌∙◌, inl, inr}
use Rattle.std.specs.Prelude.{take, ◌==◌}
use Rattle.std.proofs.lemmas.Bool.{false≢true}
use Rattle.tcap_pdu.proofs.CallerLemmas.{frame_takes}
use Rattle.tcap_component.specs.Component.{ComponentParts, CodeParts, component_tag}
use Rattle.tcap_examples.proofs.LegalHistories.{goes_wrong}
use Rattle.tcap_examples.proofs.Apart.{apart}
use Rattle.tcap_examples.proofs.ComponentPremises.{first_fault_at, told_from}
use Rattle.tcap_examples.proofs.PlaceLemmas.{at_place}
use Rattle.tcap_model.specs.Statements.ToldFrom.{StandsFor, IsOfComponent, ToldFromOne, ToldFrom}
use Rattle.tcap_model.specs.Statements.SentFrom.{SentPortion, WasRequested, WasFormed, ComesFrom, SentFrom}
use Rattle.tcap_model.specs.Statements.ComponentPortion.{portion_of}
use Rattle.tcap_examples.specs.Computing.{computing}
use Rattle.tcap_model.specs.Words.Event.{Event}
use Rattle.tcap_examples.specs.Values.DialogueValues.{context, begin_with_aarq, general, code}
use Rattle.tcap_examples.specs.Values.Hex.{hex}
use Rattle.tcap_model.specs.Words.Output.{Output, ComponentIndication, DialogueIndication}
use Rattle.tcap_model.specs.Histories.Pair.{Pair, Past}
use Rattle.tcap_model.specs.Statements.Places.{StandsIn, Tells}
use Rattle.tcap_examples.specs.Statements.ComponentExamples.{past, result_received, result_told, result_pair, result_message, received_result, unknown_component, before_the_result, begin_received, invoke_told, begun_pair, begun_message, invoke_read, crossed_queues, crossed_sent, crossed_message, crossed_invoke}
use Rattle.tcap_examples.specs.Wrong.WrongHistories.{GoesWrong, whole}
use Rattle.tcap_examples.specs.Values.HistoryWords.{continued}
use Rattle.tcap_examples.proofs.ComponentsSent.{begin-stands, begin-tells, begin-spelled, begin-first, begin-sent-from, reject-stands, reject-tells, reject-spelled, reject-first, formed, reject-sent-from}
use Rattle.tcap_examples.specs.Values.Peer.{peer_address}

-- ---- the result that is told

pub result-stands : StandsIn result_pair before_the_result past
result-stands = record { later = take 1 past; is_past = refl }

pub result-tells : Tells result_pair.answer result_told
result-tells = record {
  earlier = continued 1 ∷ [];
  later =
      Output.component (ComponentIndication.local_reject (Some 1) (Some (pos 7)) (general 0)) ∷ [];
  is_answer = refl;
}

pub result-is : IsOfComponent result_told
result-is = IsOfComponent.result_last 1 1 (negsuc 127) None

pub result-told-from : ToldFromOne result_pair.event result_told
unfolding computing
result-told-from = record {
  from = peer_address;
  bytes = result_received;
  message = result_message;
  earlier = [];
  component = received_result;
  later = [];
  fault = Some unknown_component;
  is_event = refl;
  spelled = frame_takes result_received result_message refl;
  read = first_fault_at (portion_of result_message) (received_result ∷ []) (Some unknown_component) refl;
  stands_for = StandsFor.a_result_last 1 1 (negsuc 127) None;
}

pub past-told-from : ToldFrom past
past-told-from = told_from past ((tt, tt), ((tt, (result-told-from, (tt, tt))), ((tt, tt), (tt, (tt, (tt, tt))))))

-- ---- the Invoke that is told

pub begun-stands : StandsIn begun_pair [] begin_received
begun-stands = record { later = take 1 begin_received; is_past = refl }

pub begun-tells : Tells begun_pair.answer invoke_told
begun-tells = record {
  earlier = Output.dialogue (DialogueIndication.begin 1 (Some context) []) ∷ [];
  later =
      [];
  is_answer = refl;
}

pub begun-is : IsOfComponent invoke_told
begun-is = IsOfComponent.invoke (Some 1) (pos 1) None (code 2) (Some (hex 5 0x3003_0401AA))

pub begun-told-from : ToldFromOne begun_pair.event invoke_told
unfolding computing
begun-told-from = record {
  from = peer_address;
  bytes = begin_with_aarq;
  message = begun_message;
  earlier = [];
  component = invoke_read;
  later = [];
  fault = None;
  is_event = refl;
  spelled = frame_takes begin_with_aarq begun_message refl;
  read = first_fault_at (portion_of begun_message) (invoke_read ∷ []) None refl;
  stands_for = StandsFor.an_invoke (Some 1) (pos 1) None (code 2) (Some (hex 5 0x3003_0401AA));
}

pub begin-told : ToldFrom begin_received
begin-told = told_from begin_received ((tt, tt), ((tt, (begun-told-from, tt)), tt))

-- ---- queues that are crossed

pub crossed-wrong : GoesWrong crossed_queues
unfolding computing
crossed-wrong = goes_wrong crossed_queues refl refl refl refl refl

-- The dialogue of a request; 0 of any other event.
abbrev asked : Event → ℕ
asked Event.new_dialogue = 0
asked (Event.on_dialogue dialogue request) = dialogue
asked (Event.received from bytes) = 0
asked (Event.moment now) = 0

not_requested : (component : ComponentParts) → WasRequested 2 component crossed_queues.before → ⊥
not_requested component requested =
    let other = at_place (λ (pair : Pair) before. (asked pair.event == 2) ≡ false) crossed_queues.before
    (refl, (refl, (refl, tt))) requested.pair requested.before requested.stands in
    false≢true (sym other ∙ ap (λ (event : Event). asked event == 2) requested.is_event)

not_formed : (id : ℤ) (linked : Option ℤ) (code : CodeParts) (parameter : Option (List ℕ)) (dialogue : ℕ)
    (before : Past) → WasFormed dialogue (ComponentParts.invoke id linked code parameter) before → ⊥
not_formed id linked code parameter dialogue before formed = apart component_tag formed.is_component refl

not_from : (dialogue : ℕ) → 2 ≡ dialogue → ComesFrom dialogue crossed_queues.before crossed_invoke → ⊥
not_from dialogue is from = elim (subst (λ (d : ℕ). ComesFrom d crossed_queues.before crossed_invoke) (sym is) from) [
  | inl requested ↦ not_requested crossed_invoke requested
  | inr formed ↦ not_formed (pos 1) None (code 10) None 2 crossed_queues.before formed
]

pub crossed-not-sent-from : SentFrom (whole crossed_queues) → ⊥
unfolding computing
crossed-not-sent-from from =
    let sent : SentPortion (whole crossed_queues) = record {
      pair = crossed_queues.last;
      before = crossed_queues.before;
      to = peer_address;
      bytes = crossed_sent;
      message = crossed_message;
      components = crossed_invoke ∷ [];
      fault = None;
      stands = record { later = []; is_past = refl };
      tells = record { earlier = []; later = []; is_answer = refl };
      spelled = frame_takes crossed_sent crossed_message refl;
      read = first_fault_at (portion_of crossed_message) (crossed_invoke ∷ []) None refl;
    } in
    elim (from sent) [
      | inl empty ↦ apart length empty refl
      | inr one ↦ not_from one.dialogue (ap asked one.is_event) one.each.0
    ]

-- What the tests state.
pub ruleset components_work = (begin-stands, begin-tells, begin-spelled, begin-first, begin-sent-from, reject-stands, reject-tells, reject-spelled, reject-first, reject-sent-from, result-stands, result-tells, result-is, result-told-from, begun-stands, begun-tells, begun-is, begun-told-from, crossed-wrong)
