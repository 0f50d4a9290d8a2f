-- An Invoke that is told and wasn't received.
use Rattle.std.proofs.Common.{◌≡◌, ℕ, Bool, false, true, pos, negsuc, List, [], ◌∷◌, ◌++◌, Some, None, Ok, refl, sym, ap, subst, ◌∙◌}
use Rattle.std.specs.Prelude.{◌==◌}
use Rattle.std.specs.List.{list_any}
use Rattle.std.proofs.lemmas.Bool.{false≢true}
use Rattle.tcap_pdu.specs.FrameReading.{frame_at}
use Rattle.tcap_component.specs.Component.{ComponentParts, CodeParts}
use Rattle.tcap_examples.proofs.ComponentPremises.{spelled_read}
use Rattle.tcap_examples.proofs.PlaceLemmas.{any_there, outputs_of}
use Rattle.tcap_model.specs.Words.Answer.{Answer}
use Rattle.tcap_model.specs.Statements.ToldFrom.{StandsFor, IsOfComponent, ToldFromOne, ToldFrom}
use Rattle.tcap_examples.specs.Computing.{computing}
use Rattle.tcap_model.specs.Words.Event.{Event}
use Rattle.tcap_examples.specs.Values.DialogueValues.{context as context_name, begin_with_aarq, code}
use Rattle.tcap_examples.specs.Values.Hex.{hex}
use Rattle.tcap_model.specs.Words.Output.{Output, ComponentIndication, DialogueIndication}
use Rattle.tcap_examples.specs.Statements.ComponentExamples.{begun_message, invoke_read, misread, misread_told}
use Rattle.tcap_examples.specs.Wrong.WrongHistories.{GoesWrong, whole}
use Rattle.tcap_examples.specs.Values.Peer.{arrived}

-- Whether a code is that of operation 3.
abbrev is_three : CodeParts → Bool
is_three (CodeParts.local (pos number)) = number == 3
is_three (CodeParts.local (negsuc number)) = false
is_three (CodeParts.global octets) = false

-- Whether a component is an Invoke of operation 3.
abbrev asks_for_three : ComponentParts → Bool
asks_for_three (ComponentParts.invoke id linked code parameter) = is_three code
asks_for_three (ComponentParts.result_last id body) = false
asks_for_three (ComponentParts.error_back id code parameter) = false
asks_for_three (ComponentParts.reject_back id problem) = false
asks_for_three (ComponentParts.result_more id body) = false

-- Whether an output tells operation 3.
abbrev tells_three : Output → Bool
tells_three (Output.send to bytes) = false
tells_three (Output.dialogue indication) = false
tells_three (Output.component (ComponentIndication.invoked dialogue id linked code parameter)) = is_three code
tells_three (Output.component (ComponentIndication.result_more dialogue number id body)) = false
tells_three (Output.component (ComponentIndication.local_reject dialogue id problem)) = false
tells_three (Output.component (ComponentIndication.remote_reject dialogue id problem by)) = false
tells_three (Output.component (ComponentIndication.closed dialogue number id closing)) = false
tells_three (Output.dropped why) = false

stands_for_three : (output : Output) (component : ComponentParts) → StandsFor output component
    → tells_three output ≡ asks_for_three component
stands_for_three output component (StandsFor.an_invoke dialogue id linked code parameter) = refl
stands_for_three output component (StandsFor.a_result_more dialogue number id body) = refl
stands_for_three output component (StandsFor.a_result_last dialogue number id body) = refl
stands_for_three output component (StandsFor.an_error dialogue number id code parameter) = refl
stands_for_three output component (StandsFor.a_reject dialogue number id problem) = refl

-- The bytes that were received; none of any other event.
abbrev bytes_of : Event → List ℕ
bytes_of Event.new_dialogue = []
bytes_of (Event.on_dialogue dialogue request) = []
bytes_of (Event.received from bytes) = bytes
bytes_of (Event.moment now) = []

not_received : ToldFromOne (arrived begin_with_aarq) misread_told → ⊥
unfolding computing
not_received told =
    let same : begin_with_aarq ≡ told.bytes = ap bytes_of told.is_event in
    let read = spelled_read told.bytes told.message begun_message (told.earlier ++ told.component ∷ told.later)
    (invoke_read ∷ []) told.fault None (subst (λ (bytes : List ℕ). frame_at bytes ≡ Ok begun_message) same refl)
    refl told.spelled told.read in
    let three : list_any asks_for_three (told.earlier ++ told.component ∷ told.later) ≡ true =
    any_there asks_for_three told.earlier told.later told.component
    (sym (stands_for_three misread_told told.component told.stands_for)) in
    false≢true (sym (ap (list_any asks_for_three) read) ∙ three)

pub misread-not_told_from : ToldFrom (whole misread) → ⊥
misread-not_told_from from = not_received (from (record {
  pair = misread.last;
  before = [];
  output = misread_told;
  stands = record { later = []; is_past = refl };
  tells = record {
    earlier = Output.dialogue (DialogueIndication.begin 1 (Some context_name) []) ∷ [];
    later =
        [];
    is_answer = refl;
  };
  is_of_component = IsOfComponent.invoke (Some 1) (pos 1) None (code 3) (Some (hex 5 0x3003_0401AA));
}))

pub misread-wrong : GoesWrong misread
unfolding computing
misread-wrong = record {
  legal_before = (refl, tt);
  not_legal =
      λ legal. false≢true (sym (ap (λ (answer : Answer). list_any tells_three (outputs_of answer)) legal.1.1));
}

-- What the tests state.
pub ruleset components_broken = (misread-wrong)
