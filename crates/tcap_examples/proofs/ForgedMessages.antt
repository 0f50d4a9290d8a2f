-- Two engines and messages that are forged: no answer and no Invoke need come from the other user.
use Rattle.std.proofs.Common.{◌≡◌, pos, [], ◌∷◌, Some, None, refl, ℕ, zero, suc, true, false, List, negsuc, sym, ap, subst, ◌∙◌}
use Rattle.std.specs.Prelude.{drop, take, ◌==◌}
use Rattle.tcap_component.specs.Component.{CodeParts}
use Rattle.tcap_examples.proofs.LegalHistories.{legal}
use Rattle.tcap_examples.proofs.TwoEngines.{above_one, legal-above, heard_is_b, hears_from_a, not_both, sender_is_a}
use Rattle.tcap_examples.proofs.PlaceLemmas.{at_happening, at_place}
use Rattle.tcap_examples.specs.Computing.{computing}
use Rattle.tcap_examples.specs.Values.DialogueValues.{code}
use Rattle.tcap_model.specs.Replies.Legal.{IsLegal}
use Rattle.tcap_model.specs.Statements.Net.{Engine, Marked, Trace, IsCarried, side, history_in, was_sent}
use Rattle.tcap_model.specs.Words.Output.{Output, ComponentIndication, DialogueIndication}
use Rattle.tcap_model.specs.Histories.Pair.{Pair, Past}
use Rattle.tcap_model.specs.Statements.TwoEnds.{WasAsked, WasAskedFar, Origin, Operations}
use Rattle.tcap_model.specs.Statements.FarAnswer.{IsAnswer, ComesFromFar}
use Rattle.tcap_examples.specs.Nets.PlayedNets.{answer, result_continue, forged}
use Rattle.tcap_examples.specs.Values.HistoryWords.{received_pair, continued, empty_result}
use Rattle.std.proofs.lemmas.Bool.{false≢true}
use Rattle.tcap_model.specs.Words.Event.{Event}
use Rattle.tcap_examples.specs.Values.Hex.{hex}
use Rattle.tcap_model.specs.Words.Request.{Request, ComponentRequest}
use Rattle.tcap_examples.specs.Nets.Engines.{address_of_a, engine_a, engine_b, two_places, received_from_a}
use Rattle.tcap_examples.specs.Values.Peer.{arrived}

-- The result that closes the invocation, and what is told of the Begin.
abbrev closes : Output
closes = Output.component (ComponentIndication.closed 1 1 (pos 1) empty_result)

abbrev begun : Output
begun = Output.dialogue (DialogueIndication.begin 1 None [])

abbrev invoked : Output
invoked = Output.component (ComponentIndication.invoked (Some 1) (pos 1) None (code 11) None)

abbrev forged_begin : List ℕ
forged_begin = hex 18 0x6210_480400000001_6C08_A106_020101_02010B

pub forged-legal : (engine : Engine) → IsLegal (history_in forged engine forged.trace)
unfolding computing
forged-legal zero = legal (history_in forged engine_a forged.trace) refl refl refl refl
forged-legal (suc zero) = legal (history_in forged engine_b forged.trace) refl refl refl refl
forged-legal (suc (suc number)) = legal-above (forged.start (suc (suc number))) 1 (suc (suc number)) forged.trace (above_one number) refl refl

pub forged-not_carried : IsCarried two_places forged.trace → ⊥
forged-not_carried carried =
    false≢true (subst (λ (from : Engine). was_sent two_places 1 forged_begin (side from (drop 1 forged.trace)) ≡ true)
    (sender_is_a carried.0.sender carried.0.is_from) carried.0.is_sent)

not_from_far : (dialogue : ℕ) (asked : Request) → ComesFromFar two_places engine_a dialogue asked (arrived result_continue) (drop 2 forged.trace) → ⊥
not_from_far dialogue asked from =
    let All : Marked → Trace → Type 0 = λ m before. m.engine ≡ engine_a in
    not_both (sym (at_happening All (drop 2 forged.trace) (refl, (refl, (refl, (refl, (refl, tt))))) from.far from.pair
    from.before from.happens) ∙ heard_is_b from.far from.hears)

pub forged-no_origin : Origin two_places forged.trace → ⊥
forged-no_origin origin = not_from_far 1 answer (origin (record {
  engine = engine_a;
  pair = received_pair result_continue (continued 1 ∷ closes ∷ []);
  before = drop 2 forged.trace;
  dialogue = 1;
  number = 1;
  id = pos 1;
  output = closes;
  request = answer;
  happens = record { later = take 1 forged.trace; is_trace = refl };
  tells = record { earlier = continued 1 ∷ []; later = []; is_answer = refl };
  is_answer = IsAnswer.a_result_last None;
}))

-- A local operation code.
abbrev local_code : CodeParts → ℕ
local_code (CodeParts.local (pos number)) = number
local_code (CodeParts.local (negsuc number)) = 0
local_code (CodeParts.global octets) = 0

-- The operation that a request asks for; 0 where it asks for none.
abbrev operation : Request → ℕ
operation (Request.component (ComponentRequest.invoke id class code parameter linked timeout)) = local_code code
operation (Request.component (ComponentRequest.result_last id body)) = 0
operation (Request.component (ComponentRequest.result_more id body)) = 0
operation (Request.component (ComponentRequest.error_back id code parameter)) = 0
operation (Request.component (ComponentRequest.u_reject id problem)) = 0
operation (Request.component (ComponentRequest.u_cancel id)) = 0
operation (Request.dialogue asked) = 0

-- The operation that an event asks for.
abbrev asked_for : Event → ℕ
asked_for Event.new_dialogue = 0
asked_for (Event.on_dialogue dialogue request) = operation request
asked_for (Event.received from bytes) = 0
asked_for (Event.moment now) = 0

not_asked : WasAsked (pos 1) None (code 11) None (side engine_a (drop 1 forged.trace)) → ⊥
not_asked asked =
    let Other : Pair → Past → Type 0 = λ pair before. (asked_for pair.event == 11) ≡ false in
    let other = at_place Other (side engine_a (drop 1 forged.trace)) (refl, (refl, (refl, (refl, (refl, (refl, tt))))))
    asked.pair asked.before asked.stands in
    false≢true (sym other ∙ ap (λ (event : Event). asked_for event == 11) asked.is_event)

not_asked_far : WasAskedFar two_places (Event.received address_of_a forged_begin) (pos 1) None (code 11) None (drop 1 forged.trace) → ⊥
not_asked_far asked =
    not_asked (subst (λ (far : Engine). WasAsked (pos 1) None (code 11) None (side far (drop 1 forged.trace)))
    (hears_from_a asked.far asked.hears) asked.was_asked)

pub forged-no_operation : Operations two_places forged.trace → ⊥
forged-no_operation operations = not_asked_far (operations engine_b (Some 1) (record {
  pair = received_from_a (hex 18 0x6210_480400000001_6C08_A106_020101_02010B) (begun ∷ invoked ∷ []);
  before = drop 1 forged.trace;
  id = pos 1;
  linked = None;
  code = code 11;
  parameter = None;
  happens = record { later = []; is_trace = refl };
  tells = record { earlier = begun ∷ []; later = []; is_answer = refl };
}))
