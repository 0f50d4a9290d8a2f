-- Three nets in which an answer comes ahead of its Invoke: each breaks one premise of "after the
-- Invoke" and keeps the others.
use Rattle.std.proofs.Common.{◌≡◌, ℕ, zero, suc, pos, [], ◌∷◌, None, refl, arith}
use Rattle.std.specs.Prelude.{drop, take}
use Rattle.tcap_component.specs.Component.{CodeParts}
use Rattle.tcap_invocation.specs.declared.class.Class.TheVariants.{One}
use Rattle.tcap_examples.proofs.LegalHistories.{legal}
use Rattle.tcap_examples.proofs.EndPremises.{answers_what_it_was_told, uses_once, not_told, not_opened}
use Rattle.tcap_examples.proofs.PlaceLemmas.{not_sent}
use Rattle.tcap_examples.proofs.TwoEngines.{above_one, legal-above, from_a, from_b, hears_b, two-apart}
use Rattle.tcap_model.specs.Words.Answer.{Answer}
use Rattle.tcap_examples.specs.Computing.{computing}
use Rattle.tcap_model.specs.Replies.Legal.{IsLegal}
use Rattle.tcap_model.specs.Statements.Net.{Engine, IsNet, side, history_in}
use Rattle.tcap_model.specs.Words.Output.{Output, ComponentIndication, DialogueIndication}
use Rattle.tcap_model.specs.Statements.TwoEnds.{AcceptedAnswer, AcceptedInvoke, UsesOnce, AnswersInvoke, AnswersWhatItWasTold, WasOpened}
use Rattle.tcap_model.specs.Statements.FarAnswer.{IsAnswer}
use Rattle.tcap_examples.specs.Nets.PlayedNets.{invoked, answer, result_continue, used_again, IsAnsweredAhead, second_invoke, answered_ahead, heard_as_one}
use Rattle.tcap_examples.specs.Values.HistoryWords.{dialogue_born, invoke_pair, request_pair, received_pair, continued, empty_result}
use Rattle.tcap_examples.specs.Values.Hex.{hex}
use Rattle.tcap_examples.specs.Nets.Engines.{engine_a, engine_b, received_from_a}

-- The result that closes the invocation of a number.
abbrev closes : ℕ → Output
closes number = Output.component (ComponentIndication.closed 1 number (pos 1) empty_result)

-- ---- an answer ahead

pub ahead-uses_once : UsesOnce engine_a 1 answered_ahead.trace
ahead-uses_once = uses_once engine_a 1 1 answered_ahead.trace (tt, (tt, ((λ own. refl), (tt, (tt, (tt, tt))))))

pub ahead-opened : WasOpened engine_a 1 answered_ahead.trace
ahead-opened = record {
  pair = dialogue_born 1;
  before = [];
  stands = record { later = take 5 (side engine_a answered_ahead.trace); is_past = refl };
  is_event = refl;
  is_answer = refl;
}

pub ahead-fails : IsAnsweredAhead engine_a 1 1 answered_ahead.trace
unfolding computing
ahead-fails = record {
  pair = received_pair result_continue (continued 1 ∷ closes 1 ∷ []);
  before = drop 1 answered_ahead.trace;
  id = pos 1;
  output = closes 1;
  request = answer;
  asked = request_pair 1 answer Answer.done;
  earlier = drop 5 answered_ahead.trace;
  happens = record { later = []; is_trace = refl };
  tells = record { earlier = continued 1 ∷ []; later = []; is_answer = refl };
  is_answer = IsAnswer.a_result_last None;
  far = engine_b;
  hears = hears_b;
  was_asked = record { later = take 3 (drop 1 answered_ahead.trace); is_trace = refl };
  is_far_request = record { far_dialogue = 1; is_event = refl; accepted = refl; is_peer = refl; is_kept = refl };
  not_sent = not_sent 1 (side engine_a (drop 5 answered_ahead.trace)) refl;
}

pub ahead-untold : AnswersWhatItWasTold engine_b answered_ahead.trace → ⊥
ahead-untold told =
    let past = side engine_b answered_ahead.trace in
    let ahead : AcceptedAnswer past = record {
      pair = request_pair 1 answer Answer.done;
      before = drop 2 past;
      dialogue = 1;
      id = pos 1;
      request = answer;
      stands = record { later = take 1 past; is_past = refl };
      is_event = refl;
      accepted = refl;
      answers = AnswersInvoke.a_result_last None;
    } in
    not_told 1 (pos 1) (drop 2 past) (refl, (refl, tt)) (told ahead)

-- ---- two dialogues heard as one

heard-legal : (engine : Engine) → IsLegal (history_in heard_as_one engine heard_as_one.trace)
unfolding computing
heard-legal zero = legal (history_in heard_as_one engine_a heard_as_one.trace) refl refl refl refl
heard-legal (suc zero) = legal (history_in heard_as_one engine_b heard_as_one.trace) refl refl refl refl
heard-legal (suc (suc number)) = legal-above (heard_as_one.start (suc (suc number))) 1 (suc (suc number)) heard_as_one.trace (above_one number) refl refl

pub heard-net : IsNet heard_as_one
heard-net = record {
  is_legal = heard-legal;
  are_apart = two-apart;
  is_carried = (from_b refl, (tt, (tt, (tt, (tt, (from_a refl, (tt, (tt, (from_a refl, (tt, (from_b refl, (from_b refl, (tt, (tt, tt))))))))))))));
}

pub heard-uses_once : UsesOnce engine_a 1 heard_as_one.trace
heard-uses_once = uses_once engine_a 1 2 heard_as_one.trace
    (tt, (tt, ((λ own. refl), (tt, ((λ other. absurd (omega (arith, other))), (tt, (tt, (tt, tt))))))))

pub heard-answers : AnswersWhatItWasTold engine_b heard_as_one.trace
heard-answers = answers_what_it_was_told engine_b heard_as_one.trace (
  tt,
  (
    record {
      pair = received_from_a second_invoke (continued 1 ∷ invoked 1 ∷ []);
      before = drop 3 (side engine_b heard_as_one.trace);
      linked = None;
      code = CodeParts.local (pos 10);
      parameter = None;
      stands = record { later = []; is_past = refl };
      tells = record { earlier = continued 1 ∷ []; later = []; is_answer = refl };
    },
    (tt, (tt, (tt, (tt, tt)))),
  ),
)

pub heard-fails : IsAnsweredAhead engine_a 1 2 heard_as_one.trace
unfolding computing
heard-fails = record {
  pair = received_pair result_continue (continued 1 ∷ closes 2 ∷ []);
  before = drop 1 heard_as_one.trace;
  id = pos 1;
  output = closes 2;
  request = answer;
  asked = request_pair 1 answer Answer.done;
  earlier = drop 5 heard_as_one.trace;
  happens = record { later = []; is_trace = refl };
  tells = record { earlier = continued 1 ∷ []; later = []; is_answer = refl };
  is_answer = IsAnswer.a_result_last None;
  far = engine_b;
  hears = hears_b;
  was_asked = record { later = take 3 (drop 1 heard_as_one.trace); is_trace = refl };
  is_far_request = record { far_dialogue = 1; is_event = refl; accepted = refl; is_peer = refl; is_kept = refl };
  not_sent = not_sent 2 (side engine_a (drop 5 heard_as_one.trace)) refl;
}

pub heard-not_opened : WasOpened engine_a 1 heard_as_one.trace → ⊥
heard-not_opened =
    not_opened engine_a 1 heard_as_one.trace (refl, (refl, (refl, (refl, (refl, (refl, (refl, (refl, tt))))))))

-- ---- an identifier used again

abbrev begun : Output
begun = Output.dialogue (DialogueIndication.begin 1 None [])

again-legal : (engine : Engine) → IsLegal (history_in used_again engine used_again.trace)
unfolding computing
again-legal zero = legal (history_in used_again engine_a used_again.trace) refl refl refl refl
again-legal (suc zero) = legal (history_in used_again engine_b used_again.trace) refl refl refl refl
again-legal (suc (suc number)) = legal-above (used_again.start (suc (suc number))) 1 (suc (suc number)) used_again.trace (above_one number) refl refl

pub again-net : IsNet used_again
again-net = record {
  is_legal = again-legal;
  are_apart = two-apart;
  is_carried = (from_b refl, (tt, (tt, (tt, (from_b refl, (tt, (tt, (from_a refl, (tt, (tt, (tt, tt)))))))))));
}

pub again-answers : AnswersWhatItWasTold engine_b used_again.trace
again-answers = answers_what_it_was_told engine_b used_again.trace (
  tt,
  (
    record {
      pair = received_from_a (hex 18 0x6210_480400000001_6C08_A106_020101_02010A) (begun ∷ invoked 1 ∷ []);
      before = [];
      linked = None;
      code = CodeParts.local (pos 10);
      parameter = None;
      stands = record { later = []; is_past = refl };
      tells = record { earlier = begun ∷ []; later = []; is_answer = refl };
    },
    (tt, tt),
  ),
)

pub again-opened : WasOpened engine_a 1 used_again.trace
again-opened = record {
  pair = dialogue_born 1;
  before = [];
  stands = record { later = take 7 (side engine_a used_again.trace); is_past = refl };
  is_event = refl;
  is_answer = refl;
}

pub again-fails : IsAnsweredAhead engine_a 1 2 used_again.trace
unfolding computing
again-fails = record {
  pair = received_pair result_continue (continued 1 ∷ closes 2 ∷ []);
  before = drop 1 used_again.trace;
  id = pos 1;
  output = closes 2;
  request = answer;
  asked = request_pair 1 answer Answer.done;
  earlier = drop 7 used_again.trace;
  happens = record { later = []; is_trace = refl };
  tells = record { earlier = continued 1 ∷ []; later = []; is_answer = refl };
  is_answer = IsAnswer.a_result_last None;
  far = engine_b;
  hears = hears_b;
  was_asked = record { later = take 5 (drop 1 used_again.trace); is_trace = refl };
  is_far_request = record { far_dialogue = 1; is_event = refl; accepted = refl; is_peer = refl; is_kept = refl };
  not_sent = not_sent 2 (side engine_a (drop 7 used_again.trace)) refl;
}

-- The two invocations have one identifier.
pub again-used_twice : UsesOnce engine_a 1 used_again.trace → ⊥
again-used_twice once =
    let past = side engine_a used_again.trace in
    let one : AcceptedInvoke past = record {
      pair = invoke_pair 1 (pos 1) One (pos 10) 5000 (Answer.number 1);
      before = drop 7 past;
      invocation = record { number = 1; dialogue = 1; id = pos 1; class = One; timeout = 5000 };
      stands = record { later = take 6 past; is_past = refl };
      makes = refl;
    } in
    let other : AcceptedInvoke past = record {
      pair = invoke_pair 1 (pos 1) One (pos 10) 5000 (Answer.number 2);
      before = drop 3 past;
      invocation = record { number = 2; dialogue = 1; id = pos 1; class = One; timeout = 5000 };
      stands = record { later = take 2 past; is_past = refl };
      makes = refl;
    } in
    let same : 1 ≡ 2 = once one other refl refl refl in
    omega (arith, same)

-- What the tests state.
pub ruleset answers_ahead = (
  ahead-opened,
  ahead-fails,
  ahead-untold,
  heard-net,
  heard-fails,
  heard-not_opened,
  again-net,
  again-opened,
  again-fails,
)
