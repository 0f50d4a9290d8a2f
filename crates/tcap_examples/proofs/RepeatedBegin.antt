-- The statements about two ends on the net of a repeated Begin: the premises, and the conclusions.
use Rattle.std.proofs.Common.{◌≡◌, ℕ, pos, [], ◌∷◌, Some, None, refl}
use Rattle.std.specs.Prelude.{drop, take}
use Rattle.tcap_component.specs.Component.{CodeParts}
use Rattle.tcap_invocation.specs.declared.class.Class.TheVariants.{One}
use Rattle.tcap_examples.proofs.EndPremises.{answers_what_it_was_told, uses_once}
use Rattle.tcap_examples.proofs.TwoEngines.{hears_b, heard_is_b, not_both}
use Rattle.tcap_examples.proofs.PlaceLemmas.{at_happening}
use Rattle.tcap_model.specs.Words.Answer.{Answer}
use Rattle.tcap_examples.specs.Computing.{computing}
use Rattle.tcap_model.specs.Invocations.Invocation.{invocation_of}
use Rattle.tcap_model.specs.Statements.Net.{Marked, Trace, side}
use Rattle.tcap_model.specs.Words.Output.{Output, DialogueIndication}
use Rattle.tcap_model.specs.Statements.Places.{Tells}
use Rattle.tcap_model.specs.Statements.TwoEnds.{UsesOnce, AnswersWhatItWasTold, WasOpened, WasSent, WasAsked}
use Rattle.tcap_model.specs.Statements.FarAnswer.{Happens, IsAnswer, ComesFromFar}
use Rattle.tcap_examples.specs.Nets.PlayedNets.{invoked, repeated_begin, before_the_answer, answer_told, answer_closes, second_body, second_request, before_the_repeat, repeat_told}
use Rattle.tcap_examples.specs.Nets.Play as play
use Rattle.tcap_examples.specs.Statements.HeadlineExamples.{first}
use Rattle.tcap_examples.specs.Values.HistoryWords.{dialogue_born, invoke_pair, request_pair, continued}
use Rattle.tcap_examples.specs.Nets.Engines.{engine_a, engine_b, two_places, received_from_a}

abbrev begun : ℕ → Output
begun dialogue = Output.dialogue (DialogueIndication.begin dialogue None [])

pub repeat-answer-happens : Happens engine_a answer_told before_the_answer repeated_begin.trace
repeat-answer-happens = record { later = take 3 repeated_begin.trace; is_trace = refl }

pub repeat-answer-tells : Tells answer_told.answer answer_closes
repeat-answer-tells = record { earlier = continued 1 ∷ []; later = []; is_answer = refl }

pub repeat-is-answer : IsAnswer 1 1 (pos 1) answer_closes second_request
repeat-is-answer = IsAnswer.a_result_last (Some second_body)

pub repeat-origin : ComesFromFar two_places engine_a 1 second_request answer_told.event before_the_answer
unfolding computing
repeat-origin = record {
  far = engine_b;
  hears = hears_b;
  pair = request_pair 2 second_request Answer.done;
  before = drop 6 repeated_begin.trace;
  happens = record { later = take 1 before_the_answer; is_trace = refl };
  is_request = record { far_dialogue = 2; is_event = refl; accepted = refl; is_peer = refl; is_kept = refl };
}

pub repeat-uses_once : UsesOnce engine_a 1 repeated_begin.trace
repeat-uses_once = uses_once engine_a 1 1 repeated_begin.trace (tt, (tt, (tt, (tt, ((λ own. refl), (tt, tt))))))

pub repeat-answers : AnswersWhatItWasTold engine_b repeated_begin.trace
repeat-answers = answers_what_it_was_told engine_b repeated_begin.trace (
  tt,
  (
    tt,
    (
      record {
        pair = received_from_a play.first_begin (play.begin_told 2);
        before = received_from_a play.first_begin (play.begin_told 1) ∷ [];
        linked = None;
        code = CodeParts.local (pos 10);
        parameter = None;
        stands = record { later = drop 3 (take 5 (side engine_b repeated_begin.trace)); is_past = refl };
        tells = record { earlier = begun 2 ∷ []; later = []; is_answer = refl };
      },
      (
        tt,
        (
          record {
            pair = received_from_a play.first_begin (play.begin_told 1);
            before = [];
            linked = None;
            code = CodeParts.local (pos 10);
            parameter = None;
            stands = record { later = received_from_a play.first_begin (play.begin_told 2) ∷ []; is_past = refl };
            tells = record { earlier = begun 1 ∷ []; later = []; is_answer = refl };
          },
          (tt, (tt, tt)),
        ),
      ),
    ),
  ),
)

pub repeat-opened : WasOpened engine_a 1 repeated_begin.trace
repeat-opened = record {
  pair = dialogue_born 1;
  before = [];
  stands = record { later = take 5 (side engine_a repeated_begin.trace); is_past = refl };
  is_event = refl;
  is_answer = refl;
}

sent : WasSent 1 (side engine_a (drop 10 repeated_begin.trace))
unfolding computing
sent = record { invocation = first; is_invocation = refl; is_sent = refl }

pub repeat-first : invocation_of 1 (side engine_a before_the_answer) ≡ Some first
unfolding computing
repeat-first = refl

pub repeat-after : (source : ComesFromFar two_places engine_a 1 second_request answer_told.event before_the_answer)
    → WasSent 1 (side engine_a source.before)
repeat-after source =
    let After : Marked → Trace → Type 0 = λ m earlier. m.engine ≡ engine_b → WasSent 1 (side engine_a earlier) in
    let b : engine_b ≡ engine_b → WasSent 1 (side engine_a (drop 10 repeated_begin.trace)) = λ own. sent in
    at_happening After before_the_answer (
      b,
      (
        b,
        (
          b,
          (
            b,
            (
              b,
              (
                b,
                (
                  (λ a. absurd (not_both a)),
                  ((λ a. absurd (not_both a)), ((λ a. absurd (not_both a)), tt)),
                ),
              ),
            ),
          ),
        ),
      ),
    )
    source.far source.pair source.before source.happens (heard_is_b source.far source.hears)

pub repeat-invoked-happens : Happens engine_b repeat_told before_the_repeat repeated_begin.trace
repeat-invoked-happens = record { later = take 8 repeated_begin.trace; is_trace = refl }

pub repeat-invoked-tells : Tells repeat_told.answer (invoked 2)
repeat-invoked-tells = record { earlier = begun 2 ∷ []; later = []; is_answer = refl }

pub repeat-asked : WasAsked (pos 1) None (CodeParts.local (pos 10)) None (side engine_a before_the_repeat)
repeat-asked = record {
  pair = invoke_pair 1 (pos 1) One (pos 10) 1000 (Answer.number 1);
  before = dialogue_born 1 ∷ [];
  dialogue = 1;
  class = One;
  timeout = 1000;
  number = 1;
  stands = record { later = take 1 (side engine_a before_the_repeat); is_past = refl };
  is_event = refl;
  is_answer = refl;
  was_sent = sent;
}

-- What the tests state.
pub ruleset repeated_begin_works = (
  repeat-answer-happens,
  repeat-answer-tells,
  repeat-is-answer,
  repeat-origin,
  repeat-opened,
  repeat-invoked-happens,
  repeat-invoked-tells,
  repeat-asked,
)
