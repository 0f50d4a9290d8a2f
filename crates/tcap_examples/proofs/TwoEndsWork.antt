-- All that is stated of two ends, on the net of a repeated Begin.
use Rattle.std.proofs.Common.{◌≡◌, ℕ, ℤ, pos, zero, suc, List, Option, Some, None, refl, subst, arith, inl, inr}
use Rattle.std.specs.Prelude.{◌==◌, drop}
use Rattle.std.specs.List.{AllByRecursion}
use Rattle.std.proofs.lemmas.Bool.{cases_Bool}
use Rattle.tcap_examples.proofs.RepeatedBegin.{repeat-first, repeat-origin, repeat-after, repeat-asked}
use Rattle.tcap_examples.proofs.TwoEngines.{above_one, hears_a, side-above}
use Rattle.tcap_examples.proofs.PlaceLemmas.{Everywhere, at_happening, outputs_of, told_there}
use Rattle.tcap_model.specs.Statements.Net.{Engine, Marked, Trace, side}
use Rattle.tcap_model.specs.Invocations.Invocation.{Invocation, invocation_of}
use Rattle.tcap_model.specs.Words.Output.{Output, Closing, Rejector, ComponentIndication}
use Rattle.tcap_model.specs.Words.Request.{Request, ComponentRequest}
use Rattle.tcap_model.specs.Statements.TwoEnds.{Origin, Named, WasSent, AfterInvoke, Once, WasAskedFar, Operations, TwoEnds}
use Rattle.tcap_model.specs.Statements.FarAnswer.{FarAnswer, IsAnswer, ComesFromFar}
use Rattle.tcap_examples.specs.Nets.PlayedNets.{repeated_begin, before_the_repeat}
use Rattle.tcap_examples.specs.Statements.HeadlineExamples.{first}
use Rattle.tcap_examples.specs.Values.DialogueValues.{code}
use Rattle.tcap_model.specs.Words.Event.{Event}
use Rattle.tcap_examples.specs.Nets.Engines.{address_of_a, engine_a, two_places}

-- An answer that is told: its dialogue, number and identifier, and the request that the far user makes for it.
record Answered : Type 0 where
  pub dialogue : ℕ
  pub number : ℕ
  pub id : ℤ
  pub request : Request

-- The answer that a closing indication is.
abbrev closing_answer : ℕ → ℕ → ℤ → Closing → Option Answered
closing_answer dialogue number id (Closing.result_last body) =
    Some (record {
      dialogue = dialogue;
      number = number;
      id = id;
      request =
          Request.component (ComponentRequest.result_last id body);
    })
closing_answer dialogue number id (Closing.error_back code parameter) =
    Some (record {
      dialogue = dialogue;
      number = number;
      id = id;
      request =
          Request.component (ComponentRequest.error_back id code parameter);
    })
closing_answer dialogue number id (Closing.rejected problem Rejector.remote_user) =
    Some (record {
      dialogue = dialogue;
      number = number;
      id = id;
      request =
          Request.component (ComponentRequest.u_reject (Some id) problem);
    })
closing_answer dialogue number id (Closing.rejected problem Rejector.local) = None
closing_answer dialogue number id (Closing.rejected problem Rejector.remote_provider) = None
closing_answer dialogue number id Closing.lapsed = None
closing_answer dialogue number id Closing.ended = None
closing_answer dialogue number id Closing.given_up = None

-- The answer that an output tells.
abbrev answer_in : Output → Option Answered
answer_in (Output.send to bytes) = None
answer_in (Output.dialogue indication) = None
answer_in (Output.component (ComponentIndication.invoked dialogue id linked code parameter)) = None
answer_in (Output.component (ComponentIndication.result_more dialogue number id body)) =
    Some (record {
      dialogue = dialogue;
      number = number;
      id = id;
      request =
          Request.component (ComponentRequest.result_more id body);
    })
answer_in (Output.component (ComponentIndication.local_reject dialogue id problem)) = None
answer_in (Output.component (ComponentIndication.remote_reject dialogue id problem by)) = None
answer_in (Output.component (ComponentIndication.closed dialogue number id closing)) =
    closing_answer dialogue number id closing
answer_in (Output.dropped why) = None

is_in : (dialogue number : ℕ) (id : ℤ) (output : Output) (request : Request)
    → IsAnswer dialogue number id output request
    → answer_in output ≡ Some (record { dialogue = dialogue; number = number; id = id; request = request })
is_in dialogue number id output request (IsAnswer.a_result_last body) = refl
is_in dialogue number id output request (IsAnswer.a_result_more body) = refl
is_in dialogue number id output request (IsAnswer.an_error code parameter) = refl
is_in dialogue number id output request (IsAnswer.a_reject problem) = refl

-- A fact of the answer, if one is told.
abbrev IfAnswer : (Answered → Type 0) → Option Answered → Type 0
IfAnswer P None = Unit {0}
IfAnswer P (Some answer) = P answer

-- A fact of each answer that is told.
abbrev OfAnswers : (Engine → Event → Trace → Answered → Type 0) → Marked → Trace → Type 0
OfAnswers P m before =
    AllByRecursion (λ output. IfAnswer (P m.engine m.pair.event before) (answer_in output)) (outputs_of m.pair.answer)

at_answer : (P : Engine → Event → Trace → Answered → Type 0) (trace : Trace) → Everywhere (OfAnswers P) trace
    → (answer : FarAnswer trace) →
    P answer.engine answer.pair.event answer.before (record {
      dialogue = answer.dialogue;
      number = answer.number;
      id = answer.id;
      request =
          answer.request;
    })
at_answer P trace all answer =
    let here = at_happening (OfAnswers P) trace all answer.engine answer.pair answer.before answer.happens in
    subst (IfAnswer (P answer.engine answer.pair.event answer.before))
    (is_in answer.dialogue answer.number answer.id answer.output answer.request answer.is_answer)
    (told_there (λ output. IfAnswer (P answer.engine answer.pair.event answer.before) (answer_in output)) answer.pair.answer answer.output
    answer.tells here)

-- ---- origin

abbrev IsFromFar : Engine → Event → Trace → Answered → Type 0
IsFromFar engine event before answer = ComesFromFar two_places engine answer.dialogue answer.request event before

origin : Origin two_places repeated_begin.trace
origin = at_answer IsFromFar repeated_begin.trace (
  tt,
  (
    tt,
    (
      (tt, (tt, tt)),
      (
        (tt, (repeat-origin, tt)),
        ((tt, tt), (tt, ((tt, tt), (tt, ((tt, (tt, tt)), ((tt, (tt, tt)), ((tt, tt), (tt, (tt, tt))))))))),
      ),
    ),
  ),
)

-- ---- the invocation that is answered

abbrev IsNamed : Engine → Event → Trace → Answered → Type 0
IsNamed engine event before answer =
    (invocation : Invocation) × (invocation_of answer.number (side engine before) ≡ Some invocation)
    × (invocation.dialogue ≡ answer.dialogue) × (invocation.id ≡ answer.id)

named : Named repeated_begin.trace
named answer =
    let of = at_answer IsNamed repeated_begin.trace (
      tt,
      (
        tt,
        (
          (tt, (tt, tt)),
          (
            (tt, ((first, repeat-first, refl, refl), tt)),
            ((tt, tt), (tt, ((tt, tt), (tt, ((tt, (tt, tt)), ((tt, (tt, tt)), ((tt, tt), (tt, (tt, tt))))))))),
          ),
        ),
      ),
    )
    answer in
    record { invocation = of.0; is_found = of.1; is_of_dialogue = of.2; has_id = of.3 }

-- ---- after the Invoke

abbrev IsAfter : Engine → Event → Trace → Answered → Type 0
IsAfter engine event before answer =
    (source : ComesFromFar two_places engine answer.dialogue answer.request event before)
    → WasSent answer.number (side engine source.before)

after_invoke : AfterInvoke two_places repeated_begin.trace
after_invoke answer source orderly =
    at_answer IsAfter repeated_begin.trace (
      tt,
      (
        tt,
        (
          (tt, (tt, tt)),
          (
            (tt, (repeat-after, tt)),
            ((tt, tt), (tt, ((tt, tt), (tt, ((tt, (tt, tt)), ((tt, (tt, tt)), ((tt, tt), (tt, (tt, tt))))))))),
          ),
        ),
      ),
    )
    answer source

-- ---- once

once : Once repeated_begin.trace
once zero number = elim (cases_Bool (1 == number)) [
  | inl own ↦ rw own (omega arith)
  | inr other ↦ rw other (omega arith)
]
once (suc zero) number = omega arith
once (suc (suc engine)) number =
    rw (side-above 1 (suc (suc engine)) repeated_begin.trace (above_one engine) refl) (omega arith)

-- ---- operations

-- An Invoke that is told was asked for.
abbrev AskedFor : Event → Trace → Output → Type 0
AskedFor event before (Output.send to bytes) = Unit {0}
AskedFor event before (Output.dialogue indication) = Unit {0}
AskedFor event before (Output.component (ComponentIndication.invoked dialogue id linked code parameter)) =
    WasAskedFar two_places event id linked code parameter before
AskedFor event before (Output.component (ComponentIndication.result_more dialogue number id body)) = Unit {0}
AskedFor event before (Output.component (ComponentIndication.local_reject dialogue id problem)) = Unit {0}
AskedFor event before (Output.component (ComponentIndication.remote_reject dialogue id problem by)) = Unit {0}
AskedFor event before (Output.component (ComponentIndication.closed dialogue number id closing)) = Unit {0}
AskedFor event before (Output.dropped why) = Unit {0}

asked-far : {bytes : List ℕ}
    → WasAskedFar two_places (Event.received address_of_a bytes) (pos 1) None (code 10) None before_the_repeat
asked-far = record { far = engine_a; hears = hears_a; was_asked = repeat-asked }

asked-first : {bytes : List ℕ}
    → WasAskedFar two_places (Event.received address_of_a bytes) (pos 1) None (code 10) None (drop 10 repeated_begin.trace)
asked-first = record { far = engine_a; hears = hears_a; was_asked = repeat-asked }

operations : Operations two_places repeated_begin.trace
operations engine dialogue told =
    let Asked : Marked → Trace → Type 0 =
    λ m before. AllByRecursion (AskedFor m.pair.event before) (outputs_of m.pair.answer) in
    let here = at_happening Asked repeated_begin.trace (
      tt,
      (
        tt,
        (
          (tt, (tt, tt)),
          (
            (tt, (tt, tt)),
            (
              (tt, tt),
              (tt, ((tt, tt), (tt, ((tt, (asked-far, tt)), ((tt, (asked-first, tt)), ((tt, tt), (tt, (tt, tt)))))))),
            ),
          ),
        ),
      ),
    )
    engine told.pair told.before told.happens in
    told_there (AskedFor told.pair.event told.before) told.pair.answer
    (Output.component (ComponentIndication.invoked dialogue told.id told.linked told.code told.parameter)) told.tells
    here

pub repeated_begin_is_two_ended : TwoEnds two_places repeated_begin.trace
repeated_begin_is_two_ended =
    record { origin = origin; named = named; after_invoke = after_invoke; once = once; operations = operations }
