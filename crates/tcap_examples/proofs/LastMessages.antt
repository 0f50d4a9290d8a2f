-- Nets in which an Invoke ends what carries it, and an Invoke that is never sent.
use Rattle.std.proofs.Common.{pos, [], ◌∷◌, None, refl}
use Rattle.std.specs.Prelude.{drop, take}
use Rattle.tcap_invocation.specs.declared.class.Class.TheVariants.{One, Four}
use Rattle.tcap_examples.proofs.PlaceLemmas.{never_sent}
use Rattle.tcap_model.specs.Words.Answer.{Answer}
use Rattle.tcap_examples.specs.Computing.{computing}
use Rattle.tcap_examples.specs.Values.DialogueValues.{code}
use Rattle.tcap_model.specs.Invocations.Invocation.{Invocation}
use Rattle.tcap_model.specs.Statements.Net.{side}
use Rattle.tcap_model.specs.Words.Output.{Output, ComponentIndication, DialogueIndication}
use Rattle.tcap_model.specs.Statements.Places.{Tells}
use Rattle.tcap_model.specs.Statements.TwoEnds.{WasSent, WasAsked}
use Rattle.tcap_model.specs.Statements.FarAnswer.{Happens}
use Rattle.tcap_examples.specs.Nets.PlayedNets.{invoked, alone_told, in_a_unidirectional, end_told, in_an_end}
use Rattle.tcap_examples.specs.Histories.Readings.{given_up_before_it_was_sent}
use Rattle.tcap_examples.specs.Statements.HeadlineExamples.{first}
use Rattle.tcap_examples.specs.Values.HistoryWords.{dialogue_born, invoke_pair}
use Rattle.tcap_examples.specs.Nets.Engines.{engine_a, engine_b}

alone : Invocation
alone = record { number = 1; dialogue = 1; id = pos 1; class = Four; timeout = 1000 }

pub alone-happens : Happens engine_b alone_told (drop 1 in_a_unidirectional.trace) in_a_unidirectional.trace
alone-happens = record { later = []; is_trace = refl }

pub alone-tells : Tells alone_told.answer
    (Output.component (ComponentIndication.invoked None (pos 1) None (code 7) None))
alone-tells = record { earlier = Output.dialogue (DialogueIndication.uni None []) ∷ []; later = []; is_answer = refl }

pub alone-asked : WasAsked (pos 1) None (code 7) None (side engine_a (drop 1 in_a_unidirectional.trace))
unfolding computing alone
alone-asked = record {
  pair = invoke_pair 1 (pos 1) Four (pos 7) 1000 (Answer.number 1);
  before = dialogue_born 1 ∷ [];
  dialogue = 1;
  class = Four;
  timeout = 1000;
  number = 1;
  stands = record { later = take 1 (side engine_a (drop 1 in_a_unidirectional.trace)); is_past = refl };
  is_event = refl;
  is_answer = refl;
  was_sent = record { invocation = alone; is_invocation = refl; is_sent = refl };
}

pub end-happens : Happens engine_a end_told (drop 1 in_an_end.trace) in_an_end.trace
end-happens = record { later = []; is_trace = refl }

pub end-tells : Tells end_told.answer (invoked 1)
end-tells = record { earlier = Output.dialogue (DialogueIndication.end 1 None []) ∷ []; later = []; is_answer = refl }

pub end-asked : WasAsked (pos 1) None (code 10) None (side engine_b (drop 1 in_an_end.trace))
unfolding computing
end-asked = record {
  pair = invoke_pair 1 (pos 1) One (pos 10) 1000 (Answer.number 1);
  before = drop 2 (side engine_b in_an_end.trace);
  dialogue = 1;
  class = One;
  timeout = 1000;
  number = 1;
  stands = record { later = take 1 (side engine_b in_an_end.trace); is_past = refl };
  is_event = refl;
  is_answer = refl;
  was_sent = record { invocation = first; is_invocation = refl; is_sent = refl };
}

pub cancelled-never-sent : WasSent 1 given_up_before_it_was_sent.history.pairs → ⊥
unfolding computing
cancelled-never-sent = never_sent 1 given_up_before_it_was_sent.history.pairs first refl refl

-- What the tests state.
pub ruleset last_messages = (
  alone-happens,
  alone-tells,
  alone-asked,
  end-happens,
  end-tells,
  end-asked,
  cancelled-never-sent,
)
