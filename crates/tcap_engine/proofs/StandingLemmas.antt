-- From the engine's move to any history at which the engine stands.
use Rattle.std.proofs.Common.{List, sym, subst, ◌∙◌, Result, Ok, Err}
use Rattle.ber_core.specs.declared.fault.OutOfMemory.{OutOfMemory}
use Rattle.tcap_primitives.specs.declared.fault.Fault.{Fault}
use Rattle.tcap_primitives.specs.FaultViews.{fault_view}
use Rattle.tcap_laws.proofs.CallerLemmas.{moves-alike, closings_are, outcome_told, plainly_decided, counted, dialogues-bounded, identifiers-bounded, queues-bounded}
use Rattle.tcap_model.specs.Histories.History.{History}
use Rattle.tcap_model.specs.Replies.Legal.{IsLegal}
use Rattle.tcap_model.specs.Statements.EngineMoves.{MovesAlike, with_pair}
use Rattle.tcap_model.specs.Table.EngineMove.{EngineMoved, engine_move}
use Rattle.tcap_model.specs.Table.World.{World, StandsAt}
use Rattle.tcap_model.specs.Words.Answer.{Answer}
use Rattle.tcap_model.specs.Words.Event.{Event}
use Rattle.tcap_model.specs.Words.Fault as model
use Rattle.tcap_model.specs.Words.InRange.{InRange}
use Rattle.tcap_model.specs.Words.Output.{Output}
use Rattle.tcap_primitives.proofs.CallerLemmas.{keeps-same}
use Rattle.tcap_primitives.specs.SinkViews.{KeepsOutputs}
use Rattle.tcap_engine.specs.StepForm.{Moves, EngineRefuses, EngineAnswers, EngineReceives, ReceivesInto, since_answer}
use Rattle.tcap_engine.specs.HistoryForm.{Headline, StandsOn, StandsRefused, Stands, StandsReceived}

-- The headline holds at every legal history.
pub headline : (h : History) → IsLegal h → Headline h
headline h legal = record {
  decided = λ n. closings_are h.start h.pairs n legal.1;
  plainly = λ n. plainly_decided h n legal;
  outcome = λ n i found. outcome_told h.start h.pairs n i legal.1 found;
  counted = λ n. counted h n legal.1;
  bounded = record {
    dialogues = dialogues-bounded h.start h.pairs legal.1;
    identifiers = identifiers-bounded h.start h.pairs legal.1 h.start.reject_ms;
    queues = queues-bounded h.start h.pairs legal.1;
  };
}

moved : (h : History) (event : Event) (old new : World) (answer : Answer) → InRange event → StandsAt h old
    → Moves (engine_move old event) answer new → StandsOn h event answer new
moved h event old new answer within at moves =
    let alike : MovesAlike h event (engine_move old event) = moves-alike h old event at within in
    let stands : StandsAt (with_pair h event) new = subst (StandsAt (with_pair h event)) (sym moves.1) alike.stands in
    record { is_reply = moves.0 ∙ alike.answers; stands = stands; headline = headline (with_pair h event) stands.is_legal }

refused : (f : model.Fault) (h : History) (event : Event) (old new : World) → InRange event → StandsAt h old
    → EngineRefuses f (engine_move old event) old new → StandsRefused f h event new
refused model.Fault.out_of_memory h event old new within at r = subst (StandsAt h) (sym r.0) at
refused model.Fault.unknown_dialogue h event old new within at r = moved h event old new _ within at r
refused model.Fault.wrong_state h event old new within at r = moved h event old new _ within at r
refused model.Fault.invoke_id_in_use h event old new within at r = moved h event old new _ within at r
refused model.Fault.no_such_invocation h event old new within at r = moved h event old new _ within at r
refused model.Fault.bad_timeout h event old new within at r = moved h event old new _ within at r
refused model.Fault.too_long h event old new within at r = moved h event old new _ within at r
refused model.Fault.dialogues_full h event old new within at r = moved h event old new _ within at r
refused model.Fault.dialogue_ids_spent h event old new within at r = moved h event old new _ within at r
refused model.Fault.numbers_spent h event old new within at r = moved h event old new _ within at r
refused model.Fault.bad_oid h event old new within at r = moved h event old new _ within at r
refused model.Fault.bad_parameter h event old new within at r = moved h event old new _ within at r
refused model.Fault.not_class_four h event old new within at r = moved h event old new _ within at r
refused model.Fault.moment_too_late h event old new within at r = moved h event old new _ within at r
refused model.Fault.no_context h event old new within at r = moved h event old new _ within at r

-- An engine that answers as its move says stands where the history says.
pub stands_after : {T : Type 0} → (view : T → Answer) (result : Result T Fault) (event : Event) (old new : World) → InRange event
    → EngineAnswers view result (engine_move old event) old new → Stands view result event old new
stands_after view (Ok x) event old new within answers = λ h at. moved h event old new (view x) within at answers
stands_after view (Err f) event old new within answers = λ h at. refused (fault_view f) h event old new within at answers

-- The same of bytes.
pub stands_heard : {T : Type 0} → (view : T → Answer) (result : Result T OutOfMemory) (event : Event) (old new : World) → InRange event
    → EngineReceives view result (engine_move old event) old new → StandsReceived view result event old new
stands_heard view (Ok x) event old new within hears = λ h at. moved h event old new (view x) within at hears
stands_heard view (Err refused) event old new within hears = λ h at. subst (StandsAt h) (sym hears) at

-- The same of bytes whose outputs are appended.
pub stands_into : {T : Type 0} → (before after : List Output) (result : Result T OutOfMemory) (event : Event) (old new : World) → InRange event
    → ReceivesInto before after result (engine_move old event) old new → StandsReceived (since_answer before after) result event old new
stands_into {T} before after (Ok x) event old new within heard = stands_heard {T = T} (since_answer before after) (Ok x) event old new within heard.1
stands_into {T} before after (Err refused) event old new within heard = stands_heard {T = T} (since_answer before after) (Err refused) event old new within heard.1

-- What was there before stays.
pub kept_into : {T : Type 0} → (before after : List Output) (result : Result T OutOfMemory) (m : EngineMoved) (old new : World)
    → ReceivesInto before after result m old new → KeepsOutputs before after
kept_into before after (Ok x) m old new heard = heard.0
kept_into before after (Err refused) m old new heard = keeps-same before after heard.0
