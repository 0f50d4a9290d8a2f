-- Events and answers as a contract sees them.
use Rattle.std.specs.Prelude.{List, map}
use Rattle.tcap_primitives.specs.FaultViews.{fault_view}
use Rattle.tcap_primitives.specs.OutputViews.{all_shown}
use Rattle.tcap_primitives.specs.RequestViews.{request_view}
use Rattle.tcap_primitives.specs.declared.request.Request.TheVariants as request
use Rattle.tcap_engine.specs.declared.event.Answer.{Answer}
use Rattle.tcap_engine.specs.declared.event.Answer.TheVariants as answer
use Rattle.tcap_engine.specs.declared.event.Answered.{Answered}
use Rattle.tcap_engine.specs.declared.event.Answered.TheVariants as answered
use Rattle.tcap_engine.specs.declared.event.Event.{Event}
use Rattle.tcap_engine.specs.declared.event.Event.TheVariants as event
use Rattle.tcap_model.specs.Words.Answer as model_answer
use Rattle.tcap_model.specs.Words.Event as model
use Rattle.tcap_model.specs.Words.Output as model_output

-- What comes to an engine (own).
abbrev pub event_view : Event → model.Event
event_view event.NewDialogue = model.Event.new_dialogue
event_view (event.Invoke dialogue r) = model.Event.on_dialogue dialogue (request_view (request.Invoke r))
event_view (event.ResultLast dialogue r) = model.Event.on_dialogue dialogue (request_view (request.ResultLast r))
event_view (event.ResultMore dialogue r) = model.Event.on_dialogue dialogue (request_view (request.ResultMore r))
event_view (event.ErrorBack dialogue r) = model.Event.on_dialogue dialogue (request_view (request.ErrorBack r))
event_view (event.Reject dialogue r) = model.Event.on_dialogue dialogue (request_view (request.Reject r))
event_view (event.Cancel dialogue r) = model.Event.on_dialogue dialogue (request_view (request.Cancel r))
event_view (event.Uni dialogue r) = model.Event.on_dialogue dialogue (request_view (request.Uni r))
event_view (event.Begin dialogue r) = model.Event.on_dialogue dialogue (request_view (request.Begin r))
event_view (event.Continue dialogue r) = model.Event.on_dialogue dialogue (request_view (request.Continue r))
event_view (event.End dialogue r) = model.Event.on_dialogue dialogue (request_view (request.End r))
event_view (event.Abort dialogue r) = model.Event.on_dialogue dialogue (request_view (request.Abort r))
event_view (event.Bytes from bytes) = model.Event.received from.now bytes.now
event_view (event.Moment now) = model.Event.moment now

-- Events, one after the other (own).
abbrev pub events_view : List Event → List model.Event
events_view events = map event_view events

-- What an engine answers (own).
abbrev pub answer_view : {A : Type 0} → Answer A → model_answer.Answer
answer_view (answer.NewDialogue dialogue) = model_answer.Answer.new_dialogue dialogue
answer_view (answer.Number number) = model_answer.Answer.number number
answer_view answer.Done = model_answer.Answer.done
answer_view (answer.GivenUp number) = model_answer.Answer.given_up number
answer_view (answer.Outputs outputs) = model_answer.Answer.outputs (all_shown outputs.items)
answer_view (answer.Refused fault) = model_answer.Answer.refused (fault_view fault)

-- Answers, one after the other (own).
abbrev pub answers_view : {A : Type 0} → List (Answer A) → List model_answer.Answer
answers_view answers = map answer_view answers

-- What an engine answers whose outputs, these, went to an outbox (own).
abbrev pub answered_view : List model_output.Output → Answered → model_answer.Answer
answered_view told (answered.NewDialogue dialogue) = model_answer.Answer.new_dialogue dialogue
answered_view told (answered.Number number) = model_answer.Answer.number number
answered_view told answered.Done = model_answer.Answer.done
answered_view told (answered.GivenUp number) = model_answer.Answer.given_up number
answered_view told answered.Outputs = model_answer.Answer.outputs told
answered_view told (answered.Refused fault) = model_answer.Answer.refused (fault_view fault)
