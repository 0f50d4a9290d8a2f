-- What was told of the end of an invocation.
use Rattle.std.specs.Prelude.{ℕ, ℤ, ◌==◌, List, [], ◌∷◌, flat_map, if◌then◌else◌}
use Rattle.tcap_model.specs.Words.Answer.{Answer}
use Rattle.tcap_model.specs.Words.Event.{Event}
use Rattle.tcap_model.specs.Words.Output.{Output, Closing, ComponentIndication}
use Rattle.tcap_model.specs.Histories.Pair.{Past, gathered}
use Rattle.tcap_model.specs.Words.Request.{Request, ComponentRequest}

-- A closing indication, and where it stands: what happened up to and with the pair that holds it
-- (own).
pub record Told : Type 0 where
  pub place : Past
  pub dialogue : ℕ
  pub id : ℤ
  pub closing : Closing

-- A closing indication, if it carries the number (own).
abbrev pub told_if : ℕ → ℕ → Told → List Told
told_if n number told = if number == n then told ∷ [] else []

-- What an output tells of the end of the invocation of a number (own).
abbrev pub told_by_output : ℕ → Past → Output → List Told
told_by_output n place (Output.send to bytes) = []
told_by_output n place (Output.dialogue indication) = []
told_by_output n place (Output.component (ComponentIndication.invoked dialogue id linked code parameter)) = []
told_by_output n place (Output.component (ComponentIndication.result_more dialogue number id body)) = []
told_by_output n place (Output.component (ComponentIndication.local_reject dialogue id problem)) = []
told_by_output n place (Output.component (ComponentIndication.remote_reject dialogue id problem by)) = []
told_by_output n place (Output.component (ComponentIndication.closed dialogue number id closing)) =
    told_if n number (record { place = place; dialogue = dialogue; id = id; closing = closing })
told_by_output n place (Output.dropped why) = []

-- The invocation was given up, with the identifier of the TC-U-CANCEL request (Q.771, User cancel).
abbrev pub given_up_by : ℕ → Past → ℕ → Request → ℕ → List Told
given_up_by n place dialogue (Request.component (ComponentRequest.u_cancel id)) number =
    told_if n number (record { place = place; dialogue = dialogue; id = id; closing = Closing.given_up })
given_up_by n place dialogue (Request.component (ComponentRequest.invoke id class code parameter linked timeout))
    number = []
given_up_by n place dialogue (Request.component (ComponentRequest.result_last id body)) number = []
given_up_by n place dialogue (Request.component (ComponentRequest.result_more id body)) number = []
given_up_by n place dialogue (Request.component (ComponentRequest.error_back id code parameter)) number = []
given_up_by n place dialogue (Request.component (ComponentRequest.u_reject id problem)) number = []
given_up_by n place dialogue (Request.dialogue asked) number = []

-- That the invocation of this number was given up, by a request on its dialogue (Q.771, User cancel).
abbrev pub given_up_at : ℕ → Past → Event → ℕ → List Told
given_up_at n place Event.new_dialogue number = []
given_up_at n place (Event.on_dialogue dialogue request) number = given_up_by n place dialogue request number
given_up_at n place (Event.received from bytes) number = []
given_up_at n place (Event.moment now) number = []

-- What an answer tells of the end of the invocation of a number (own).
abbrev pub told_by_answer : ℕ → Past → Event → Answer → List Told
told_by_answer n place event (Answer.new_dialogue dialogue) = []
told_by_answer n place event (Answer.number number) = []
told_by_answer n place event Answer.done = []
told_by_answer n place event (Answer.given_up number) = given_up_at n place event number
told_by_answer n place event (Answer.outputs outputs) = flat_map (told_by_output n place) outputs
told_by_answer n place event (Answer.refused fault) = []

-- The closing indications of an invocation, in order: those that carry its number (own).
abbrev pub closings : ℕ → Past → List Told
closings n past = gathered (λ pair before. told_by_answer n (pair ∷ before) pair.event pair.answer) past
