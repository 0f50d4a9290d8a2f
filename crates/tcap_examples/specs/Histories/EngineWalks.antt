-- Histories of the whole engine, step by step: several dialogues, and none.
use Rattle.std.specs.Prelude.{ℕ, pos, List, [], ◌∷◌, None}
use Rattle.tcap_examples.specs.Histories.Steps.{Step, Walk}
use Rattle.tcap_examples.specs.Histories.SteppedHistories.{invoke_1, peer}
use Rattle.tcap_examples.specs.Values.Asked as asks
use Rattle.tcap_examples.specs.Values.Hex.{hex}
use Rattle.tcap_examples.specs.Histories.StepWords.{kept_in, steps_start, empty_engine, engine_with, dialogue_1, invoke_queued}
use Rattle.tcap_examples.specs.Histories.StepWords.{class_one_row, walk, new_dialogue_1, request_step, receive_step}
use Rattle.tcap_examples.specs.Histories.StepWords.{moment_step, invoke_request}
use Rattle.tcap_examples.specs.Values.Told as told
use Rattle.tcap_invocation.specs.Invocations.{Row}
use Rattle.tcap_invocation.specs.declared.stage.Stage.TheVariants.{Queued, Sent}
use Rattle.tcap_model.specs.Procedures.QueueRules.{Queued as Waits}
use Rattle.tcap_model.specs.Table.Dialogue.{Dialogue}
use Rattle.tcap_model.specs.Table.World.{World}
use Rattle.tcap_model.specs.Words.Answer.{Answer}
use Rattle.tcap_model.specs.Words.Event.{Event}
use Rattle.tcap_model.specs.Words.Fault.{Fault}
use Rattle.tcap_model.specs.Words.Output.{Output, Closing, DropCause}
use Rattle.tcap_model.specs.Words.Request.{Request}
use Rattle.tcap_model.specs.Words.State.{State}
use Rattle.tcap_examples.specs.Values.Peer.{sent}

-- ---- two dialogues

-- Dialogue 2 in this state, with its queue and its invocations, last active at clock 0 if at all (own).
abbrev pub dialogue_2 : State → List Waits → List Row → Dialogue
dialogue_2 state queue rows = record {
  standing = record { identifier = 2; state = state; context = None; queue = queue };
  invocations = record { reject_ms = 1000; rows = rows };
  idle_ms = 0;
  touched = 0;
  kept = kept_in state;
}

-- The engine where both dialogues were created (own).
abbrev pub engine_of_two : ℕ → ℕ → List Dialogue → World
engine_of_two clock next_number dialogues = record (engine_with clock next_number dialogues) { next_dialogue = 3 }

-- A request on dialogue 2 (own).
abbrev pub request_on_2 : Request → Answer → World → Step
request_on_2 asked answer after = record { event = Event.on_dialogue 2 asked; answer = answer; after = after }

-- Dialogue 1, whose Invoke was sent, with a deadline at 20 (own).
abbrev pub first_sent : Dialogue
first_sent = dialogue_1 State.sent None [] (class_one_row (pos 1) 1 (Sent 20) ∷ [])

-- Dialogue 2, whose Invoke was sent, with a deadline at 10 (own).
abbrev pub second_sent : Dialogue
second_sent = dialogue_2 State.sent [] (class_one_row (pos 1) 2 (Sent 10) ∷ [])

-- The engine where both were sent (own).
abbrev pub both_sent : World
both_sent = engine_of_two 0 3 (first_sent ∷ second_sent ∷ [])

-- What is told where both lapse: the earlier deadline first, though its dialogue is the second (own).
abbrev pub both_lapsed : List Output
both_lapsed = told.closed 2 2 (pos 1) Closing.lapsed ∷ told.closed 1 1 (pos 1) Closing.lapsed ∷ []

-- The engine where both have lapsed (own).
abbrev pub none_left : World
none_left = engine_of_two 20 3 (dialogue_1 State.sent None [] [] ∷ dialogue_2 State.sent [] [] ∷ [])

-- A Begin with the Invoke of identifier 1 (own).
abbrev pub first_begun : List ℕ
first_begun = hex 18 0x6210_480400000001_6C08_A10602010102010A

-- The Begin of dialogue 2, with its Invoke (own).
abbrev pub second_begun : List ℕ
second_begun = hex 18 0x6210_480400000002_6C08_A10602010102010A

-- Dialogue 1 before its Invoke (own).
abbrev pub first_fresh : Dialogue
first_fresh = dialogue_1 State.fresh None [] []

-- Dialogue 1 with its Invoke in the queue (own).
abbrev pub first_queued : Dialogue
first_queued = dialogue_1 State.fresh None (invoke_queued invoke_1 1 ∷ []) (class_one_row (pos 1) 1 (Queued 20) ∷ [])

-- Dialogue 2 before its Invoke (own).
abbrev pub second_fresh : Dialogue
second_fresh = dialogue_2 State.fresh [] []

-- Dialogue 2 with its Invoke in the queue (own).
abbrev pub second_queued : Dialogue
second_queued = dialogue_2 State.fresh (invoke_queued invoke_1 2 ∷ []) (class_one_row (pos 1) 2 (Queued 10) ∷ [])

-- A dialogue is asked for, and number 2 is created (own).
abbrev pub new_dialogue_2 : World → Step
new_dialogue_2 after = record { event = Event.new_dialogue; answer = Answer.new_dialogue 2; after = after }

-- A moment one past the limit is refused (own).
abbrev pub late_moment : World → Step
late_moment after =
    record { event = Event.moment 4611686018427387905; answer = Answer.refused Fault.moment_too_late; after = after }

-- Two dialogues with an Invoke each, whose deadlines pass at one moment; a moment above the limit is
-- refused, and one below the clock does nothing (Q.774, Invocation timer; the limit is own).
abbrev pub two_dialogues : Walk
two_dialogues = walk (
    new_dialogue_1 (engine_with 0 1 (first_fresh ∷ []))
    ∷ new_dialogue_2 (engine_of_two 0 1 (first_fresh ∷ second_fresh ∷ []))
    ∷ request_step (invoke_request (pos 1) 10 20) (Answer.number 1)
    (engine_of_two 0 2 (first_queued ∷ second_fresh ∷ []))
    ∷ request_step (asks.begin None []) (Answer.outputs (sent first_begun ∷ []))
    (engine_of_two 0 2 (first_sent ∷ second_fresh ∷ []))
    ∷ request_on_2 (invoke_request (pos 1) 10 10) (Answer.number 2)
    (engine_of_two 0 3 (first_sent ∷ second_queued ∷ []))
    ∷ request_on_2 (asks.begin None []) (Answer.outputs (sent second_begun ∷ [])) both_sent
    ∷ late_moment both_sent
    ∷ moment_step 20 both_lapsed none_left
    ∷ moment_step 5 [] none_left
    ∷ [])

-- ---- a Begin at the limit

-- An engine in which one dialogue may stand, and dialogue 1 was begun by the peer (own).
abbrev pub full_engine : World
full_engine = record (engine_with 0 1 (dialogue_1 (State.received peer) None [] [] ∷ [])) { max_dialogues = 1 }

-- A Begin without components from the peer (own).
abbrev pub peer_begins : List ℕ
peer_begins = hex 8 0x6206_480400000005

-- An Abort to the peer with cause 4, resource limitation (own).
abbrev pub full_abort : Output
full_abort = sent (hex 11 0x6709_490400000005_4A0104)

-- Where as many dialogues stand as may, neither a peer nor the user gets one, and no identifier is drawn
-- (own).
abbrev pub begins_at_the_limit : Walk
begins_at_the_limit = record {
  start = record steps_start { max_dialogues = 1 };
  before = record empty_engine { max_dialogues = 1 };
  steps =
      receive_step peer_begins (told.begin 1 None [] ∷ []) full_engine
      ∷ receive_step peer_begins (full_abort ∷ []) full_engine
      ∷ record { event = Event.new_dialogue; answer = Answer.refused Fault.dialogues_full; after = full_engine }
      ∷ [];
}

-- ---- bytes to a dialogue that isn't live

-- The engine where dialogue 1 was begun by the peer (own).
abbrev pub begun_engine : World
begun_engine = engine_with 0 1 (dialogue_1 (State.received peer) None [] [] ∷ [])

-- An End to dialogue 1 (own).
abbrev pub end_to_1 : List ℕ
end_to_1 = hex 8 0x6406_490400000001

-- An End to a dialogue in Initiation Received reaches no dialogue; once it was answered, the End ends it,
-- and it is unknown then (Q.774, Transaction state machine).
abbrev pub an_end_to_received : Walk
an_end_to_received = walk (
    receive_step peer_begins (told.begin 1 None [] ∷ []) begun_engine
    ∷ receive_step end_to_1 (Output.dropped DropCause.no_dialogue ∷ []) begun_engine
    ∷ request_step (asks.go_on None []) (Answer.outputs (sent (hex 14 0x650C_480400000001_490400000005) ∷ []))
    (engine_with 0 1 (dialogue_1 (State.active peer) None [] [] ∷ []))
    ∷ receive_step end_to_1 (told.end 1 None [] ∷ []) (engine_with 0 1 [])
    ∷ request_step (asks.go_on None []) (Answer.refused Fault.unknown_dialogue) (engine_with 0 1 [])
    ∷ [])
