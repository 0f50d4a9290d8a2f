-- Histories of an engine with an idle limit, step by step, with the engine after each event.
use Rattle.std.specs.Prelude.{ℕ, pos, List, [], ◌∷◌, None}
use Rattle.tcap_invocation.specs.Invocations.{Row}
use Rattle.tcap_invocation.specs.declared.stage.Stage.TheVariants.{Queued, Sent}
use Rattle.tcap_model.specs.Procedures.QueueRules.{Queued as Waits}
use Rattle.tcap_model.specs.Table.Dialogue.{Dialogue}
use Rattle.tcap_model.specs.Table.World.{World}
use Rattle.tcap_model.specs.Words.Answer.{Answer}
use Rattle.tcap_model.specs.Words.Output.{Output, Closing}
use Rattle.tcap_model.specs.Words.State.{State}
use Rattle.tcap_examples.specs.Histories.EngineWalks.{dialogue_2, new_dialogue_2, request_on_2}
use Rattle.tcap_examples.specs.Histories.IdleLimit.{begin_told, empty_answer, empty_continue, ended_in_1, idle_abort}
use Rattle.tcap_examples.specs.Histories.IdleLimit.{two_invokes_begun}
use Rattle.tcap_examples.specs.Histories.SteppedHistories.{invoke_1, one_begun, peer}
use Rattle.tcap_examples.specs.Histories.StepWords.{steps_start, empty_engine, engine_with, dialogue_1, invoke_queued}
use Rattle.tcap_examples.specs.Histories.StepWords.{class_one_row, new_dialogue_1, request_step, receive_step}
use Rattle.tcap_examples.specs.Histories.StepWords.{moment_step, invoke_request}
use Rattle.tcap_examples.specs.Histories.Steps.{Step, Walk}
use Rattle.tcap_examples.specs.Values.Asked as asks
use Rattle.tcap_examples.specs.Values.DialogueValues.{result_of_first, shown_begin}
use Rattle.tcap_examples.specs.Values.Hex.{hex}
use Rattle.tcap_examples.specs.Values.Told as told
use Rattle.tcap_examples.specs.Values.Peer.{sent}

-- ---- engines with an idle limit

-- An engine with an idle limit of 500 milliseconds (own).
abbrev pub limited_engine : World → World
limited_engine w = record w { idle_ms = 500 }

-- A dialogue of such an engine, last active at this clock (own).
abbrev pub touched_then : ℕ → Dialogue → Dialogue
touched_then clock d = record d { idle_ms = 500; touched = clock }

-- These steps, from such an engine before its first dialogue on (own).
abbrev pub idle_walk : List Step → Walk
idle_walk steps = record {
  start = record steps_start { idle_ms = 500 };
  before = limited_engine empty_engine;
  steps = steps;
}

-- Such an engine where dialogue 1 was created: the clock, the number of the next invocation, and the
-- dialogues that stand (own).
abbrev pub idle_engine : ℕ → ℕ → List Dialogue → World
idle_engine clock next_number dialogues = limited_engine (engine_with clock next_number dialogues)

-- Such an engine where both dialogues were created (own).
abbrev pub idle_engine_of_two : ℕ → List Dialogue → World
idle_engine_of_two clock dialogues = record (idle_engine clock 1 dialogues) { next_dialogue = 3 }

-- Dialogue 1 in this state, without application context, last active at this clock, with its queue and
-- its invocations (own).
abbrev pub first_in : State → ℕ → List Waits → List Row → Dialogue
first_in state clock queue rows = touched_then clock (dialogue_1 state None queue rows)

-- Dialogue 2 in this state, last active at this clock, with no component and no invocation (own).
abbrev pub second_in : State → ℕ → Dialogue
second_in state clock = touched_then clock (dialogue_2 state [] [])

-- A Begin, and the one message that it sends (own).
abbrev pub begin_step : List ℕ → World → Step
begin_step bytes after = request_step (asks.begin None []) (Answer.outputs (sent bytes ∷ [])) after

-- ---- one dialogue

-- Dialogue 1 with its Invoke in the queue (own).
abbrev pub one_waits : Dialogue
one_waits = first_in State.fresh 0 (invoke_queued invoke_1 1 ∷ []) (class_one_row (pos 1) 1 (Queued 1000) ∷ [])

-- Dialogue 1 whose Invoke was sent (own).
abbrev pub one_sent : Dialogue
one_sent = first_in State.sent 0 [] (class_one_row (pos 1) 1 (Sent 1000) ∷ [])

-- The first three steps: dialogue 1 is opened with one Invoke (own).
abbrev pub opened_by_steps : List Step → List Step
opened_by_steps steps =
    new_dialogue_1 (idle_engine 0 1 (first_in State.fresh 0 [] [] ∷ []))
    ∷ request_step (invoke_request (pos 1) 10 1000) (Answer.number 1) (idle_engine 0 2 (one_waits ∷ []))
    ∷ begin_step one_begun (idle_engine 0 2 (one_sent ∷ []))
    ∷ steps

-- The dialogue stands until it has been idle for the limit, and a Continue finds none then (own).
abbrev pub idle_after_the_begin_steps : Walk
idle_after_the_begin_steps = idle_walk (opened_by_steps (
    moment_step 499 [] (idle_engine 499 2 (one_sent ∷ []))
    ∷ moment_step 500 (idle_abort 1 ∷ ended_in_1 1 ∷ []) (idle_engine 500 2 [])
    ∷ receive_step result_of_first (sent (hex 11 0x6709_490400000005_4A0101) ∷ []) (idle_engine 500 2 [])
    ∷ []))

-- Another Invoke with operation 10, of identifier 2 (own).
abbrev pub another_invoke : List ℕ
another_invoke = hex 8 0xA106_020102_02010A

-- Dialogue 1 with two Invokes that were sent, the first one with a deadline at 300 (own).
abbrev pub both_sent : Dialogue
both_sent = first_in State.sent 0 [] (class_one_row (pos 1) 1 (Sent 300) ∷ class_one_row (pos 2) 2 (Sent 1000) ∷ [])

-- What is told at the moment 500: the first one lapses, then the dialogue is over with the second one
-- (own).
abbrev pub lapsed_and_idle : List Output
lapsed_and_idle = told.closed 1 1 (pos 1) Closing.lapsed ∷ idle_abort 1 ∷ ended_in_1 2 ∷ []

-- The engine where two Invokes were sent in dialogue 1 (own).
abbrev pub both_sent_engine : World
both_sent_engine = idle_engine 0 3 (both_sent ∷ [])

-- What was due lapses before the dialogue is over (own).
abbrev pub lapse_before_the_idle_end_steps : Walk
lapse_before_the_idle_end_steps = idle_walk (
    new_dialogue_1 (idle_engine 0 1 (first_in State.fresh 0 [] [] ∷ []))
    ∷ request_step (invoke_request (pos 1) 10 300) (Answer.number 1)
    (idle_engine 0 2 (first_in State.fresh 0 (invoke_queued invoke_1 1 ∷ [])
    (class_one_row (pos 1) 1 (Queued 300) ∷ []) ∷ []))
    ∷ request_step (invoke_request (pos 2) 10 1000) (Answer.number 2)
    (idle_engine 0 3 (first_in State.fresh 0 (invoke_queued invoke_1 1 ∷ invoke_queued another_invoke 2 ∷ [])
    (class_one_row (pos 1) 1 (Queued 300) ∷ class_one_row (pos 2) 2 (Queued 1000) ∷ []) ∷ []))
    ∷ begin_step two_invokes_begun both_sent_engine
    ∷ moment_step 500 lapsed_and_idle (idle_engine 500 3 [])
    ∷ [])

-- Dialogue 1 in Active, whose last activity is a Continue at 400 (own).
abbrev pub one_renewed : Dialogue
one_renewed = first_in (State.active peer) 400 [] (class_one_row (pos 1) 1 (Sent 1000) ∷ [])

-- The engine where a Continue was received at 400 (own).
abbrev pub renewed_engine : World
renewed_engine = idle_engine 400 2 (one_renewed ∷ [])

-- The dialogue stands until 500 milliseconds after the Continue (own).
abbrev pub a_continue_renews_the_limit_steps : Walk
a_continue_renews_the_limit_steps = idle_walk (opened_by_steps (
    moment_step 400 [] (idle_engine 400 2 (one_sent ∷ []))
    ∷ receive_step empty_continue (told.go_on 1 None [] ∷ []) renewed_engine
    ∷ moment_step 899 [] (idle_engine 899 2 (one_renewed ∷ []))
    ∷ moment_step 900 (idle_abort 1 ∷ ended_in_1 1 ∷ []) (idle_engine 900 2 [])
    ∷ []))

-- The engine at 400 where the Invoke of identifier 1 was sent at 0 (own).
abbrev pub sent_long_ago : World
sent_long_ago = idle_engine 400 2 (one_sent ∷ [])

-- The engine where an Invoke of identifier 2 waits besides: it doesn't restart the idle timer (own).
abbrev pub another_waits : World
another_waits = idle_engine 400 3 (first_in State.sent 0 (invoke_queued another_invoke 2 ∷ [])
    (class_one_row (pos 1) 1 (Sent 1000) ∷ class_one_row (pos 2) 2 (Queued 1000) ∷ []) ∷ [])

-- An Invoke that waits doesn't renew the limit (own).
abbrev pub an_invoke_renews_nothing_steps : Walk
an_invoke_renews_nothing_steps = idle_walk (opened_by_steps (
    moment_step 400 [] sent_long_ago
    ∷ request_step (invoke_request (pos 2) 10 1000) (Answer.number 2) another_waits
    ∷ moment_step 500 (idle_abort 1 ∷ ended_in_1 1 ∷ ended_in_1 2 ∷ []) (idle_engine 500 3 [])
    ∷ []))

-- ---- a dialogue in Initiation Received

-- The dialogue that is created of the shown Begin (own).
abbrev pub begun_by_the_peer : Dialogue
begun_by_the_peer = first_in (State.received (hex 4 0x00000001)) 0 [] []

-- The engine where it stands, at this clock (own).
abbrev pub received_engine : ℕ → World
received_engine clock = idle_engine clock 1 (begun_by_the_peer ∷ [])

-- It stands for good, and the limit runs from the first answer (own).
abbrev pub no_idle_limit_in_received_steps : Walk
no_idle_limit_in_received_steps = idle_walk (
    receive_step shown_begin begin_told (received_engine 0)
    ∷ moment_step 500 [] (received_engine 500)
    ∷ request_step (asks.go_on None []) (Answer.outputs (sent empty_answer ∷ []))
    (idle_engine 500 1 (first_in (State.active (hex 4 0x00000001)) 500 [] [] ∷ []))
    ∷ moment_step 1000 (idle_abort 1 ∷ []) (idle_engine 1000 1 [])
    ∷ [])

-- ---- two dialogues

-- A Begin of dialogue 1 with no component (own).
abbrev pub first_begun : List ℕ
first_begun = hex 8 0x6206_480400000001

-- A Begin of dialogue 2 with no component (own).
abbrev pub second_begun : List ℕ
second_begun = hex 8 0x6206_480400000002

-- The engine where dialogue 2 was last active at 0 and dialogue 1 at 100 (own).
abbrev pub two_touched : World
two_touched = idle_engine_of_two 100 (first_in State.sent 100 [] [] ∷ second_in State.sent 0 ∷ [])

-- Dialogue 2 is told before dialogue 1, since it reached the limit earlier (own).
abbrev pub two_idle_dialogues_steps : Walk
two_idle_dialogues_steps = idle_walk (
    new_dialogue_1 (idle_engine 0 1 (first_in State.fresh 0 [] [] ∷ []))
    ∷ new_dialogue_2 (idle_engine_of_two 0 (first_in State.fresh 0 [] [] ∷ second_in State.fresh 0 ∷ []))
    ∷ request_on_2 (asks.begin None []) (Answer.outputs (sent second_begun ∷ []))
    (idle_engine_of_two 0 (first_in State.fresh 0 [] [] ∷ second_in State.sent 0 ∷ []))
    ∷ moment_step 100 [] (idle_engine_of_two 100 (first_in State.fresh 0 [] [] ∷ second_in State.sent 0 ∷ []))
    ∷ begin_step first_begun two_touched
    ∷ moment_step 600 (idle_abort 2 ∷ idle_abort 1 ∷ []) (idle_engine_of_two 600 [])
    ∷ [])
