-- Three histories step by step, with the engine after each event.
use Rattle.std.specs.Prelude.{ℕ, pos, List, [], ◌∷◌, ◌++◌, Some, None}
use Rattle.tcap_invocation.specs.declared.stage.Stage.TheVariants.{Queued, Sent, Waiting}
use Rattle.tcap_model.specs.Words.Answer.{Answer}
use Rattle.tcap_examples.specs.Values.DialogueValues.{context, aarq, aare, result_of_first, of_result}
use Rattle.tcap_examples.specs.Values.Hex.{hex}
use Rattle.tcap_model.specs.Procedures.QueueRules.{Queued as Waits}
use Rattle.tcap_model.specs.Table.Dialogue.{Dialogue}
use Rattle.tcap_model.specs.Words.Output.{Closing, AbortCause}
use Rattle.tcap_model.specs.Words.State.{State}
use Rattle.tcap_examples.specs.Histories.Steps.{Walk}
use Rattle.tcap_examples.specs.Histories.StepWords.{engine_of_one, engine_after, dialogue_1, invoke_queued, queued_reject, class_one_row, walk, new_dialogue_1, request_step, receive_step, moment_step, invoke_request}
use Rattle.tcap_examples.specs.Values.Asked as asks
use Rattle.tcap_examples.specs.Values.Told as told
use Rattle.tcap_examples.specs.Values.Peer.{sent}

-- ---- what the histories share

-- The peer's transaction identifier (own).
abbrev pub peer : List ℕ
peer = hex 4 0x00000005

-- An Invoke with identifier 1 and operation 10 (own).
abbrev pub invoke_1 : List ℕ
invoke_1 = hex 8 0xA106_020101_02010A

-- An Invoke with identifier 2 and operation 11 (own).
abbrev pub invoke_2 : List ℕ
invoke_2 = hex 8 0xA106_020102_02010B

-- A Begin of dialogue 1 with the first of these Invokes (own).
abbrev pub one_begun : List ℕ
one_begun = hex 18 0x6210_480400000001_6C08_A10602010102010A

-- A Reject for identifier 1 with this Return Result problem (own).
abbrev pub reject_1 : ℕ → List ℕ
reject_1 problem = hex 7 0xA406_020101_8201 ++ problem ∷ []

-- ---- a second AARE

-- A Continue from the peer to dialogue 1, with the AARE and a Return Result Last for identifier 1
-- (own).
abbrev pub accepting_continue : List ℕ
accepting_continue = hex 14 0x653F_480400000005_490400000001 ++ aare ++ hex 7 0x6C05_A203020101

-- A Begin of dialogue 1 with an AARQ and both Invokes (own).
abbrev pub two_begun : List ℕ
two_begun = hex 8 0x6238_480400000001 ++ aarq ++ hex 18 0x6C10_A10602010102010A_A10602010202010B

-- An Abort to the peer with an ABRT by the provider (own).
abbrev pub abnormal_abort_sent : List ℕ
abnormal_abort_sent = hex 28 0x671A_490400000005_6B12_2810_060700118605010101_A005_6403_800101

-- Two Invokes go out in a Begin with an AARQ. The Continue with the AARE makes the dialogue Active and
-- answers the first one, whose identifier waits for a Reject; the same Continue again is abnormal, and
-- the dialogue is over
-- (Q.774, Dialogue continuation; Q.774, Abnormal procedures relating to dialogue control).
abbrev pub repeated_aare_steps : Walk
repeated_aare_steps = walk (
    new_dialogue_1 (engine_of_one 0 1 (dialogue_1 State.fresh None [] []))
    ∷ request_step (invoke_request (pos 1) 10 1000) (Answer.number 1)
    (engine_of_one 0 2 (dialogue_1 State.fresh None (invoke_queued invoke_1 1 ∷ [])
    (class_one_row (pos 1) 1 (Queued 1000) ∷ [])))
    ∷ request_step (invoke_request (pos 2) 11 1000) (Answer.number 2)
    (engine_of_one 0 3 (dialogue_1 State.fresh None (invoke_queued invoke_1 1 ∷ invoke_queued invoke_2 2 ∷ [])
    (class_one_row (pos 1) 1 (Queued 1000) ∷ class_one_row (pos 2) 2 (Queued 1000) ∷ [])))
    ∷ request_step (asks.begin (Some context) []) (Answer.outputs (sent two_begun ∷ []))
    (engine_of_one 0 3 (dialogue_1 State.sent (Some context) []
    (class_one_row (pos 1) 1 (Sent 1000) ∷ class_one_row (pos 2) 2 (Sent 1000) ∷ [])))
    ∷ receive_step accepting_continue (told.go_on 1 (Some context) []
    ∷ told.closed 1 1 (pos 1) (Closing.result_last None) ∷ [])
    (engine_of_one 0 3 (dialogue_1 (State.active peer) (Some context) []
    (class_one_row (pos 1) 1 (Waiting 1000) ∷ class_one_row (pos 2) 2 (Sent 1000) ∷ [])))
    ∷ receive_step accepting_continue (sent abnormal_abort_sent ∷ told.p_abort 1 AbortCause.abnormal
    ∷ told.closed 1 2 (pos 2) Closing.ended ∷ [])
    (engine_after 0 3)
    ∷ [])

-- ---- an identifier freed by a Reject

-- A Continue to the peer with a Reject for identifier 1, Return Result problem 2, and the Invoke (own).
abbrev pub both_sent : List ℕ
both_sent = hex 32 0x651E_480400000001_490400000005_6C10_A406020101820102_A10602010102010A

-- The result makes the identifier wait; the user's Reject of it frees the identifier at once and is
-- queued; the identifier is taken again for number 2, and both components go out in one Continue, from
-- which number 2 is Sent and is answered like number 1 (Q.774, Invocation state machine).
abbrev pub identifier_freed_steps : Walk
identifier_freed_steps = walk (
    new_dialogue_1 (engine_of_one 0 1 (dialogue_1 State.fresh None [] []))
    ∷ request_step (invoke_request (pos 1) 10 10000) (Answer.number 1)
    (engine_of_one 0 2 (dialogue_1 State.fresh None (invoke_queued invoke_1 1 ∷ [])
    (class_one_row (pos 1) 1 (Queued 10000) ∷ [])))
    ∷ request_step (asks.begin None []) (Answer.outputs (sent one_begun ∷ []))
    (engine_of_one 0 2 (dialogue_1 State.sent None [] (class_one_row (pos 1) 1 (Sent 10000) ∷ [])))
    ∷ receive_step result_of_first (told.go_on 1 None [] ∷ told.closed 1 1 (pos 1) (Closing.result_last None) ∷ [])
    (engine_of_one 0 2 (dialogue_1 (State.active peer) None [] (class_one_row (pos 1) 1 (Waiting 1000) ∷ [])))
    ∷ request_step (asks.u_reject (Some (pos 1)) (of_result 2)) Answer.done
    (engine_of_one 0 2 (dialogue_1 (State.active peer) None (queued_reject (reject_1 2) ∷ []) []))
    ∷ request_step (invoke_request (pos 1) 10 10000) (Answer.number 2)
    (engine_of_one 0 3 (dialogue_1 (State.active peer) None (queued_reject (reject_1 2) ∷ invoke_queued invoke_1 2 ∷ [])
    (class_one_row (pos 1) 2 (Queued 10000) ∷ [])))
    ∷ request_step (asks.go_on None []) (Answer.outputs (sent both_sent ∷ []))
    (engine_of_one 0 3 (dialogue_1 (State.active peer) None [] (class_one_row (pos 1) 2 (Sent 10000) ∷ [])))
    ∷ receive_step result_of_first (told.go_on 1 None [] ∷ told.closed 1 2 (pos 1) (Closing.result_last None) ∷ [])
    (engine_of_one 0 3 (dialogue_1 (State.active peer) None [] (class_one_row (pos 1) 2 (Waiting 1000) ∷ [])))
    ∷ [])

-- ---- a lapse, and a result after it

-- A Continue to the peer with a Reject for identifier 1, Return Result problem 0 (own).
abbrev pub reject_sent : List ℕ
reject_sent = hex 24 0x6516_480400000001_490400000005_6C08_A406020101820100

-- Dialogue 1 in Active with this queue, last active at clock 1000 (own).
abbrev pub answered_late : List Waits → Dialogue
answered_late queue = record (dialogue_1 (State.active peer) None queue []) { touched = 1000 }

-- The invocation lapses at its deadline, not before; its result then has no invocation and is rejected
-- with Return Result problem 0, which the next Continue carries. A moment below the clock is nothing for
-- the dialogue, and the engine after it is the one before it
-- (Q.774, Invocation timer; Q.774, Component related abnormal conditions).
abbrev pub late_result_steps : Walk
late_result_steps = walk (
    new_dialogue_1 (engine_of_one 0 1 (dialogue_1 State.fresh None [] []))
    ∷ request_step (invoke_request (pos 1) 10 1000) (Answer.number 1)
    (engine_of_one 0 2 (dialogue_1 State.fresh None (invoke_queued invoke_1 1 ∷ [])
    (class_one_row (pos 1) 1 (Queued 1000) ∷ [])))
    ∷ request_step (asks.begin None []) (Answer.outputs (sent one_begun ∷ []))
    (engine_of_one 0 2 (dialogue_1 State.sent None [] (class_one_row (pos 1) 1 (Sent 1000) ∷ [])))
    ∷ moment_step 999 []
    (engine_of_one 999 2 (dialogue_1 State.sent None [] (class_one_row (pos 1) 1 (Sent 1000) ∷ [])))
    ∷ moment_step 1000 (told.closed 1 1 (pos 1) Closing.lapsed ∷ [])
    (engine_of_one 1000 2 (dialogue_1 State.sent None [] []))
    ∷ receive_step result_of_first (told.go_on 1 None [] ∷ told.local_reject (Some 1) (Some (pos 1)) (of_result 0) ∷ [])
    (engine_of_one 1000 2 (answered_late (queued_reject (reject_1 0) ∷ [])))
    ∷ request_step (asks.go_on None []) (Answer.outputs (sent reject_sent ∷ []))
    (engine_of_one 1000 2 (answered_late []))
    ∷ moment_step 5 []
    (engine_of_one 1000 2 (answered_late []))
    ∷ [])
