-- Worked histories: what is our own choice where the standard leaves one.
use Rattle.std.specs.Prelude.{pos, [], ◌∷◌, Some, None}
use Rattle.tcap_invocation.specs.declared.class.Class.TheVariants.{One, Four}
use Rattle.tcap_model.specs.Words.Answer.{Answer}
use Rattle.tcap_examples.specs.Values.DialogueValues.{result_of_first, shown_begin, of_result, code}
use Rattle.tcap_model.specs.Words.Fault.{Fault}
use Rattle.tcap_examples.specs.Values.Hex.{hex}
use Rattle.tcap_model.specs.Words.Output.{Output, Closing, AbortCause, DropCause}
use Rattle.tcap_model.specs.Words.Request.{Ending, AbortReason}
use Rattle.tcap_examples.specs.Histories.Worked.{Worked, worked, closed_at, not_closed}
use Rattle.tcap_examples.specs.Histories.Refusals.{longest_parameter, invoke_with}
use Rattle.tcap_examples.specs.Values.HistoryWords.{dialogue_born, invoke_pair, request_pair, received_pair, moment_pair, begin_request, continue_request, continued, empty_result, usual_start, opened_with_invoke}
use Rattle.tcap_examples.specs.Values.Asked as asks
use Rattle.tcap_examples.specs.Values.Told as told
use Rattle.tcap_examples.specs.Values.Peer.{sent}

-- ---- dialogues

-- Where no dialogue can be created, a Begin is answered with cause 4 whatever its dialogue portion is, and
-- a faulty one with its own cause (own).
abbrev pub resource_limitation_first : Worked
resource_limitation_first = worked (record usual_start { max_dialogues = 1 }) (
    dialogue_born 1
    ∷ received_pair (hex 12 0x620A_480400000001_6B02_2800) (sent (hex 11 0x6709_490400000001_4A0104) ∷ [])
    ∷ received_pair (hex 9 0x6215_480400000001_6C) (sent (hex 11 0x6709_490400000001_4A0102) ∷ [])
    ∷ [])
    []

-- Messages to a dialogue that isn't live are messages to none (own).
abbrev pub messages_to_an_idle_dialogue : Worked
messages_to_an_idle_dialogue = worked usual_start (
    dialogue_born 1
    ∷ received_pair result_of_first (sent (hex 11 0x6709_490400000005_4A0101) ∷ [])
    ∷ received_pair (hex 15 0x640D_490400000001_6C05_A203_020101) (Output.dropped DropCause.no_dialogue ∷ [])
    ∷ received_pair (hex 8 0x6706_490400000001) (Output.dropped DropCause.no_dialogue ∷ [])
    ∷ received_pair (hex 9 0x6407_490400000001_6C) (Output.dropped DropCause.bad_message ∷ [])
    ∷ [])
    []

-- A destination of one octet names no dialogue (own).
abbrev pub a_short_destination : Worked
a_short_destination = worked usual_start (opened_with_invoke (
    received_pair (hex 5 0x6403_490101) (Output.dropped DropCause.no_dialogue ∷ [])
    ∷ []))
    (not_closed 1 ∷ [])

-- A message of another type is answered with cause 0, though its dialogue isn't ended (own).
abbrev pub an_unknown_type : Worked
an_unknown_type = worked usual_start (opened_with_invoke (
    received_pair (hex 14 0x630C_480400000007_490400000001) (sent (hex 11 0x6709_490400000007_4A0100) ∷ [])
    ∷ []))
    (not_closed 1 ∷ [])

-- A faulty Continue that tells no origin isn't answered, and ends its dialogue (own).
abbrev pub a_faulty_continue_without_origin : Worked
a_faulty_continue_without_origin = worked usual_start (opened_with_invoke (
    received_pair (hex 15 0x650D_48050000000005_490400000001)
    (told.p_abort 1 (AbortCause.cause 3) ∷ told.closed 1 1 (pos 1) Closing.ended ∷ [])
    ∷ []))
    (closed_at 1 4 1 (pos 1) Closing.ended ∷ [])

-- 0 is an identifier and a number like any other (own).
abbrev pub counters_from_zero : Worked
counters_from_zero = worked (record usual_start { next_dialogue = 0; next_number = 0 }) (
    dialogue_born 0
    ∷ invoke_pair 0 (pos 1) One (pos 10) 1000 (Answer.number 0)
    ∷ dialogue_born 1
    ∷ invoke_pair 0 (pos 2) One (pos 10) 1000 (Answer.number 1)
    ∷ [])
    (not_closed 0 ∷ not_closed 1 ∷ [])

-- A dialogue that is over is unknown, before any other fault (own).
abbrev pub unknown_for_good : Worked
unknown_for_good = worked usual_start (
    dialogue_born 1
    ∷ request_pair 1 (asks.u_abort AbortReason.by_user []) (Answer.outputs [])
    ∷ invoke_pair 1 (pos 1) One (pos 10) 0 (Answer.refused Fault.unknown_dialogue)
    ∷ request_pair 1 begin_request (Answer.refused Fault.unknown_dialogue)
    ∷ request_pair 2 begin_request (Answer.refused Fault.unknown_dialogue)
    ∷ [])
    []

-- ---- components

-- The components of a Begin meet no invocation, and their Rejects go out with the first answer (own).
abbrev pub a_result_in_a_begin : Worked
a_result_in_a_begin = worked usual_start (
    received_pair (hex 12 0x620A_480107_6C05_A203_020101)
    (told.begin 1 None [] ∷ told.local_reject (Some 1) (Some (pos 1)) (of_result 0) ∷ [])
    ∷ request_pair 1 continue_request (Answer.outputs
    (sent (hex 21 0x6513_480400000001_490107_6C08_A406_020101_820100) ∷ []))
    ∷ [])
    []

-- A result for an Invoke that is still queued is rejected, and closes nothing (own).
abbrev pub an_answer_to_a_queued_invoke : Worked
an_answer_to_a_queued_invoke = worked usual_start (opened_with_invoke (
    invoke_pair 1 (pos 2) One (pos 10) 1000 (Answer.number 2)
    ∷ received_pair (hex 21 0x6513_480400000005_490400000001_6C05_A203_020102)
    (continued 1 ∷ told.local_reject (Some 1) (Some (pos 2)) (of_result 0) ∷ [])
    ∷ []))
    (not_closed 1 ∷ not_closed 2 ∷ [])

-- A queued Invoke goes out in the End, and its invocation is ended in the same answer (own).
abbrev pub queued_at_a_basic_end : Worked
queued_at_a_basic_end = worked usual_start (opened_with_invoke (
    invoke_pair 1 (pos 2) One (pos 10) 1000 (Answer.number 2)
    ∷ received_pair (hex 14 0x650C_480400000005_490400000001) (continued 1 ∷ [])
    ∷ request_pair 1 (asks.finish Ending.basic None []) (Answer.outputs (
    sent (hex 18 0x6410_490400000005_6C08_A106_020102_02010A)
    ∷ told.closed 1 1 (pos 1) Closing.ended
    ∷ told.closed 1 2 (pos 2) Closing.ended
    ∷ []))
    ∷ []))
    (closed_at 1 6 1 (pos 1) Closing.ended ∷ closed_at 2 6 1 (pos 2) Closing.ended ∷ [])

-- An Invoke that was given up before it was sent never goes out, and has no deadline that counts (own).
abbrev pub given_up_before_it_was_sent : Worked
given_up_before_it_was_sent = worked usual_start (
    dialogue_born 1
    ∷ invoke_pair 1 (pos 1) One (pos 10) 1000 (Answer.number 1)
    ∷ request_pair 1 (asks.u_cancel (pos 1)) (Answer.given_up 1)
    ∷ request_pair 1 begin_request (Answer.outputs (sent (hex 8 0x6206_480400000001) ∷ []))
    ∷ moment_pair 1000 []
    ∷ [])
    (closed_at 1 3 1 (pos 1) Closing.given_up ∷ [])

-- A queue that a cancel has emptied is empty (own).
abbrev pub nothing_left_to_send : Worked
nothing_left_to_send = worked usual_start (
    dialogue_born 1
    ∷ invoke_pair 1 (pos 1) Four (pos 7) 5 (Answer.number 1)
    ∷ request_pair 1 (asks.u_cancel (pos 1)) (Answer.given_up 1)
    ∷ request_pair 1 (asks.uni None []) (Answer.refused Fault.not_class_four)
    ∷ [])
    (closed_at 1 3 1 (pos 1) Closing.given_up ∷ [])

-- A Reject in another dialogue frees nothing here (own).
abbrev pub a_reject_in_another_dialogue : Worked
a_reject_in_another_dialogue = worked usual_start (opened_with_invoke (
    received_pair result_of_first (continued 1 ∷ told.closed 1 1 (pos 1) empty_result ∷ [])
    ∷ received_pair shown_begin (
    told.begin 2 None []
    ∷ told.invoked (Some 2) (pos 1) None (code 2) (Some (hex 5 0x3003_0401AA))
    ∷ [])
    ∷ request_pair 2 (asks.u_reject (Some (pos 1)) (of_result 2)) Answer.done
    ∷ invoke_pair 1 (pos 1) One (pos 10) 1000 (Answer.refused Fault.invoke_id_in_use)
    ∷ []))
    (closed_at 1 4 1 (pos 1) empty_result ∷ [])

-- A timer ends with its dialogue: the invocation with the same identifier in the next dialogue has its
-- own (own).
abbrev pub no_timer_outlives_its_dialogue : Worked
no_timer_outlives_its_dialogue = worked usual_start (opened_with_invoke (
    request_pair 1 (asks.u_abort AbortReason.by_user []) (Answer.outputs (told.closed 1 1 (pos 1) Closing.ended ∷ []))
    ∷ dialogue_born 2
    ∷ invoke_pair 2 (pos 1) One (pos 10) 5000 (Answer.number 2)
    ∷ request_pair 2 begin_request (Answer.outputs
    (sent (hex 18 0x6210_480400000002_6C08_A106_020101_02010A) ∷ []))
    ∷ moment_pair 1000 []
    ∷ moment_pair 5000 (told.closed 2 2 (pos 1) Closing.lapsed ∷ [])
    ∷ []))
    (closed_at 1 4 1 (pos 1) Closing.ended ∷ closed_at 2 9 2 (pos 1) Closing.lapsed ∷ [])

-- Lapses are told by deadline, then by dialogue, then by number (own).
abbrev pub lapses_in_order : Worked
lapses_in_order = worked usual_start (
    dialogue_born 1
    ∷ dialogue_born 2
    ∷ invoke_pair 2 (pos 5) One (pos 10) 20 (Answer.number 1)
    ∷ invoke_pair 2 (pos 6) One (pos 10) 10 (Answer.number 2)
    ∷ invoke_pair 1 (pos 7) One (pos 10) 20 (Answer.number 3)
    ∷ invoke_pair 1 (pos 8) One (pos 10) 20 (Answer.number 4)
    ∷ request_pair 2 begin_request (Answer.outputs
    (sent (hex 26 0x6218_480400000002_6C10_A106_020105_02010A_A106_020106_02010A) ∷ []))
    ∷ request_pair 1 begin_request (Answer.outputs
    (sent (hex 26 0x6218_480400000001_6C10_A106_020107_02010A_A106_020108_02010A) ∷ []))
    ∷ moment_pair 20 (
    told.closed 2 2 (pos 6) Closing.lapsed
    ∷ told.closed 1 3 (pos 7) Closing.lapsed
    ∷ told.closed 1 4 (pos 8) Closing.lapsed
    ∷ told.closed 2 1 (pos 5) Closing.lapsed
    ∷ [])
    ∷ [])
    (closed_at 1 9 2 (pos 5) Closing.lapsed
    ∷ closed_at 2 9 2 (pos 6) Closing.lapsed
    ∷ closed_at 3 9 1 (pos 7) Closing.lapsed
    ∷ closed_at 4 9 1 (pos 8) Closing.lapsed
    ∷ [])

-- Where the numbers are spent, this is told before the queue's limit (own).
abbrev pub numbers_before_the_queue : Worked
numbers_before_the_queue = worked (record usual_start { next_number = 18446744073709551615 }) (
    dialogue_born 1
    ∷ request_pair 1 (invoke_with (code 10) longest_parameter) (Answer.refused Fault.numbers_spent)
    ∷ [])
    []
