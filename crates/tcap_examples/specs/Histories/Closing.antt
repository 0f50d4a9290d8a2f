-- Worked histories: how invocations end.
use Rattle.std.specs.Prelude.{ℕ, pos, negsuc, List, [], ◌∷◌, ◌++◌, Some, None}
use Rattle.tcap_invocation.specs.declared.class.Class.TheVariants.{One, Two, Three, Four}
use Rattle.tcap_model.specs.Words.Answer.{Answer}
use Rattle.tcap_examples.specs.Values.DialogueValues.{code, context, aarq, aare, result_of_first, of_result, of_error, general}
use Rattle.tcap_model.specs.Words.Fault.{Fault}
use Rattle.tcap_examples.specs.Values.Hex.{hex}
use Rattle.tcap_model.specs.Words.Output.{Output, Closing, Rejector, AbortCause, DropCause}
use Rattle.tcap_examples.specs.Histories.Worked.{Worked, worked, closed_at, not_closed}
use Rattle.tcap_examples.specs.Values.HistoryWords.{dialogue_born, invoke_pair, request_pair, received_pair, moment_pair, begin_request, continue_request, continued, ended, empty_result, usual_start, opened_with_invoke, opened_for}
use Rattle.tcap_examples.specs.Values.Asked as asks
use Rattle.tcap_examples.specs.Values.Told as told
use Rattle.tcap_examples.specs.Values.Peer.{sent}

-- An End with a result closes its invocation by the result; nothing comes after it (own).
abbrev pub result_in_an_end : Worked
result_in_an_end = worked usual_start (opened_with_invoke (
    received_pair (hex 15 0x640D_490400000001_6C05_A203_020101) (ended 1 ∷ told.closed 1 1 (pos 1) empty_result ∷ [])
    ∷ moment_pair 2000 []
    ∷ received_pair (hex 15 0x640D_490400000001_6C05_A203_020101) (Output.dropped DropCause.no_dialogue ∷ [])
    ∷ []))
    (closed_at 1 4 1 (pos 1) empty_result ∷ [])

-- An invocation lapses at its deadline, and a result after that is rejected; an earlier moment does
-- nothing (own).
abbrev pub lapse_and_late_result : Worked
lapse_and_late_result = worked usual_start (opened_with_invoke (
    moment_pair 999 []
    ∷ moment_pair 1000 (told.closed 1 1 (pos 1) Closing.lapsed ∷ [])
    ∷ received_pair result_of_first (continued 1 ∷ told.local_reject (Some 1) (Some (pos 1)) (of_result 0) ∷ [])
    ∷ request_pair 1 continue_request (Answer.outputs
    (sent (hex 24 0x6516_480400000001_490400000005_6C08_A406_020101_820100) ∷ []))
    ∷ moment_pair 5 []
    ∷ []))
    (closed_at 1 5 1 (pos 1) Closing.lapsed ∷ [])

-- The Continue with an accepted AARE that answers the Begin of the next history (own).
abbrev pub accepting : List ℕ
accepting = hex 14 0x653F_480400000005_490400000001 ++ aare ++ hex 7 0x6C05_A203_020101

-- An accepted AARE is normal once; a second one ends the dialogue (own).
abbrev pub repeated_aare : Worked
repeated_aare = worked usual_start (
    dialogue_born 1
    ∷ invoke_pair 1 (pos 1) One (pos 10) 1000 (Answer.number 1)
    ∷ invoke_pair 1 (pos 2) One (pos 11) 1000 (Answer.number 2)
    ∷ request_pair 1 (asks.begin (Some context) [])
    (Answer.outputs (sent (hex 8 0x6238_480400000001 ++ aarq
    ++ hex 18 0x6C10_A106_020101_02010A_A106_020102_02010B) ∷ []))
    ∷ received_pair accepting (told.go_on 1 (Some context) [] ∷ told.closed 1 1 (pos 1) empty_result ∷ [])
    ∷ received_pair accepting (
    sent (hex 28 0x671A_490400000005_6B12_2810_060700118605010101_A005_6403_800101)
    ∷ told.p_abort 1 AbortCause.abnormal
    ∷ told.closed 1 2 (pos 2) Closing.ended
    ∷ [])
    ∷ [])
    (closed_at 1 5 1 (pos 1) empty_result ∷ closed_at 2 6 1 (pos 2) Closing.ended ∷ [])

-- Results and errors that the class doesn't have close the invocation as local Rejects (own).
abbrev pub answers_the_class_forbids : Worked
answers_the_class_forbids = worked usual_start (
    dialogue_born 1
    ∷ invoke_pair 1 (pos 1) Two (pos 10) 1000 (Answer.number 1)
    ∷ invoke_pair 1 (pos 2) Three (pos 10) 1000 (Answer.number 2)
    ∷ invoke_pair 1 (pos 3) Four (pos 10) 1000 (Answer.number 3)
    ∷ request_pair 1 begin_request (Answer.outputs
    (sent (hex 34 0x6220_480400000001_6C18_A106_020101_02010A_A106_020102_02010A_A106_020103_02010A) ∷ []))
    ∷ received_pair (hex 34 0x6520_480400000005_490400000001_6C12_A203_020101_A306_020102_020101_A703_020103) (
    continued 1
    ∷ told.closed 1 1 (pos 1) (Closing.rejected (of_result 1) Rejector.local)
    ∷ told.closed 1 2 (pos 2) (Closing.rejected (of_error 1) Rejector.local)
    ∷ told.closed 1 3 (pos 3) (Closing.rejected (of_result 1) Rejector.local)
    ∷ [])
    ∷ [])
    (closed_at 1 6 1 (pos 1) (Closing.rejected (of_result 1) Rejector.local)
    ∷ closed_at 2 6 1 (pos 2) (Closing.rejected (of_error 1) Rejector.local)
    ∷ closed_at 3 6 1 (pos 3) (Closing.rejected (of_result 1) Rejector.local)
    ∷ [])

-- The Begin with twelve Invokes, three of each class (own).
abbrev pub each_class_invoked : List ℕ
each_class_invoked =
    hex 42 0x6268_480400000001_6C60_A106_020101_02010A_A106_020102_02010A_A106_020103_02010A_A106_020104_02010A
    ++ hex 32 0xA106_020105_02010A_A106_020106_02010A_A106_020107_02010A_A106_020108_02010A
    ++ hex 32 0xA106_020109_02010A_A106_02010A_02010A_A106_02010B_02010A_A106_02010C_02010A

-- The Continue that answers them: four results, four parts of one, and four errors (own).
abbrev pub each_class_answered : List ℕ
each_class_answered =
    hex 36 0x6556_480400000005_490400000001_6C48_A203_020101_A203_020102_A203_020103_A203_020104
    ++ hex 20 0xA703_020105_A703_020106_A703_020107_A703_020108
    ++ hex 32 0xA306_020109_020101_A306_02010A_020101_A306_02010B_020101_A306_02010C_020101

-- The Continue with the Rejects of what the classes don't have (own).
abbrev pub each_class_rejects : List ℕ
each_class_rejects =
    hex 40 0x653E_480400000001_490400000005_6C30_A406_020102_820101_A406_020104_820101_A406_020106_820101
    ++ hex 24 0xA406_020108_820101_A406_02010B_830101_A406_02010C_830101

-- What each class makes of a Return Result Last, a Return Result Not Last and a Return Error
-- (Q.774, Component sublayer procedures).
abbrev pub each_answer_of_each_class : Worked
each_answer_of_each_class = worked usual_start (
    dialogue_born 1
    ∷ invoke_pair 1 (pos 1) One (pos 10) 1000 (Answer.number 1)
    ∷ invoke_pair 1 (pos 2) Two (pos 10) 1000 (Answer.number 2)
    ∷ invoke_pair 1 (pos 3) Three (pos 10) 1000 (Answer.number 3)
    ∷ invoke_pair 1 (pos 4) Four (pos 10) 1000 (Answer.number 4)
    ∷ invoke_pair 1 (pos 5) One (pos 10) 1000 (Answer.number 5)
    ∷ invoke_pair 1 (pos 6) Two (pos 10) 1000 (Answer.number 6)
    ∷ invoke_pair 1 (pos 7) Three (pos 10) 1000 (Answer.number 7)
    ∷ invoke_pair 1 (pos 8) Four (pos 10) 1000 (Answer.number 8)
    ∷ invoke_pair 1 (pos 9) One (pos 10) 1000 (Answer.number 9)
    ∷ invoke_pair 1 (pos 10) Two (pos 10) 1000 (Answer.number 10)
    ∷ invoke_pair 1 (pos 11) Three (pos 10) 1000 (Answer.number 11)
    ∷ invoke_pair 1 (pos 12) Four (pos 10) 1000 (Answer.number 12)
    ∷ request_pair 1 begin_request (Answer.outputs (sent each_class_invoked ∷ []))
    ∷ received_pair each_class_answered (
    continued 1
    ∷ told.closed 1 1 (pos 1) empty_result
    ∷ told.closed 1 2 (pos 2) (Closing.rejected (of_result 1) Rejector.local)
    ∷ told.closed 1 3 (pos 3) empty_result
    ∷ told.closed 1 4 (pos 4) (Closing.rejected (of_result 1) Rejector.local)
    ∷ told.result_more 1 5 (pos 5) None
    ∷ told.closed 1 6 (pos 6) (Closing.rejected (of_result 1) Rejector.local)
    ∷ told.result_more 1 7 (pos 7) None
    ∷ told.closed 1 8 (pos 8) (Closing.rejected (of_result 1) Rejector.local)
    ∷ told.closed 1 9 (pos 9) (Closing.error_back (code 1) None)
    ∷ told.closed 1 10 (pos 10) (Closing.error_back (code 1) None)
    ∷ told.closed 1 11 (pos 11) (Closing.rejected (of_error 1) Rejector.local)
    ∷ told.closed 1 12 (pos 12) (Closing.rejected (of_error 1) Rejector.local)
    ∷ [])
    ∷ request_pair 1 continue_request (Answer.outputs (sent each_class_rejects ∷ []))
    ∷ [])
    (closed_at 1 15 1 (pos 1) empty_result
    ∷ closed_at 2 15 1 (pos 2) (Closing.rejected (of_result 1) Rejector.local)
    ∷ closed_at 3 15 1 (pos 3) empty_result
    ∷ closed_at 4 15 1 (pos 4) (Closing.rejected (of_result 1) Rejector.local)
    ∷ not_closed 5
    ∷ closed_at 6 15 1 (pos 6) (Closing.rejected (of_result 1) Rejector.local)
    ∷ not_closed 7
    ∷ closed_at 8 15 1 (pos 8) (Closing.rejected (of_result 1) Rejector.local)
    ∷ closed_at 9 15 1 (pos 9) (Closing.error_back (code 1) None)
    ∷ closed_at 10 15 1 (pos 10) (Closing.error_back (code 1) None)
    ∷ closed_at 11 15 1 (pos 11) (Closing.rejected (of_error 1) Rejector.local)
    ∷ closed_at 12 15 1 (pos 12) (Closing.rejected (of_error 1) Rejector.local)
    ∷ [])

-- After a result its identifier is held until a moment that is `reject_ms` later (own).
abbrev pub identifier_held_after_a_result : Worked
identifier_held_after_a_result = worked usual_start (opened_for 10000 (
    received_pair result_of_first (continued 1 ∷ told.closed 1 1 (pos 1) empty_result ∷ [])
    ∷ moment_pair 999 []
    ∷ invoke_pair 1 (pos 1) One (pos 10) 10000 (Answer.refused Fault.invoke_id_in_use)
    ∷ moment_pair 1000 []
    ∷ invoke_pair 1 (pos 1) One (pos 10) 10000 (Answer.number 2)
    ∷ request_pair 1 continue_request (Answer.outputs
    (sent (hex 24 0x6516_480400000001_490400000005_6C08_A106_020101_02010A) ∷ []))
    ∷ received_pair result_of_first (continued 1 ∷ told.closed 1 2 (pos 1) empty_result ∷ [])
    ∷ []))
    (closed_at 1 4 1 (pos 1) empty_result ∷ closed_at 2 10 1 (pos 1) empty_result ∷ [])

-- With `reject_ms` 0 the identifier is held until the next accepted moment, which may be the clock's
-- own (own).
abbrev pub identifier_held_at_the_same_moment : Worked
identifier_held_at_the_same_moment = worked (record usual_start { reject_ms = 0 }) (opened_with_invoke (
    received_pair result_of_first (continued 1 ∷ told.closed 1 1 (pos 1) empty_result ∷ [])
    ∷ invoke_pair 1 (pos 1) One (pos 10) 1000 (Answer.refused Fault.invoke_id_in_use)
    ∷ moment_pair 0 []
    ∷ invoke_pair 1 (pos 1) One (pos 10) 1000 (Answer.number 2)
    ∷ []))
    (closed_at 1 4 1 (pos 1) empty_result ∷ not_closed 2 ∷ [])

-- The user's Reject of the result frees the identifier at once (own).
abbrev pub identifier_freed_by_a_reject : Worked
identifier_freed_by_a_reject = worked usual_start (opened_for 10000 (
    received_pair result_of_first (continued 1 ∷ told.closed 1 1 (pos 1) empty_result ∷ [])
    ∷ request_pair 1 (asks.u_reject (Some (pos 1)) (of_result 2)) Answer.done
    ∷ invoke_pair 1 (pos 1) One (pos 10) 10000 (Answer.number 2)
    ∷ []))
    (closed_at 1 4 1 (pos 1) empty_result ∷ not_closed 2 ∷ [])

-- A faulty component ends the list: what stands behind it isn't told (own).
abbrev pub faulty_second_component : Worked
faulty_second_component = worked usual_start (
    dialogue_born 1
    ∷ invoke_pair 1 (negsuc 127) One (pos 10) 1000 (Answer.number 1)
    ∷ invoke_pair 1 (pos 127) One (pos 10) 1000 (Answer.number 2)
    ∷ request_pair 1 begin_request (Answer.outputs
    (sent (hex 26 0x6218_480400000001_6C10_A106_020180_02010A_A106_02017F_02010A) ∷ []))
    ∷ received_pair (hex 39
    0x6525_480400000005_490400000001_6C17_A203_020180_A503_020107_A203_02017F_A306_02017F_020101) (
    continued 1
    ∷ told.closed 1 1 (negsuc 127) empty_result
    ∷ told.local_reject (Some 1) (Some (pos 7)) (general 0)
    ∷ [])
    ∷ request_pair 1 continue_request (Answer.outputs
    (sent (hex 24 0x6516_480400000001_490400000005_6C08_A406_020107_800100) ∷ []))
    ∷ [])
    (closed_at 1 5 1 (negsuc 127) empty_result ∷ not_closed 2 ∷ [])

-- The peer's identifier is the origin of the first Continue for good (own).
abbrev pub the_peer_stays : Worked
the_peer_stays = worked usual_start (opened_with_invoke (
    received_pair result_of_first (continued 1 ∷ told.closed 1 1 (pos 1) empty_result ∷ [])
    ∷ received_pair (hex 21 0x6513_480400000006_490400000001_6C05_A203_020101)
    (continued 1 ∷ told.local_reject (Some 1) (Some (pos 1)) (of_result 0) ∷ [])
    ∷ request_pair 1 continue_request (Answer.outputs
    (sent (hex 24 0x6516_480400000001_490400000005_6C08_A406_020101_820100) ∷ []))
    ∷ []))
    (closed_at 1 4 1 (pos 1) empty_result ∷ [])
