-- Worked histories: one beginning, and the ways in which its invocation closes.
use Rattle.std.specs.Prelude.{ℕ, pos, List, [], ◌∷◌, ◌++◌, Some, None}
use Rattle.tcap_model.specs.Words.Answer.{Answer}
use Rattle.tcap_examples.specs.Values.DialogueValues.{aare_result, of_result, of_invoke, code}
use Rattle.tcap_examples.specs.Values.Hex.{hex}
use Rattle.tcap_model.specs.Words.Output.{Output, Closing, Rejector, AbortCause, DropCause}
use Rattle.tcap_model.specs.Words.Request.{Ending, AbortReason}
use Rattle.tcap_examples.specs.Histories.Worked.{Worked, worked, closed_at, not_closed}
use Rattle.tcap_examples.specs.Values.HistoryWords.{request_pair, received_pair, continued, ended, usual_start, opened_with_invoke}
use Rattle.tcap_examples.specs.Values.Asked as asks
use Rattle.tcap_examples.specs.Values.Told as told
use Rattle.tcap_examples.specs.Values.Peer.{sent}

-- The Abort of a Begin whose version isn't spoken: an AARE, not accepted, "no common dialogue portion"
-- by the provider (own).
abbrev pub no_common_portion : List ℕ
no_common_portion = hex 8 0x6732_490400000001 ++ aare_result 0xA203020101_A305A203020102

-- By an Abort with a P-Abort cause (own).
abbrev pub closed_by_a_cause : Worked
closed_by_a_cause = worked usual_start (opened_with_invoke (
    received_pair (hex 11 0x6709_490400000001_4A0104)
    (told.p_abort 1 (AbortCause.cause 4) ∷ told.closed 1 1 (pos 1) Closing.ended ∷ [])
    ∷ []))
    (closed_at 1 4 1 (pos 1) Closing.ended ∷ [])

-- By an Abort with nothing (own).
abbrev pub closed_by_an_abort : Worked
closed_by_an_abort = worked usual_start (opened_with_invoke (
    received_pair (hex 8 0x6706_490400000001) (told.u_abort 1 None ∷ told.closed 1 1 (pos 1) Closing.ended ∷ [])
    ∷ []))
    (closed_at 1 4 1 (pos 1) Closing.ended ∷ [])

-- By an error in an End (own).
abbrev pub closed_by_an_error : Worked
closed_by_an_error = worked usual_start (opened_with_invoke (
    received_pair (hex 18 0x6410_490400000001_6C08_A306_020101_02010D)
    (ended 1 ∷ told.closed 1 1 (pos 1) (Closing.error_back (code 13) None) ∷ [])
    ∷ []))
    (closed_at 1 4 1 (pos 1) (Closing.error_back (code 13) None) ∷ [])

-- By a prearranged end (own).
abbrev pub closed_by_a_prearranged_end : Worked
closed_by_a_prearranged_end = worked usual_start (opened_with_invoke (
    request_pair 1 (asks.finish Ending.prearranged None [])
    (Answer.outputs (told.closed 1 1 (pos 1) Closing.ended ∷ []))
    ∷ []))
    (closed_at 1 4 1 (pos 1) Closing.ended ∷ [])

-- By the user's abort, of which nothing is sent in Initiation Sent (own).
abbrev pub closed_by_the_users_abort : Worked
closed_by_the_users_abort = worked usual_start (opened_with_invoke (
    request_pair 1 (asks.u_abort AbortReason.by_user []) (Answer.outputs (told.closed 1 1 (pos 1) Closing.ended ∷ []))
    ∷ []))
    (closed_at 1 4 1 (pos 1) Closing.ended ∷ [])

-- By the user's cancel (own).
abbrev pub closed_by_a_cancel : Worked
closed_by_a_cancel = worked usual_start (opened_with_invoke (
    request_pair 1 (asks.u_cancel (pos 1)) (Answer.given_up 1)
    ∷ []))
    (closed_at 1 4 1 (pos 1) Closing.given_up ∷ [])

-- A Reject with a Return Result problem closes nothing (own).
abbrev pub reject_of_a_result : Worked
reject_of_a_result = worked usual_start (opened_with_invoke (
    received_pair (hex 24 0x6516_480400000005_490400000001_6C08_A406_020101_820100) (
    continued 1
    ∷ told.remote_reject (Some 1) (Some (pos 1)) (of_result 0) Rejector.remote_provider
    ∷ [])
    ∷ []))
    (not_closed 1 ∷ [])

-- A Reject with an Invoke problem closes the invocation; then the version is refused, and no
-- invocation is left to end (own).
abbrev pub reject_of_an_invoke : Worked
reject_of_an_invoke = worked usual_start (opened_with_invoke (
    received_pair (hex 24 0x6516_480400000005_490400000001_6C08_A406_020101_820100) (
    continued 1
    ∷ told.remote_reject (Some 1) (Some (pos 1)) (of_result 0) Rejector.remote_provider
    ∷ [])
    ∷ received_pair (hex 24 0x6516_480400000005_490400000001_6C08_A406_020101_810101) (
    continued 1
    ∷ told.closed 1 1 (pos 1) (Closing.rejected (of_invoke 1) Rejector.remote_user)
    ∷ [])
    ∷ received_pair no_common_portion (told.p_abort 1 AbortCause.no_common ∷ [])
    ∷ []))
    (closed_at 1 5 1 (pos 1) (Closing.rejected (of_invoke 1) Rejector.remote_user) ∷ [])

-- A faulty Continue is aborted, and ends its dialogue (own).
abbrev pub a_faulty_continue : Worked
a_faulty_continue = worked usual_start (opened_with_invoke (
    received_pair (hex 15 0x650D_480400000005_490400000001_6C) (
    sent (hex 11 0x6709_490400000005_4A0102)
    ∷ told.p_abort 1 (AbortCause.cause 2)
    ∷ told.closed 1 1 (pos 1) Closing.ended
    ∷ [])
    ∷ []))
    (closed_at 1 4 1 (pos 1) Closing.ended ∷ [])

-- A faulty End ends its dialogue, and names none after that (own).
abbrev pub a_faulty_end : Worked
a_faulty_end = worked usual_start (opened_with_invoke (
    received_pair (hex 9 0x6407_490400000001_6C)
    (told.p_abort 1 (AbortCause.cause 2) ∷ told.closed 1 1 (pos 1) Closing.ended ∷ [])
    ∷ received_pair (hex 9 0x6407_490400000001_6C) (Output.dropped DropCause.bad_message ∷ [])
    ∷ []))
    (closed_at 1 4 1 (pos 1) Closing.ended ∷ [])
