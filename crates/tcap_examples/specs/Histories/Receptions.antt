-- Worked histories: what comes of received bytes.
use Rattle.std.specs.Prelude.{pos, List, [], ◌∷◌, ◌++◌, replicate, Some, None}
use Rattle.tcap_model.specs.Words.Answer.{Answer}
use Rattle.tcap_examples.specs.Values.DialogueValues.{context, aarq, aare, begin_with_aarq, aare_result, aarq_version, of_invoke, code}
use Rattle.tcap_examples.specs.Values.Hex.{hex}
use Rattle.tcap_model.specs.Words.Output.{Output, DropCause}
use Rattle.tcap_model.specs.Histories.Pair.{Pair}
use Rattle.tcap_model.specs.Words.Request.{AbortReason}
use Rattle.tcap_examples.specs.Histories.Worked.{Worked, worked}
use Rattle.tcap_examples.specs.Histories.Ends.{no_common_portion}
use Rattle.tcap_examples.specs.Values.HistoryWords.{dialogue_born, request_pair, received_pair, continue_request, usual_start}
use Rattle.tcap_examples.specs.Values.Asked as asks
use Rattle.tcap_examples.specs.Values.Told as told
use Rattle.tcap_examples.specs.Values.Peer.{sent}

-- A Begin with an AARQ and an Invoke is received (own).
abbrev pub opened_by_the_peer : List Pair → List Pair
opened_by_the_peer pairs =
    received_pair begin_with_aarq (
    told.begin 1 (Some context) []
    ∷ told.invoked (Some 1) (pos 1) None (code 2) (Some (hex 5 0x3003_0401AA))
    ∷ [])
    ∷ pairs

-- It is answered by a Continue with an AARE (own).
abbrev pub a_begin_with_aarq : Worked
a_begin_with_aarq = worked usual_start (opened_by_the_peer (
    request_pair 1 continue_request (Answer.outputs
    (sent (hex 14 0x6538_480400000001_490400000001 ++ aare) ∷ []))
    ∷ []))
    []

-- Or its application context isn't supported (own).
abbrev pub dialogue_refused : Worked
dialogue_refused = worked usual_start (opened_by_the_peer (
    request_pair 1 (asks.u_abort AbortReason.not_supported []) (Answer.outputs (
    sent (hex 8 0x6732_490400000001 ++ aare_result 0xA203020101_A305A103020102)
    ∷ []))
    ∷ []))
    []

-- Or the user aborts (own).
abbrev pub dialogue_aborted : Worked
dialogue_aborted = worked usual_start (opened_by_the_peer (
    request_pair 1 (asks.u_abort AbortReason.by_user []) (Answer.outputs (
    sent (hex 28 0x671A_490400000001_6B12_2810_060700118605010101_A005_6403_800100)
    ∷ []))
    ∷ []))
    []

-- A Begin whose AARQ has another version is refused, and no dialogue is created (own).
abbrev pub version_refused : Worked
version_refused = worked usual_start (
    received_pair (hex 8 0x6226_480400000001 ++ aarq_version 0x80020700) (sent no_common_portion ∷ [])
    ∷ dialogue_born 1
    ∷ [])
    []

-- A Continue to no dialogue is aborted with cause 1 (own).
abbrev pub continue_to_no_dialogue : Worked
continue_to_no_dialogue = worked usual_start (
    received_pair (hex 14 0x650C_480400000009_4904000000FF) (sent (hex 11 0x6709_490400000009_4A0101) ∷ [])
    ∷ [])
    []

-- Faulty messages are aborted with the cause of their fault, or dropped where they tell no origin
-- (own).
abbrev pub faulty_messages_answered : Worked
faulty_messages_answered = worked usual_start (
    received_pair (hex 9 0x6215_480400000001_6C) (sent (hex 11 0x6709_490400000001_4A0102) ∷ [])
    ∷ received_pair (hex 8 0x6306_480400000007) (sent (hex 11 0x6709_490400000007_4A0100) ∷ [])
    ∷ received_pair (0x00 ∷ []) (Output.dropped DropCause.bad_message ∷ [])
    ∷ received_pair [] (Output.dropped DropCause.bad_message ∷ [])
    ∷ received_pair (hex 4 0x6202_4800) (Output.dropped DropCause.bad_message ∷ [])
    ∷ [])
    []

-- An Invoke whose linked identifier names no invocation is rejected (own).
abbrev pub unknown_linked_identifier : Worked
unknown_linked_identifier = worked usual_start (
    received_pair (hex 21 0x6213_480400000001_6C0B_A109_020101_800105_020102) (
    told.begin 1 None []
    ∷ told.local_reject (Some 1) (Some (pos 1)) (of_invoke 5)
    ∷ [])
    ∷ [])
    []

-- A Unidirectional with an AARQ is dropped (own).
abbrev pub unidirectional_with_aarq : Worked
unidirectional_with_aarq = worked usual_start (
    received_pair (hex 2 0x6122 ++ aarq ++ hex 2 0x6C00) (Output.dropped DropCause.bad_dialogue ∷ [])
    ∷ [])
    []

-- What is longer than a message may be is dropped (own).
abbrev pub too_long_dropped : Worked
too_long_dropped = worked usual_start (
    received_pair (replicate 65536 0) (Output.dropped DropCause.too_long ∷ [])
    ∷ [])
    []
