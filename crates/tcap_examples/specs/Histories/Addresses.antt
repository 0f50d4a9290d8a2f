-- Worked histories of addresses: where messages come from and go.
use Rattle.std.specs.Prelude.{ℕ, pos, List, [], ◌∷◌, ◌++◌, Some, None}
use Rattle.tcap_invocation.specs.declared.class.Class.TheVariants.{One, Four}
use Rattle.tcap_model.specs.Histories.Pair.{Pair}
use Rattle.tcap_model.specs.Words.Address.{Address}
use Rattle.tcap_model.specs.Words.Answer.{Answer}
use Rattle.tcap_model.specs.Words.Event.{Event}
use Rattle.tcap_model.specs.Words.Output.{Output, AbortCause, Closing}
use Rattle.tcap_model.specs.Words.Request.{DialogueRequest, Ending, Request}
use Rattle.tcap_examples.specs.Histories.Closing.{accepting}
use Rattle.tcap_examples.specs.Histories.Worked.{Worked, worked, closed_at}
use Rattle.tcap_examples.specs.Values.Asked as asks
use Rattle.tcap_examples.specs.Values.DialogueValues.{aarq, code, context, shown_begin}
use Rattle.tcap_examples.specs.Values.Hex.{hex}
use Rattle.tcap_examples.specs.Values.HistoryWords.{dialogue_born, invoke_pair, request_pair, continue_request, continued, empty_result, usual_start}
use Rattle.tcap_examples.specs.Values.Told as told

-- ---- words

-- Bytes are received from an address, and this is sent and told (own).
abbrev pub heard_from : Address → List ℕ → List Output → Pair
heard_from from bytes outputs =
    record { event = Event.received from bytes; answer = Answer.outputs outputs; idle_ms = 0 }

-- A message is sent to an address, and nothing else is told (own).
abbrev pub sent_to : Address → List ℕ → Answer
sent_to to bytes = Answer.outputs (Output.send to bytes ∷ [])

-- The address to which dialogues are begun (own).
abbrev pub at_0a : Address
at_0a = 0x0A ∷ []

-- The address from which the first answer comes (own).
abbrev pub at_0b : Address
at_0b = 0x0B ∷ []

-- The address from which a later message comes (own).
abbrev pub at_0c : Address
at_0c = 0x0C ∷ []

-- The address of a node that has no dialogue (own).
abbrev pub at_0d : Address
at_0d = 0x0D ∷ []

-- A Continue of the peer without components (own).
abbrev pub plain_continue : List ℕ
plain_continue = hex 14 0x650C_480400000005_490400000001

-- The Continue that answers it (own).
abbrev pub own_continue : List ℕ
own_continue = hex 14 0x650C_480400000001_490400000005

-- ---- histories

-- A dialogue is begun with 0A, and its first Continue comes from 0B (own).
abbrev pub first_heard : List Pair
first_heard =
    dialogue_born 1
    ∷ request_pair 1 (asks.begin_to at_0a None []) (sent_to at_0a (hex 8 0x6206_480400000001))
    ∷ heard_from at_0b plain_continue (continued 1 ∷ [])
    ∷ []

-- From then on its messages go to 0B, though the next Continue comes from 0C (own).
abbrev pub learned_once_pairs : List Pair
learned_once_pairs =
    first_heard
    ++ request_pair 1 continue_request (sent_to at_0b own_continue)
    ∷ heard_from at_0c plain_continue (continued 1 ∷ [])
    ∷ request_pair 1 continue_request (sent_to at_0b own_continue)
    ∷ []

-- An address learned once (own).
abbrev pub learned_once : Worked
learned_once = worked usual_start learned_once_pairs []

-- A Continue to no dialogue is answered to its sender (own).
abbrev pub answered_to_the_sender : Worked
answered_to_the_sender = worked usual_start (
    learned_once_pairs
    ++ heard_from at_0d (hex 14 0x650C_480400000009_4904000000FF)
    (Output.send at_0d (hex 11 0x6709_490400000009_4A0101) ∷ [])
    ∷ [])
    []

-- A second acceptance ends the dialogue; the Abort goes to the address of its peer (own).
abbrev pub repeated_aare_from_elsewhere : Worked
repeated_aare_from_elsewhere = worked usual_start (
    dialogue_born 1
    ∷ invoke_pair 1 (pos 1) One (pos 10) 1000 (Answer.number 1)
    ∷ invoke_pair 1 (pos 2) One (pos 11) 1000 (Answer.number 2)
    ∷ request_pair 1 (asks.begin_to at_0a (Some context) [])
    (sent_to at_0a (hex 8 0x6238_480400000001 ++ aarq ++ hex 18 0x6C10_A106_020101_02010A_A106_020102_02010B))
    ∷ heard_from at_0b accepting (told.go_on 1 (Some context) [] ∷ told.closed 1 1 (pos 1) empty_result ∷ [])
    ∷ heard_from at_0c accepting (
    Output.send at_0b (hex 28 0x671A_490400000005_6B12_2810_060700118605010101_A005_6403_800101)
    ∷ told.p_abort 1 AbortCause.abnormal
    ∷ told.closed 1 2 (pos 2) Closing.ended
    ∷ [])
    ∷ [])
    (closed_at 1 5 1 (pos 1) empty_result ∷ closed_at 2 6 1 (pos 2) Closing.ended ∷ [])

-- A faulty Continue ends the dialogue; it is answered to its sender and the origin at its front (own).
abbrev pub faulty_continue_from_elsewhere : Worked
faulty_continue_from_elsewhere = worked usual_start (
    first_heard
    ++ heard_from at_0c (hex 15 0x650D_480400000006_490400000001_6C) (
    Output.send at_0c (hex 11 0x6709_490400000006_4A0102)
    ∷ told.p_abort 1 (AbortCause.cause 2)
    ∷ [])
    ∷ [])
    []

-- The first Continue without the acceptance that was asked for ends the dialogue; the Abort goes to its
-- sender (own).
abbrev pub first_continue_abnormal : Worked
first_continue_abnormal = worked usual_start (
    dialogue_born 1
    ∷ request_pair 1 (asks.begin_to at_0a (Some context) []) (sent_to at_0a (hex 8 0x6226_480400000001 ++ aarq))
    ∷ heard_from at_0b plain_continue (
    Output.send at_0b (hex 28 0x671A_490400000005_6B12_2810_060700118605010101_A005_6403_800101)
    ∷ told.p_abort 1 AbortCause.abnormal
    ∷ [])
    ∷ [])
    []

-- A dialogue that a Begin makes keeps the address of its sender: the user's Abort goes there (own).
abbrev pub begun_from_elsewhere : Worked
begun_from_elsewhere = worked usual_start (
    heard_from at_0b shown_begin (
    told.begin 1 None []
    ∷ told.invoked (Some 1) (pos 1) None (code 2) (Some (hex 5 0x3003_0401AA))
    ∷ [])
    ∷ request_pair 1 continue_request (sent_to at_0b (hex 14 0x650C_480400000001_490400000001))
    ∷ request_pair 1 (asks.finish Ending.basic None []) (sent_to at_0b (hex 8 0x6406_490400000001))
    ∷ [])
    []

-- A Unidirectional goes to the address that its request names, and the empty one is an address too (own).
abbrev pub uni_to_the_named : Worked
uni_to_the_named = worked usual_start (
    dialogue_born 1
    ∷ invoke_pair 1 (pos 1) Four (pos 7) 1000 (Answer.number 1)
    ∷ request_pair 1 (Request.dialogue (DialogueRequest.uni [] None []))
    (Answer.outputs (Output.send [] (hex 12 0x610A_6C08_A106_020101_020107) ∷ told.closed 1 1 (pos 1) Closing.ended ∷ []))
    ∷ [])
    (closed_at 1 3 1 (pos 1) Closing.ended ∷ [])
