-- The histories on which it is shown that components are sent once and in order, and histories in which they
-- aren't.
use Rattle.std.specs.Prelude.{ℕ, pos, List, [], ◌∷◌, drop, reverse, None, Some}
use Rattle.tcap_pdu.specs.FrameSpelling.{Message, Reason}
use Rattle.tcap_component.specs.Component.{ComponentParts}
use Rattle.tcap_invocation.specs.declared.class.Class.TheVariants.{One}
use Rattle.tcap_model.specs.Words.Answer.{Answer}
use Rattle.tcap_examples.specs.Values.DialogueValues.{code, general, of_invoke, of_result}
use Rattle.tcap_examples.specs.Values.Hex.{hex}
use Rattle.tcap_model.specs.Histories.History.{History}
use Rattle.tcap_model.specs.Words.Output.{Closing}
use Rattle.tcap_model.specs.Histories.Pair.{Pair, Past}
use Rattle.tcap_model.specs.Words.Request.{AbortReason}
use Rattle.tcap_examples.specs.Histories.Receptions.{unknown_linked_identifier}
use Rattle.tcap_examples.specs.Values.HistoryWords.{dialogue_born, invoke_pair, request_pair, received_pair, begin_request, continue_request, continued, usual_start, opened_with_invoke}
use Rattle.tcap_examples.specs.Wrong.WrongHistories.{Wrong, wrong}
use Rattle.tcap_examples.specs.Values.Asked as asks
use Rattle.tcap_examples.specs.Values.Told as told
use Rattle.tcap_examples.specs.Values.Peer.{sent}

-- ---- components

-- An Invoke of operation 10, class 1, with this identifier (own).
abbrev pub invoke_of : ℕ → ComponentParts
invoke_of id = ComponentParts.invoke (pos id) None (code 10) None

-- The Reject of a result for identifier 2, whose invocation isn't Sent (own).
abbrev pub reject_of_second : ComponentParts
reject_of_second = ComponentParts.reject_back (Some (pos 2)) (of_result 0)

-- ---- sent in parts

-- The Begin with the second Invoke (own).
abbrev pub begin_sent : List ℕ
begin_sent = hex 18 0x6210_480400000001_6C08_A106_020102_02010A

-- The message (own).
abbrev pub begin_message : Message
begin_message = Message.begin (hex 4 0x00000001) None (hex 8 0xA106_020102_02010A)

-- The Continue with a Reject and an Invoke (own).
abbrev pub continue_sent : List ℕ
continue_sent = hex 32 0x651E_480400000001_490400000005_6C10_A406_020102_820100_A106_020101_02010A

-- The message (own).
abbrev pub continue_message : Message
continue_message =
    Message.go_on (hex 4 0x00000001) (hex 4 0x00000005) None (hex 16 0xA406_020102_820100_A106_020101_02010A)

-- The request that sends it (own).
abbrev pub continue_pair : Pair
continue_pair = request_pair 1 continue_request (Answer.outputs (sent continue_sent ∷ []))

-- The user's Abort (own).
abbrev pub abort_sent : List ℕ
abort_sent = hex 8 0x6706_490400000005

-- The message (own).
abbrev pub abort_message : Message
abort_message = Message.abort (hex 4 0x00000005) Reason.nothing

-- Of two Invokes the first is given up before it is sent, and the second once it is sent, which takes nothing
-- back. Its result comes late and is rejected. The Reject goes out, and behind it the Invoke that was asked
-- for after it. What is queued then is never sent, since the user aborts (own).
abbrev pub sent_in_parts : History
sent_in_parts = record {
  start = usual_start;
  pairs = reverse (
      dialogue_born 1
      ∷ invoke_pair 1 (pos 1) One (pos 10) 1000 (Answer.number 1)
      ∷ invoke_pair 1 (pos 2) One (pos 10) 1000 (Answer.number 2)
      ∷ request_pair 1 (asks.u_cancel (pos 1)) (Answer.given_up 1)
      ∷ request_pair 1 begin_request (Answer.outputs (sent begin_sent ∷ []))
      ∷ request_pair 1 (asks.u_cancel (pos 2)) (Answer.given_up 2)
      ∷ received_pair (hex 21 0x6513_480400000005_490400000001_6C05_A203020102) (
      continued 1 ∷ told.local_reject (Some 1) (Some (pos 2)) (of_result 0) ∷ [])
      ∷ invoke_pair 1 (pos 1) One (pos 10) 1000 (Answer.number 3)
      ∷ continue_pair
      ∷ invoke_pair 1 (pos 2) One (pos 10) 1000 (Answer.number 4)
      ∷ request_pair 1 (asks.u_abort AbortReason.by_user []) (Answer.outputs (
      sent abort_sent ∷ told.closed 1 3 (pos 1) Closing.ended ∷ told.closed 1 4 (pos 2) Closing.ended ∷ []))
      ∷ []);
}

-- What stands before the Continue (own).
abbrev pub before_the_continue : Past
before_the_continue = drop 3 sent_in_parts.pairs

-- The history up to there (own).
abbrev pub up_to_the_continue : History
up_to_the_continue = record { start = usual_start; pairs = before_the_continue }

-- What waits there: the Reject and the third Invoke, by their octets (own).
abbrev pub waits_for_the_continue : List (List ℕ)
waits_for_the_continue = hex 8 0xA406_020102_820100 ∷ hex 8 0xA106_020101_02010A ∷ []

-- What was submitted till then, and not given up unsent (own).
abbrev pub all_parts : List ComponentParts
all_parts = invoke_of 2 ∷ reject_of_second ∷ invoke_of 1 ∷ []

-- ---- begun by the peer

-- The Reject of an Invoke with identifier 1 whose linked identifier names no invocation (own).
abbrev pub reject_of_invoke : ComponentParts
reject_of_invoke = ComponentParts.reject_back (Some (pos 1)) (of_invoke 5)

-- The Continue with the Reject (own).
abbrev pub answer_sent : List ℕ
answer_sent = hex 24 0x6516_480400000001_490400000001_6C08_A406_020101_810105

-- The message (own).
abbrev pub answer_message : Message
answer_message = Message.go_on (hex 4 0x00000001) (hex 4 0x00000001) None (hex 8 0xA406_020101_810105)

-- The request that sends it (own).
abbrev pub answer_pair : Pair
answer_pair = request_pair 1 continue_request (Answer.outputs (sent answer_sent ∷ []))

-- The peer's Begin has an Invoke that is rejected, and the first answer has the Reject (own).
abbrev pub begun_by_the_peer : History
begun_by_the_peer = record { start = usual_start; pairs = answer_pair ∷ unknown_linked_identifier.history.pairs }

-- A Reject without identifier (own).
abbrev pub reject_of_none : ComponentParts
reject_of_none = ComponentParts.reject_back None (general 0)

-- ---- sent wrongly

-- The Begin with the first Invoke (own).
abbrev pub first_sent : List ℕ
first_sent = hex 18 0x6210_480400000001_6C08_A106_020101_02010A

-- The message (own).
abbrev pub first_message : Message
first_message = Message.begin (hex 4 0x00000001) None (hex 8 0xA106_020101_02010A)

-- The Continue with the same Invoke (own).
abbrev pub again_sent : List ℕ
again_sent = hex 24 0x6516_480400000001_490400000005_6C08_A106_020101_02010A

-- The message (own).
abbrev pub again_message : Message
again_message = Message.go_on (hex 4 0x00000001) (hex 4 0x00000005) None (hex 8 0xA106_020101_02010A)

-- The Invoke that the Begin had is sent once more, in a Continue (own).
abbrev pub sent_twice : Wrong
sent_twice = wrong usual_start (opened_with_invoke
    (received_pair (hex 14 0x650C_480400000005_490400000001) (continued 1 ∷ []) ∷ []))
    (request_pair 1 continue_request (Answer.outputs (sent again_sent ∷ [])))

-- The Begin with two Invokes, the second one first (own).
abbrev pub swapped_sent : List ℕ
swapped_sent = hex 26 0x6218_480400000001_6C10_A106_020102_02010A_A106_020101_02010A

-- The message (own).
abbrev pub swapped_message : Message
swapped_message = Message.begin (hex 4 0x00000001) None (hex 16 0xA106_020102_02010A_A106_020101_02010A)

-- Two Invokes are sent in the wrong order (own).
abbrev pub sent_swapped : Wrong
sent_swapped = wrong usual_start (
    dialogue_born 1
    ∷ invoke_pair 1 (pos 1) One (pos 10) 1000 (Answer.number 1)
    ∷ invoke_pair 1 (pos 2) One (pos 10) 1000 (Answer.number 2)
    ∷ [])
    (request_pair 1 begin_request (Answer.outputs (sent swapped_sent ∷ [])))

-- An Invoke that was given up is sent all the same (own).
abbrev pub sent_though_given_up : Wrong
sent_though_given_up = wrong usual_start (
    dialogue_born 1
    ∷ invoke_pair 1 (pos 1) One (pos 10) 1000 (Answer.number 1)
    ∷ request_pair 1 (asks.u_cancel (pos 1)) (Answer.given_up 1)
    ∷ [])
    (request_pair 1 begin_request (Answer.outputs (sent first_sent ∷ [])))

-- The Begin without components (own).
abbrev pub bare_sent : List ℕ
bare_sent = hex 8 0x6206_480400000001

-- The message (own).
abbrev pub bare_message : Message
bare_message = Message.begin (hex 4 0x00000001) None []

-- An Invoke isn't sent (own).
abbrev pub not_sent : Wrong
not_sent = wrong usual_start (dialogue_born 1 ∷ invoke_pair 1 (pos 1) One (pos 10) 1000 (Answer.number 1) ∷ [])
    (request_pair 1 begin_request (Answer.outputs (sent bare_sent ∷ [])))
