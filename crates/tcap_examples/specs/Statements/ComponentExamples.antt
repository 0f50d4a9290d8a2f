-- The histories on which the statements about components are instantiated, and queues that are crossed.
use Rattle.std.specs.Prelude.{ℕ, pos, negsuc, List, [], ◌∷◌, drop, None, Some, false}
use Rattle.tcap_pdu.specs.FrameSpelling.{Message}
use Rattle.tcap_component.specs.Component.{ComponentParts}
use Rattle.tcap_component.specs.ComponentFault.{FaultParts}
use Rattle.tcap_invocation.specs.declared.class.Class.TheVariants.{One}
use Rattle.tcap_model.specs.Words.Answer.{Answer}
use Rattle.tcap_examples.specs.Values.DialogueValues.{context, aarq, begin_with_aarq, general, of_result, code}
use Rattle.tcap_examples.specs.Values.Hex.{hex}
use Rattle.tcap_model.specs.Words.Output.{Output}
use Rattle.tcap_model.specs.Histories.Pair.{Pair, Past}
use Rattle.tcap_examples.specs.Histories.Receptions as reception
use Rattle.tcap_examples.specs.Statements.HeadlineExamples.{faulty_second_history, late_result_history}
use Rattle.tcap_examples.specs.Values.HistoryWords.{dialogue_born, invoke_pair, request_pair, received_pair, begin_request, continue_request, continued, empty_result, usual_start}
use Rattle.tcap_examples.specs.Wrong.WrongHistories.{Wrong, wrong}
use Rattle.tcap_examples.specs.Values.Told as told
use Rattle.tcap_examples.specs.Values.Peer.{sent}

-- ---- two Invokes that go out, and a Reject

-- The pairs of "Faulty second component": two Invokes go out, one is answered, what can't be read is
-- rejected, and the Reject goes out (own).
abbrev pub past : Past
past = faulty_second_history.pairs

-- The Begin with the two Invokes (own).
abbrev pub begin_sent : List ℕ
begin_sent = hex 26 0x6218_480400000001_6C10_A106_020180_02010A_A106_02017F_02010A

-- The request that sends it (own).
abbrev pub begin_pair : Pair
begin_pair = request_pair 1 begin_request (Answer.outputs (sent begin_sent ∷ []))

-- The message (own).
abbrev pub begin_message : Message
begin_message = Message.begin (hex 4 0x00000001) None (hex 16 0xA106_020180_02010A_A106_02017F_02010A)

-- Its components (own).
abbrev pub two_invokes : List ComponentParts
two_invokes = ComponentParts.invoke (negsuc 127) None (code 10) None
    ∷ ComponentParts.invoke (pos 127) None (code 10) None ∷ []

-- What stands before it (own).
abbrev pub before_the_begin : Past
before_the_begin = drop 3 past

-- The Continue with the Reject (own).
abbrev pub reject_continue : List ℕ
reject_continue = hex 24 0x6516_480400000001_490400000005_6C08_A406_020107_800100

-- The request that sends it (own).
abbrev pub reject_pair : Pair
reject_pair = request_pair 1 continue_request (Answer.outputs (sent reject_continue ∷ []))

-- The message (own).
abbrev pub reject_message : Message
reject_message = Message.go_on (hex 4 0x00000001) (hex 4 0x00000005) None (hex 8 0xA406_020107_800100)

-- Its component (own).
abbrev pub reject : List ComponentParts
reject = ComponentParts.reject_back (Some (pos 7)) (general 0) ∷ []

-- What stands before it (own).
abbrev pub before_the_reject : Past
before_the_reject = drop 1 past

-- ---- an Invoke that goes out, and a Reject of its late result

-- The pairs of "Lapse and late result" (own).
abbrev pub late : Past
late = late_result_history.pairs

-- The Begin with the Invoke (own).
abbrev pub first_message : Message
first_message = Message.begin (hex 4 0x00000001) None (hex 8 0xA106_020101_02010A)

-- Its component (own).
abbrev pub first_invoke : ComponentParts
first_invoke = ComponentParts.invoke (pos 1) None (code 10) None

-- The Continue with the Reject (own).
abbrev pub late_message : Message
late_message = Message.go_on (hex 4 0x00000001) (hex 4 0x00000005) None (hex 8 0xA406_020101_820100)

-- Its component: there is no such invocation (own).
abbrev pub late_reject : ComponentParts
late_reject = ComponentParts.reject_back (Some (pos 1)) (of_result 0)

-- ---- a result that comes

-- A Continue with a result, and behind it a component that can't be read (own).
abbrev pub result_received : List ℕ
result_received = hex 39 0x6525_480400000005_490400000001_6C17_A203_020180_A503_020107_A203_02017F_A306_02017F_020101

-- The result closes number 1 (own).
abbrev pub result_told : Output
result_told = told.closed 1 1 (negsuc 127) empty_result

-- What is told of it (own).
abbrev pub result_pair : Pair
result_pair = received_pair result_received (continued 1 ∷ result_told
    ∷ told.local_reject (Some 1) (Some (pos 7)) (general 0) ∷ [])

-- The message (own).
abbrev pub result_message : Message
result_message = Message.go_on (hex 4 0x00000005) (hex 4 0x00000001) None
    (hex 23 0xA203_020180_A503_020107_A203_02017F_A306_02017F_020101)

-- Its first component (own).
abbrev pub received_result : ComponentParts
received_result = ComponentParts.result_last (negsuc 127) None

-- What can't be read: a component of an unknown type (own).
abbrev pub unknown_component : FaultParts
unknown_component = record { problem = general 0; id = Some (pos 7); was_reject = false }

-- What stands before it (own).
abbrev pub before_the_result : Past
before_the_result = drop 2 past

-- ---- an Invoke that comes

-- The pairs of "A Begin with AARQ" (own).
abbrev pub begin_received : Past
begin_received = reception.a_begin_with_aarq.history.pairs

-- The Invoke is told (own).
abbrev pub invoke_told : Output
invoke_told = told.invoked (Some 1) (pos 1) None (code 2) (Some (hex 5 0x3003_0401AA))

-- What is told of the Begin (own).
abbrev pub begun_pair : Pair
begun_pair = received_pair begin_with_aarq (told.begin 1 (Some context) [] ∷ invoke_told ∷ [])

-- The message: its dialogue portion is the AARQ (own).
abbrev pub begun_message : Message
begun_message = Message.begin (hex 4 0x00000001) (Some (drop 2 aarq)) (hex 13 0xA10B_020101_020102_30030401AA)

-- Its component (own).
abbrev pub invoke_read : ComponentParts
invoke_read = ComponentParts.invoke (pos 1) None (code 2) (Some (hex 5 0x3003_0401AA))

-- ---- queues that are crossed

-- The Begin of dialogue 2 with an Invoke: identifier 1, operation 10 (own).
abbrev pub crossed_sent : List ℕ
crossed_sent = hex 18 0x6210_480400000002_6C08_A106_020101_02010A

-- The message (own).
abbrev pub crossed_message : Message
crossed_message = Message.begin (hex 4 0x00000002) None (hex 8 0xA106_020101_02010A)

-- Its component (own).
abbrev pub crossed_invoke : ComponentParts
crossed_invoke = ComponentParts.invoke (pos 1) None (code 10) None

-- Dialogue 2 sends what is in the queue of dialogue 1 (own).
abbrev pub crossed_queues : Wrong
crossed_queues = wrong usual_start (
    dialogue_born 1
    ∷ dialogue_born 2
    ∷ invoke_pair 1 (pos 1) One (pos 10) 1000 (Answer.number 1)
    ∷ [])
    (request_pair 2 begin_request (Answer.outputs (sent crossed_sent ∷ [])))

-- ---- an Invoke that is misread

-- The Begin asks for operation 2, and operation 3 is told (own).
abbrev pub misread_told : Output
misread_told = told.invoked (Some 1) (pos 1) None (code 3) (Some (hex 5 0x3003_0401AA))

-- It is all that happens (own).
abbrev pub misread : Wrong
misread = wrong usual_start [] (received_pair begin_with_aarq (told.begin 1 (Some context) [] ∷ misread_told ∷ []))
