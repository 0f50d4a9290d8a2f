-- Histories in which an engine gives an answer that isn't the reply.
use Rattle.std.specs.Prelude.{pos, negsuc, [], ◌∷◌, Some, None}
use Rattle.tcap_invocation.specs.declared.class.Class.TheVariants.{One}
use Rattle.tcap_model.specs.Words.Answer.{Answer}
use Rattle.tcap_examples.specs.Values.DialogueValues.{shown_begin, begin_with_aarq, of_result, general, code}
use Rattle.tcap_model.specs.Words.Fault.{Fault}
use Rattle.tcap_examples.specs.Values.Hex.{hex}
use Rattle.tcap_model.specs.Words.Output.{Output, AbortCause, Closing, DropCause}
use Rattle.tcap_model.specs.Words.Request.{AbortReason}
use Rattle.tcap_examples.specs.Values.HistoryWords.{dialogue_born, birth_refused, invoke_pair, request_pair, received_pair, moment_pair, begin_request, continue_request, continued, empty_result, usual_start, opened_with_invoke}
use Rattle.tcap_examples.specs.Wrong.WrongHistories.{Wrong, wrong}
use Rattle.tcap_examples.specs.Wrong.WrongEnds.{answered_once}
use Rattle.tcap_examples.specs.Values.Asked as asks
use Rattle.tcap_examples.specs.Values.Told as told
use Rattle.tcap_examples.specs.Values.Peer.{sent}

-- A component behind a faulty one is told (own).
abbrev pub components_after_a_fault : Wrong
components_after_a_fault = wrong usual_start (
    dialogue_born 1
    ∷ invoke_pair 1 (negsuc 127) One (pos 10) 1000 (Answer.number 1)
    ∷ invoke_pair 1 (pos 127) One (pos 10) 1000 (Answer.number 2)
    ∷ request_pair 1 begin_request (Answer.outputs
    (sent (hex 26 0x6218_480400000001_6C10_A106_020180_02010A_A106_02017F_02010A) ∷ []))
    ∷ [])
    (received_pair (hex 39 0x6525_480400000005_490400000001_6C17_A203_020180_A503_020107_A203_02017F_A306_02017F_020101)
    (
    continued 1
    ∷ told.closed 1 1 (negsuc 127) empty_result
    ∷ told.local_reject (Some 1) (Some (pos 7)) (general 0)
    ∷ told.closed 1 2 (pos 127) empty_result
    ∷ []))

-- An identifier is free as soon as its result is told (own).
abbrev pub identifier_freed_early : Wrong
identifier_freed_early = wrong usual_start (answered_once [])
    (invoke_pair 1 (pos 1) One (pos 10) 1000 (Answer.number 2))

-- An earlier moment sets the clock back, so that an invocation lapses too soon (own).
abbrev pub clock_set_back : Wrong
clock_set_back = wrong usual_start (
    dialogue_born 1
    ∷ moment_pair 1000 []
    ∷ moment_pair 5 []
    ∷ invoke_pair 1 (pos 1) One (pos 10) 1000 (Answer.number 1)
    ∷ request_pair 1 begin_request (Answer.outputs
    (sent (hex 18 0x6210_480400000001_6C08_A106_020101_02010A) ∷ []))
    ∷ [])
    (moment_pair 1005 (told.closed 1 1 (pos 1) Closing.lapsed ∷ []))

-- The origin of a later Continue becomes the peer's identifier (own).
abbrev pub moving_peer : Wrong
moving_peer = wrong usual_start (answered_once (
    received_pair (hex 21 0x6513_480400000006_490400000001_6C05_A203_020101)
    (continued 1 ∷ told.local_reject (Some 1) (Some (pos 1)) (of_result 0) ∷ [])
    ∷ []))
    (request_pair 1 continue_request (Answer.outputs
    (sent (hex 24 0x6516_480400000001_490400000006_6C08_A406_020101_820100) ∷ [])))

-- A repeated Begin makes no second dialogue (own).
abbrev pub recognised_begin : Wrong
recognised_begin = wrong usual_start (
    received_pair shown_begin (
    told.begin 1 None []
    ∷ told.invoked (Some 1) (pos 1) None (code 2) (Some (hex 5 0x3003_0401AA))
    ∷ [])
    ∷ [])
    (received_pair shown_begin [])

-- The identifier of a dialogue that is over is given again (own).
abbrev pub reused_dialogue_identifier : Wrong
reused_dialogue_identifier = wrong usual_start (
    dialogue_born 1
    ∷ request_pair 1 (asks.u_abort AbortReason.by_user []) (Answer.outputs [])
    ∷ [])
    (dialogue_born 1)

-- Every request is refused (own).
abbrev pub everything_wrong_state : Wrong
everything_wrong_state = wrong usual_start []
    (birth_refused Fault.wrong_state)

-- Every message is dropped (own).
abbrev pub drops_every_message : Wrong
drops_every_message = wrong usual_start []
    (received_pair begin_with_aarq (Output.dropped DropCause.bad_message ∷ []))

-- A faulty Continue is answered to the peer, and not to the origin at its front (own).
abbrev pub fault_answered_to_the_peer : Wrong
fault_answered_to_the_peer = wrong usual_start (opened_with_invoke (
    received_pair (hex 14 0x650C_480400000005_490400000001) (continued 1 ∷ [])
    ∷ []))
    (received_pair (hex 15 0x650D_480400000006_490400000001_6C) (
    sent (hex 11 0x6709_490400000005_4A0102)
    ∷ told.p_abort 1 (AbortCause.cause 2)
    ∷ told.closed 1 1 (pos 1) Closing.ended
    ∷ []))

-- A faulty End that has an origin is answered (own).
abbrev pub faulty_end_answered : Wrong
faulty_end_answered = wrong usual_start (opened_with_invoke [])
    (received_pair (hex 15 0x640D_480400000005_490400000001_6C) (
    sent (hex 11 0x6709_490400000005_4A0102)
    ∷ told.p_abort 1 (AbortCause.cause 2)
    ∷ told.closed 1 1 (pos 1) Closing.ended
    ∷ []))
