-- What a received Abort tells, and the Aborts that the provider sends.
use Rattle.std.specs.Prelude.{Option, ℕ, Bool, true, false, List, [], ◌∷◌, Some, None, Result, Ok, Err, ◌==◌, if◌then◌else◌}
use Rattle.tcap_pdu.specs.declared.fault.DialogueFault.{DialogueFault}
use Rattle.tcap_pdu.specs.declared.fault.FrameFault.{FrameFault}
use Rattle.tcap_pdu.specs.declared.fault.FrameFault.TheVariants.{Unknown, BadlyFormatted, Incorrect}
use Rattle.tcap_pdu.specs.DialogueSpelling.{PduValue, Source}
use Rattle.tcap_pdu.specs.DialogueSpelling.PduValue.{aarq, audt, aare, abrt, foreign}
use Rattle.tcap_pdu.specs.DialogueReading.{dialogue_at}
use Rattle.tcap_pdu.specs.DialogueWritten.{written_dialogue}
use Rattle.tcap_pdu.specs.FrameSpelling.{Message, Reason}
use Rattle.tcap_pdu.specs.FrameWritten.{written_frame}
use Rattle.tcap_model.specs.Words.Address.{Address}
use Rattle.tcap_model.specs.Words.Output.{Output, AbortCause, DialogueIndication}

-- ---- received

-- The diagnostic "no common dialogue portion" by the provider (Q.773, Dialogue portion).
abbrev pub is_no_common : Source → Bool
is_no_common (Source.user n) = false
is_no_common (Source.provider n) = n == 2

-- What an AARE in an Abort tells: where it isn't accepted, that there is no common dialogue portion or
-- that the peer's user refused; an accepted one is abnormal (Q.774, Abort by the provider).
abbrev pub response_told : ℕ → Bool → List ℕ → Bool → Source → List ℕ → Output
response_told d version1 context true diagnostic info =
    Output.dialogue (DialogueIndication.p_abort d AbortCause.abnormal)
response_told d version1 context false diagnostic info =
    if is_no_common diagnostic then Output.dialogue (DialogueIndication.p_abort d AbortCause.no_common) else
    Output.dialogue (DialogueIndication.u_abort d (Some (aare version1 context false diagnostic info)))

-- What an ABRT tells: the user's abort, or an abnormal one by the provider
-- (Q.774, Abort by the user; Q.774, Abort by the provider).
abbrev pub abort_pdu_told : ℕ → Bool → List ℕ → Output
abort_pdu_told d true info = Output.dialogue (DialogueIndication.p_abort d AbortCause.abnormal)
abort_pdu_told d false info = Output.dialogue (DialogueIndication.u_abort d (Some (abrt false info)))

-- What the dialogue portion of an Abort tells (Q.774, Abort by the user).
abbrev pub portion_told : ℕ → Result PduValue DialogueFault → Output
portion_told d (Ok (abrt by_provider info)) = abort_pdu_told d by_provider info
portion_told d (Ok (foreign external)) = Output.dialogue (DialogueIndication.u_abort d (Some (foreign external)))
portion_told d (Ok (aare version1 context accepted diagnostic info)) =
    response_told d version1 context accepted diagnostic info
portion_told d (Ok (aarq version1 context info)) = Output.dialogue (DialogueIndication.p_abort d AbortCause.abnormal)
portion_told d (Ok (audt version1 context info)) = Output.dialogue (DialogueIndication.p_abort d AbortCause.abnormal)
portion_told d (Err f) = Output.dialogue (DialogueIndication.p_abort d AbortCause.abnormal)

-- What an Abort to a dialogue tells, whatever its state and its application context are: with nothing
-- it is the user's, with a P-Abort cause the provider's, with a dialogue portion by what that says
-- (Q.774, Abort by the user; Q.774, Abort by the provider; that the state isn't looked at is own).
abbrev pub abort_told : ℕ → Reason → Output
abort_told d Reason.nothing = Output.dialogue (DialogueIndication.u_abort d None)
abort_told d (Reason.cause n) = Output.dialogue (DialogueIndication.p_abort d (AbortCause.cause n))
abort_told d (Reason.portion content) = portion_told d (dialogue_at content)

-- ---- sent

-- A message of ours as it is sent to an address (own).
abbrev pub message_sent : Address → Message → Output
message_sent to m = Output.send to (written_frame m)

-- What is sent to an address, if anything is (own).
abbrev pub sent_if_any : Address → Option Message → List Output
sent_if_any to None = []
sent_if_any to (Some m) = message_sent to m ∷ []

-- The Abort with a P-Abort cause to a peer (Q.774, Abort by the provider).
abbrev pub abort_with : ℕ → List ℕ → Message
abort_with number peer = Message.abort peer (Reason.cause number)

-- The Abort to the peer of a message whose dialogue portion is abnormal: an ABRT by the provider
-- (Q.774, Abnormal procedures relating to dialogue control).
abbrev pub abnormal_abort : List ℕ → Message
abnormal_abort peer = Message.abort peer (Reason.portion (written_dialogue (PduValue.abrt true [])))

-- The Abort to the peer of a Begin whose version isn't ours: an AARE with the context of the AARQ, not
-- accepted, diagnostic "no common dialogue portion" by the provider; a context has at most 255 octets,
-- so that it fits into a message (Q.774, Dialogue begin).
abbrev pub version_abort : List ℕ → List ℕ → Message
version_abort context peer =
    Message.abort peer (Reason.portion (written_dialogue (PduValue.aare true context false (Source.provider 2) [])))

-- The P-Abort cause of a faulty message: 0 unrecognized message type, 2 badly formatted transaction
-- portion, 3 incorrect transaction portion (Q.773, P-Abort cause).
abbrev pub fault_cause : FrameFault → ℕ
fault_cause Unknown = 0
fault_cause BadlyFormatted = 2
fault_cause Incorrect = 3

-- The P-Abort cause "unrecognized transaction identifier" (Q.773, P-Abort cause).
abbrev pub unrecognized_id : ℕ
unrecognized_id = 1

-- The P-Abort cause "resource limitation" (Q.773, P-Abort cause).
abbrev pub resource_limitation : ℕ
resource_limitation = 4
