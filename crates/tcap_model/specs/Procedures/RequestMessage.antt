-- What the dialogue requests write.
use Rattle.std.specs.Prelude.{ℕ, true, false, List, Option, Some, None, unwrap_or}
use Rattle.tcap_pdu.specs.DialogueSpelling.{PduValue, Source}
use Rattle.tcap_pdu.specs.DialogueWritten.{written_dialogue}
use Rattle.tcap_pdu.specs.FrameSpelling.{Message, Reason}
use Rattle.tcap_model.specs.Words.Address.{Address}
use Rattle.tcap_model.specs.Words.State.{State}
use Rattle.tcap_model.specs.Words.LocalId.{local_id}
use Rattle.tcap_model.specs.Procedures.QueueRules.{joined}
use Rattle.tcap_model.specs.Procedures.Standing.{Standing}
use Rattle.tcap_model.specs.Words.Request.{Request, Ending, AbortReason, DialogueRequest}

-- ---- the dialogue portion

-- The dialogue portion of a Begin: an AARQ where there is an application context
-- (Q.774, Dialogue begin).
abbrev pub begin_portion : Option (List ℕ) → List ℕ → Option (List ℕ)
begin_portion None info = None
begin_portion (Some context) info = Some (written_dialogue (PduValue.aarq true context info))

-- The dialogue portion of a Unidirectional: an AUDT where there is an application context
-- (Q.774, Unstructured dialogue).
abbrev pub uni_portion : Option (List ℕ) → List ℕ → Option (List ℕ)
uni_portion None info = None
uni_portion (Some context) info = Some (written_dialogue (PduValue.audt true context info))

-- The first answer to an AARQ: an accepted AARE with the application context given or else that of
-- the AARQ, diagnostic "null" by the user (Q.774, Dialogue continuation).
abbrev pub accepting_portion : Option (List ℕ) → Option (List ℕ) → List ℕ → Option (List ℕ)
accepting_portion None given info = None
accepting_portion (Some asked) given info =
    Some (written_dialogue (PduValue.aare true (unwrap_or given asked) true (Source.user 0) info))

-- The dialogue portion of a Continue or an End: the answer to an AARQ that isn't answered yet, and
-- else none (Q.774, Dialogue continuation).
abbrev pub answer_portion : State → Option (List ℕ) → Option (List ℕ) → List ℕ → Option (List ℕ)
answer_portion State.fresh context given info = None
answer_portion State.sent context given info = None
answer_portion (State.received peer) context given info = accepting_portion context given info
answer_portion (State.active peer) context given info = None

-- What the user's Abort carries: an ABRT by the user where the dialogue has an application context,
-- and else nothing (Q.774, Abort by the user).
abbrev pub user_abort : Option (List ℕ) → List ℕ → Reason
user_abort None info = Reason.nothing
user_abort (Some context) info = Reason.portion (written_dialogue (PduValue.abrt false info))

-- What the Abort carries that refuses an application context: an AARE with the context of the AARQ,
-- not accepted, diagnostic "application context name not supported" by the user
-- (Q.774, Abort by the user).
abbrev pub refusing_abort : List ℕ → List ℕ → Reason
refusing_abort context info = Reason.portion (written_dialogue (PduValue.aare true context false (Source.user 2) info))

-- ---- the messages

-- A Continue of a dialogue to its peer, once the peer is known (Q.774, Dialogue continuation).
abbrev pub continue_message : Standing → State → Option (List ℕ) → Option Message
continue_message d State.fresh portion = None
continue_message d State.sent portion = None
continue_message d (State.received peer) portion =
    Some (Message.go_on (local_id d.identifier) peer portion (joined d.queue))
continue_message d (State.active peer) portion =
    Some (Message.go_on (local_id d.identifier) peer portion (joined d.queue))

-- An End of a dialogue to its peer, once the peer is known (Q.774, Dialogue end).
abbrev pub end_message : Standing → State → Option (List ℕ) → Option Message
end_message d State.fresh portion = None
end_message d State.sent portion = None
end_message d (State.received peer) portion = Some (Message.end peer portion (joined d.queue))
end_message d (State.active peer) portion = Some (Message.end peer portion (joined d.queue))

-- The user's Abort to the peer; before the peer is known no message goes out
-- (Q.774, Abort by the user).
abbrev pub abort_message : State → Reason → Option Message
abort_message State.fresh reason = None
abort_message State.sent reason = None
abort_message (State.received peer) reason = Some (Message.abort peer reason)
abort_message (State.active peer) reason = Some (Message.abort peer reason)

-- The Abort that refuses the application context of an AARQ (Q.774, Abort by the user).
abbrev pub refusing_message : State → Option (List ℕ) → List ℕ → Option Message
refusing_message state None info = None
refusing_message state (Some context) info = abort_message state (refusing_abort context info)

-- The message that a dialogue request sends; a prearranged end sends none
-- (Q.774, Dialogue control).
abbrev pub message_of : Standing → Request → Option Message
message_of d (Request.component asked) = None
message_of d (Request.dialogue (DialogueRequest.uni to context info)) =
    Some (Message.unidirectional (uni_portion context info) (joined d.queue))
message_of d (Request.dialogue (DialogueRequest.begin to context info)) =
    Some (Message.begin (local_id d.identifier) (begin_portion context info) (joined d.queue))
message_of d (Request.dialogue (DialogueRequest.go_on context info)) =
    continue_message d d.state (answer_portion d.state d.context context info)
message_of d (Request.dialogue (DialogueRequest.finish Ending.basic context info)) =
    end_message d d.state (answer_portion d.state d.context context info)
message_of d (Request.dialogue (DialogueRequest.finish Ending.prearranged context info)) = None
message_of d (Request.dialogue (DialogueRequest.u_abort AbortReason.by_user info)) =
    abort_message d.state (user_abort d.context info)
message_of d (Request.dialogue (DialogueRequest.u_abort AbortReason.not_supported info)) =
    refusing_message d.state d.context info

-- Where the message of a request goes: a Unidirectional and a Begin to the destination that their user
-- names, any other to the address that the dialogue keeps (own).
abbrev pub request_address : Address → Request → Address
request_address kept (Request.component asked) = kept
request_address kept (Request.dialogue (DialogueRequest.uni to context info)) = to
request_address kept (Request.dialogue (DialogueRequest.begin to context info)) = to
request_address kept (Request.dialogue (DialogueRequest.go_on context info)) = kept
request_address kept (Request.dialogue (DialogueRequest.finish ending context info)) = kept
request_address kept (Request.dialogue (DialogueRequest.u_abort why info)) = kept
