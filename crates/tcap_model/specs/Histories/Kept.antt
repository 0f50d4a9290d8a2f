-- The address to which the messages of a dialogue go.
use Rattle.std.specs.Prelude.{ℕ, Bool, List, [], ◌∷◌, Option, Result, Ok, Err, if◌then◌else◌}
use Rattle.tcap_pdu.specs.declared.fault.FrameFault.{FrameFault}
use Rattle.tcap_pdu.specs.FrameSpelling.{Message}
use Rattle.tcap_pdu.specs.FrameReading.{frame_at}
use Rattle.tcap_model.specs.Words.Address.{Address}
use Rattle.tcap_model.specs.Words.Answer.{is_accepted}
use Rattle.tcap_model.specs.Histories.Birth.{is_birth_of}
use Rattle.tcap_model.specs.Words.Event.{Event}
use Rattle.tcap_model.specs.Histories.Life.{Life, life, is_normal}
use Rattle.tcap_model.specs.Histories.Names.{names}
use Rattle.tcap_model.specs.Histories.Pair.{Pair, Past}
use Rattle.tcap_model.specs.Procedures.PortionRules.{portion_verdict}
use Rattle.tcap_model.specs.Words.Request.{Request, DialogueRequest}
use Rattle.tcap_model.specs.Words.State.{State, is_live, address_by}

-- TC-BEGIN has its destination kept; no other request changes what is kept (own).
abbrev pub kept_by_request : Address → Request → Address
kept_by_request kept (Request.component asked) = kept
kept_by_request kept (Request.dialogue (DialogueRequest.uni to asked info)) = kept
kept_by_request kept (Request.dialogue (DialogueRequest.begin to asked info)) = to
kept_by_request kept (Request.dialogue (DialogueRequest.go_on asked info)) = kept
kept_by_request kept (Request.dialogue (DialogueRequest.finish ending asked info)) = kept
kept_by_request kept (Request.dialogue (DialogueRequest.u_abort why info)) = kept

-- The first Continue whose dialogue portion is as it should be replaces what is kept for good by the
-- address of its sender; no other message does (own).
abbrev pub kept_by_message : Address → Address → State → Option (List ℕ) → Result Message FrameFault → Address
kept_by_message kept from state context (Ok (Message.go_on origin to portion components)) =
    if is_normal (portion_verdict state context portion) then address_by state kept from else kept
kept_by_message kept from state context (Ok (Message.end to portion components)) = kept
kept_by_message kept from state context (Ok (Message.abort to reason)) = kept
kept_by_message kept from state context (Ok (Message.unidirectional portion components)) = kept
kept_by_message kept from state context (Ok (Message.begin origin portion components)) = kept
kept_by_message kept from state context (Err fault) = kept

-- What is kept after an event that names a dialogue that stands, by whether it was accepted (own).
abbrev pub kept_by_event : Address → State → Option (List ℕ) → Event → Bool → Address
kept_by_event kept state context Event.new_dialogue accepted = kept
kept_by_event kept state context (Event.on_dialogue dialogue request) accepted =
    if accepted then kept_by_request kept request else kept
kept_by_event kept state context (Event.received from bytes) accepted =
    if is_live state then kept_by_message kept from state context (frame_at bytes) else kept
kept_by_event kept state context (Event.moment now) accepted = kept

-- A dialogue that a Begin creates keeps the address of the sender; one that was asked for has none
-- to keep yet (own).
abbrev pub kept_at_birth : Event → Address
kept_at_birth Event.new_dialogue = []
kept_at_birth (Event.on_dialogue dialogue request) = []
kept_at_birth (Event.received from bytes) = from
kept_at_birth (Event.moment now) = []

-- What is kept after a pair, by the life before (own).
abbrev pub kept_after : ℕ → Life → Address → Pair → Address
kept_after dialogue Life.unborn kept pair = if is_birth_of dialogue pair then kept_at_birth pair.event else kept
kept_after dialogue (Life.standing state context) kept pair =
    if names pair.event dialogue then kept_by_event kept state context pair.event (is_accepted pair.answer) else kept
kept_after dialogue Life.over kept pair = kept

-- The address that a dialogue keeps, empty before there is one: that to which its user began it, or from
-- which the Begin came that made it; the first Continue to a dialogue that began replaces it by that of
-- its sender, for good (own).
abbrev pub kept_address : ℕ → Past → Address
kept_address dialogue [] = []
kept_address dialogue (pair ∷ past) = kept_after dialogue (life dialogue past) (kept_address dialogue past) pair
