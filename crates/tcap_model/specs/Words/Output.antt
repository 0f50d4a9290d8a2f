-- What the engine sends and tells: the indication primitives of TC.
use Rattle.std.specs.Prelude.{ℕ, ℤ, List, Option}
use Rattle.tcap_pdu.specs.DialogueSpelling.{PduValue}
use Rattle.tcap_component.specs.Component.{CodeParts, BodyParts}
use Rattle.tcap_component.specs.Problem.{ProblemParts}
use Rattle.tcap_model.specs.Words.Address.{Address}

-- Why the provider aborted: the cause that the message has, or that of a faulty message; an abnormal
-- dialogue portion; no common dialogue portion; the dialogue was idle too long
-- (Q.771, Provider abort; the last is own).
pub data AbortCause : Type 0 where
  cause : (number : ℕ) → AbortCause
  abnormal : AbortCause
  no_common : AbortCause
  idle : AbortCause

-- Who rejects: the component sublayer here (TC-L-REJECT), that of the peer (TC-R-REJECT), the peer's
-- user (TC-U-REJECT) (Q.771, Component handling).
pub data Rejector : Type 0 where
  local : Rejector
  remote_provider : Rejector
  remote_user : Rejector

-- Why a message is dropped (own).
pub data DropCause : Type 0 where
  too_long : DropCause
  bad_message : DropCause
  no_dialogue : DropCause
  bad_dialogue : DropCause

-- How an invocation is closed: by the last result, by an error, by a Reject, by its timer
-- (TC-L-CANCEL), by the end of its dialogue, or by its user (Q.774, Invocation state machine).
pub data Closing : Type 0 where
  result_last : (body : Option BodyParts) → Closing
  error_back : (code : CodeParts) (parameter : Option (List ℕ)) → Closing
  rejected : (problem : ProblemParts) (by : Rejector) → Closing
  lapsed : Closing
  ended : Closing
  given_up : Closing

-- The indications of component handling. A dialogue is named by its identifier, an invocation by its
-- number and its invoke identifier; in a Unidirectional there is no dialogue
-- (Q.771, Component handling).
pub data ComponentIndication : Type 0 where
  -- TC-INVOKE
  invoked : (dialogue : Option ℕ) (id : ℤ) (linked : Option ℤ) (code : CodeParts) (parameter : Option (List ℕ))
      → ComponentIndication
  -- TC-RESULT-NL
  result_more : (dialogue number : ℕ) (id : ℤ) (body : Option BodyParts) → ComponentIndication
  -- TC-L-REJECT of a component that was received
  local_reject : (dialogue : Option ℕ) (id : Option ℤ) (problem : ProblemParts) → ComponentIndication
  -- TC-U-REJECT or TC-R-REJECT that closes no invocation
  remote_reject : (dialogue : Option ℕ) (id : Option ℤ) (problem : ProblemParts) (by : Rejector) → ComponentIndication
  -- an invocation is closed
  closed : (dialogue number : ℕ) (id : ℤ) (closing : Closing) → ComponentIndication

-- The indications of dialogue handling; a Unidirectional has no dialogue (Q.771, Dialogue handling).
pub data DialogueIndication : Type 0 where
  -- TC-UNI, TC-BEGIN, TC-CONTINUE, TC-END
  uni : (context : Option (List ℕ)) (info : List ℕ) → DialogueIndication
  begin : (dialogue : ℕ) (context : Option (List ℕ)) (info : List ℕ) → DialogueIndication
  go_on : (dialogue : ℕ) (context : Option (List ℕ)) (info : List ℕ) → DialogueIndication
  end : (dialogue : ℕ) (context : Option (List ℕ)) (info : List ℕ) → DialogueIndication
  -- TC-U-ABORT
  u_abort : (dialogue : ℕ) (pdu : Option PduValue) → DialogueIndication
  -- TC-P-ABORT
  p_abort : (dialogue : ℕ) (why : AbortCause) → DialogueIndication

-- What the engine gives: a message to an address, an indication to the user, or that a message was
-- dropped (Q.771, Component handling; Q.771, Dialogue handling; that a drop is told is own).
pub data Output : Type 0 where
  send : (to : Address) (bytes : List ℕ) → Output
  dialogue : (told : DialogueIndication) → Output
  component : (told : ComponentIndication) → Output
  dropped : (why : DropCause) → Output
