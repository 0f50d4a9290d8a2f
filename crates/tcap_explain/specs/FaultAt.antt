-- Where the fault of a message is: the relation, by the verdict on the message.
use Rattle.std.specs.Prelude.{◌≡◌, ℕ, ◌+◌, ◌⊎◌, List, length, Some, Ok}
use Rattle.tcap_pdu.specs.FrameSpelling.{Message}
use Rattle.tcap_pdu.specs.FrameLength.{dialogue_of}
use Rattle.tcap_pdu.specs.FramePortions.{components_in}
use Rattle.tcap_component.specs.Component.{ComponentParts}
use Rattle.tcap_component.specs.ComponentFault.{FaultParts}
use Rattle.tcap_component.specs.ComponentList.{FirstFault}
use Rattle.tcap_words.specs.declared.verdict.Verdict.{Verdict}
use Rattle.tcap_words.specs.declared.verdict.Verdict.TheVariants as verdict
use Rattle.tcap_words.specs.Verdict.{message_limit, message_of, verdict_of}
use Rattle.tcap_explain.specs.declared.line.Line.TheVariants as line
use Rattle.tcap_explain.specs.declared.line.ListLine.TheVariants as list
use Rattle.tcap_explain.specs.declared.line.MessageLine.TheVariants as message
use Rattle.tcap_explain.specs.declared.line.ComponentLine.TheVariants as component
use Rattle.tcap_explain.specs.declared.line.Rule.TheVariants as rule
use Rattle.tcap_explain.specs.declared.line.Explained.{Explained}
use Rattle.tcap_explain.specs.Explaining.{external_line, portion_place}
use Rattle.tcap_explain.specs.Unmet.{Stands, Unmet}
use Rattle.tcap_explain.specs.Walk.{unmet, further}

-- Something is not met in the dialogue portion of the message; its place is counted from the front of the message
-- (Q.773, Dialogue portion).
pub record InDialogue (bytes : List ℕ) (x : Explained) : Type 0 where
  pub message : Message
  pub content : List ℕ
  pub inner : Explained
  pub is_message : message_of bytes ≡ Ok message
  pub is_portion : dialogue_of message ≡ Some content
  pub not_met : Unmet (external_line message) content inner
  pub is_place : x ≡ further (portion_place 0x6b message bytes) inner

-- Something is not met in the first faulty component, which has this number: it begins behind the components that
-- stand before it (Q.773, Component portion).
pub record InComponent (number : ℕ) (bytes : List ℕ) (x : Explained) : Type 0 where
  pub message : Message
  pub before : List ComponentParts
  pub fault : FaultParts
  pub inner : Explained
  pub is_message : message_of bytes ≡ Ok message
  pub is_first : FirstFault before (Some fault) (components_in message)
  pub is_number : number ≡ length before + 1
  pub not_met : Unmet (line.Component component.ComponentType) is_first.rest inner
  pub is_place : x ≡ further (portion_place 0x6c message bytes) (further (length is_first.front) inner)

-- The bytes are not one element with nothing after it; or they are, and it does not hold a list of elements
-- (X.690, Structure of an encoding).
abbrev pub InFormat : List ℕ → Explained → Type 0
InFormat bytes x = Unmet (line.List list.OneElement) bytes x ⊎ (Stands (line.List list.OneElement) bytes × Unmet (line.List list.OneConstructed) bytes x)

-- Where the fault is, by the verdict. Too long: the octet behind the limit. Unknown type and incorrect: what the
-- tables of messages do not have. Badly formatted, dialogue, component: as above. A good message has none (own).
abbrev pub FaultBy : Verdict → List ℕ → Explained → Type 0
FaultBy verdict.TooLong bytes x = x ≡ unmet message_limit 0 rule.MessageLength
FaultBy verdict.UnknownType bytes x = Unmet (line.Message message.MessageType) bytes x
FaultBy verdict.BadlyFormatted bytes x = InFormat bytes x
FaultBy verdict.Incorrect bytes x = Unmet (line.Message message.MessageType) bytes x
FaultBy verdict.Dialogue bytes x = InDialogue bytes x
FaultBy (verdict.Component number) bytes x = InComponent number bytes x
FaultBy verdict.Good bytes x = ⊥

-- The fault of the bytes is there (own).
abbrev pub FaultAt : List ℕ → Explained → Type 0
FaultAt bytes x = FaultBy (verdict_of bytes) bytes x
