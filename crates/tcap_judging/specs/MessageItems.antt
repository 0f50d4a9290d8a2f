-- What a message names: its application context, and its components, each with the code of its operation or its error.
use Rattle.std.specs.Prelude.{ℕ, ℤ, Bool, true, false, List, [], ◌∷◌, Option, Some, None, Result, Ok, Err}
use Rattle.std.specs.List.{flat_map}
use Rattle.tcap_component.specs.Component.{BodyParts, CodeParts, ComponentParts}
use Rattle.tcap_component.specs.Component.ComponentParts.{invoke, result_last, error_back, reject_back, result_more}
use Rattle.tcap_component.specs.ComponentFault.{FaultParts}
use Rattle.tcap_component.specs.ComponentReading.{components_of}
use Rattle.tcap_pdu.specs.DialogueReading.{dialogue_at}
use Rattle.tcap_pdu.specs.DialogueSpelling.{PduValue}
use Rattle.tcap_pdu.specs.DialogueSpelling.PduValue.{aarq, audt, aare, abrt, foreign}
use Rattle.tcap_pdu.specs.FrameLength.{dialogue_of}
use Rattle.tcap_pdu.specs.FramePortions.{components_in}
use Rattle.tcap_pdu.specs.FrameSpelling.{Message}
use Rattle.tcap_pdu.specs.declared.fault.DialogueFault.{DialogueFault}
use Rattle.tcap_words.specs.Verdict.{message_of}
use Rattle.tcap_words.specs.declared.verdict.Verdict.{Verdict}
use Rattle.tcap_words.specs.declared.verdict.Verdict.TheVariants.{TooLong, UnknownType, BadlyFormatted, Incorrect, Dialogue, Component, Good}
use Rattle.tcap_judging.specs.declared.message_items.ItemKind.{ItemKind}
use Rattle.tcap_judging.specs.declared.message_items.ItemKind.TheVariants as kinds

-- The application context that a dialogue PDU names; an ABRT and one of another abstract syntax name none (Q.773,
-- Dialogue portion).
abbrev pub context_by : Result PduValue DialogueFault → Option (List ℕ)
context_by (Ok (aarq version1 context info)) = Some context
context_by (Ok (audt version1 context info)) = Some context
context_by (Ok (aare version1 context accepted diagnostic info)) = Some context
context_by (Ok (abrt by_provider info)) = None
context_by (Ok (foreign external)) = None
context_by (Err f) = None

-- The application context that a dialogue portion names, if there is one that can be read (own).
abbrev pub context_in : Option (List ℕ) → Option (List ℕ)
context_in None = None
context_in (Some content) = context_by (dialogue_at content)

-- A component: its kind, its invoke identifier, and the code of its operation or its error, if it has these (own).
pub record Item : Type 0 where
  pub kind : ItemKind
  pub id : Option ℤ
  pub code : Option CodeParts

-- A component of these parts (own).
abbrev pub item_by : ItemKind → Option ℤ → Option CodeParts → Item
item_by kind id code = record { kind = kind; id = id; code = code }

-- The code of the operation in the body of a result (own).
abbrev pub body_code : Option BodyParts → Option CodeParts
body_code None = None
body_code (Some body) = Some body.code

-- A component that can be read (own).
abbrev pub item_of : ComponentParts → Item
item_of (invoke id linked code parameter) = item_by kinds.Invoke (Some id) (Some code)
item_of (result_last id body) = item_by kinds.Result (Some id) (body_code body)
item_of (result_more id body) = item_by kinds.ResultMore (Some id) (body_code body)
item_of (error_back id code parameter) = item_by kinds.Error (Some id) (Some code)
item_of (reject_back id problem) = item_by kinds.Reject id None

-- The same, and none of a faulty one, of which the verdict tells (own).
abbrev pub items_at : Result ComponentParts FaultParts → List Item
items_at (Ok component) = item_of component ∷ []
items_at (Err fault) = []

-- The components of a component portion, in their order, up to the first faulty one (own).
abbrev pub items_in : List ℕ → List Item
items_in content = flat_map items_at (components_of content)

-- What a message names (own).
pub record Items : Type 0 where
  pub context : Option (List ℕ)
  pub components : List Item

-- What these portions name (own).
abbrev pub items_by : Option (List ℕ) → List ℕ → Items
items_by dialogue content = record { context = context_in dialogue; components = items_in content }

-- What a message names, and nothing of octets that are none (own).
abbrev pub items_of : Result Message Verdict → Items
items_of (Ok m) = items_by (dialogue_of m) (components_in m)
items_of (Err verdict) = record { context = None; components = [] }

-- Whether octets on which this is the verdict are a message: others name nothing (own).
abbrev pub is_message : Verdict → Bool
is_message TooLong = false
is_message UnknownType = false
is_message BadlyFormatted = false
is_message Incorrect = false
is_message Dialogue = true
is_message (Component number) = true
is_message Good = true

-- What the message that octets spell names, as far as it can be read (own).
abbrev pub message_items : List ℕ → Items
message_items octets = items_of (message_of octets)
