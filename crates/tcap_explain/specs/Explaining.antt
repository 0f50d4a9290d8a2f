-- Where the fault of a message is, by the verdict on it.
use Rattle.std.specs.Prelude.{ℕ, zero, suc, ◌-◌, List, [], ◌∷◌, length, Option, Some, None, option_map, Result, Ok, Err}
use Rattle.ber_core.specs.Way.{way_to}
use Rattle.tcap_pdu.specs.FrameSpelling.{Message, message_tag}
use Rattle.tcap_pdu.specs.FrameSpelling.Message.{unidirectional, begin, end, go_on, abort}
use Rattle.tcap_pdu.specs.FrameLength.{dialogue_of}
use Rattle.tcap_pdu.specs.FramePortions.{components_in}
use Rattle.tcap_component.specs.Component.{ComponentParts}
use Rattle.tcap_component.specs.ComponentFault.{FaultParts}
use Rattle.tcap_component.specs.ComponentReading.{component_at}
use Rattle.tcap_words.specs.declared.verdict.Verdict.{Verdict}
use Rattle.tcap_words.specs.declared.verdict.Verdict.TheVariants as verdict
use Rattle.tcap_words.specs.Verdict.{message_limit, message_of, verdict_of}
use Rattle.tcap_explain.specs.declared.line.Line.{Line}
use Rattle.tcap_explain.specs.declared.line.Line.TheVariants as line
use Rattle.tcap_explain.specs.declared.line.ListLine.TheVariants as list
use Rattle.tcap_explain.specs.declared.line.MessageLine.TheVariants as message
use Rattle.tcap_explain.specs.declared.line.PortionLine.TheVariants as portion
use Rattle.tcap_explain.specs.declared.line.ComponentLine.TheVariants as component
use Rattle.tcap_explain.specs.declared.line.Rule.TheVariants as rule
use Rattle.tcap_explain.specs.declared.line.Explained.{Explained}
use Rattle.tcap_explain.specs.Walk.{unmet, further, first_of, walk}

-- The line at which the dialogue portion of a message begins: an Abort alone may have a foreign one
-- (Q.773, Dialogue portion).
abbrev pub external_line : Message → Line
external_line (unidirectional d c) = line.Portion portion.External
external_line (begin o d c) = line.Portion portion.External
external_line (end t d c) = line.Portion portion.External
external_line (go_on o t d c) = line.Portion portion.External
external_line (abort t r) = line.Portion portion.AbortExternal

-- How many octets stand before the contents of the portion with this tag (own).
abbrev pub portion_place : ℕ → Message → List ℕ → ℕ
portion_place tag m bytes = way_to (message_tag m ∷ tag ∷ []) bytes

-- What is not met in these contents of a dialogue portion, if there is one (Q.773, Dialogue portion).
abbrev pub dialogue_fault : List ℕ → Message → Option (List ℕ) → Option Explained
dialogue_fault bytes m None = None
dialogue_fault bytes m (Some d) = option_map (further (portion_place 0x6b m bytes)) (walk (external_line m) d)

-- What is left behind the component that was read, or all where none was (own).
abbrev pub left_from : (List ℕ → List ℕ) → List ℕ → Result (ComponentParts × List ℕ) FaultParts → List ℕ
left_from others bytes (Ok r) = others r.1
left_from others bytes (Err f) = bytes

-- What is left behind the components that can be read, at most n of them (own).
unfoldable pub left_by : ℕ → List ℕ → List ℕ
left_by n [] = []
left_by zero (b ∷ bytes) = b ∷ bytes
left_by (suc n) (b ∷ bytes) = left_from (left_by n) (b ∷ bytes) (component_at (b ∷ bytes))

-- What is left behind the components that can be read (Q.773, Component portion).
unfoldable pub left_of : List ℕ → List ℕ
left_of content = left_by (length content) content

-- What is not met in the first faulty component of these contents (Q.773, Component portion).
abbrev pub faulty_component : List ℕ → Option Explained
faulty_component content = option_map (further (length content - length (left_of content))) (walk (line.Component component.ComponentType) (left_of content))

-- What is not met in the first faulty component of the message (Q.773, Component portion).
abbrev pub component_fault : List ℕ → Message → Option Explained
component_fault bytes m = option_map (further (portion_place 0x6c m bytes)) (faulty_component (components_in m))

-- What is not met in a portion of the message that was read (own).
abbrev pub in_message : (Message → Option Explained) → Result Message Verdict → Option Explained
in_message fault (Ok m) = fault m
in_message fault (Err v) = None

-- What is not met, by the verdict on the bytes. Too long: the octet behind the limit. Badly formatted: one
-- element and nothing after it, then a list of elements in it. Unknown type and incorrect: the tables of
-- messages. Dialogue: the dialogue portion. Component: the first that is faulty (own).
abbrev pub explained_by : Verdict → List ℕ → Option Explained
explained_by verdict.TooLong bytes = Some (unmet message_limit 0 rule.MessageLength)
explained_by verdict.UnknownType bytes = walk (line.Message message.MessageType) bytes
explained_by verdict.BadlyFormatted bytes = first_of (walk (line.List list.OneElement) bytes) (walk (line.List list.OneConstructed) bytes)
explained_by verdict.Incorrect bytes = walk (line.Message message.MessageType) bytes
explained_by verdict.Dialogue bytes = in_message (λ m. dialogue_fault bytes m (dialogue_of m)) (message_of bytes)
explained_by (verdict.Component number) bytes = in_message (component_fault bytes) (message_of bytes)
explained_by verdict.Good bytes = None

-- Where the fault of the bytes is and what is not met there; none where the verdict is good (own).
unfoldable pub explained_at : List ℕ → Option Explained
explained_at bytes = explained_by (verdict_of bytes) bytes
