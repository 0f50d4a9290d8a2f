-- The canonical form of a message, and the text of `canon`.
use Rattle.std.specs.Prelude.{◌≡◌, ℕ, ◌<◌, Bool, List, [], length, Result, Ok, Err, option_map, nat_lt, if◌then◌else◌}
use Rattle.std.specs.List.{flat_map}
use Rattle.hex.specs.Hex.{encode_lower, decode_of}
use Rattle.tcap_pdu.specs.FrameSpelling.{Message}
use Rattle.tcap_pdu.specs.FrameLength.{dialogue_of}
use Rattle.tcap_pdu.specs.FramePortions.{components_in, with_portions}
use Rattle.tcap_pdu.specs.FrameWritten.{written_frame}
use Rattle.tcap_pdu.specs.DialogueSpelling.{PduValue}
use Rattle.tcap_pdu.specs.DialogueReading.{dialogue_at}
use Rattle.tcap_pdu.specs.DialogueWritten.{written_dialogue}
use Rattle.tcap_pdu.specs.declared.fault.DialogueFault.{DialogueFault}
use Rattle.tcap_component.specs.ComponentFault.{FaultParts}
use Rattle.tcap_component.specs.Component.{ComponentParts}
use Rattle.tcap_component.specs.ComponentReading.{components_of}
use Rattle.tcap_component.specs.Written.{written_component, coded_part, HasCode, HasParameter}
use Rattle.tcap_words.specs.declared.rewrite.CanonFault.{CanonFault}
use Rattle.tcap_words.specs.declared.rewrite.CanonFault.TheVariants as canon
use Rattle.tcap_words.specs.declared.verdict.Verdict.{Verdict}
use Rattle.tcap_words.specs.declared.verdict.Verdict.TheVariants.{TooLong, UnknownType, BadlyFormatted, Incorrect, Dialogue, Component, Good}
use Rattle.tcap_words.specs.Text.{line}
use Rattle.tcap_words.specs.Verdict.{message_limit, message_of, verdict_of, is_good, verdict_words}

-- ---- the canonical form

-- A component in the shortest definite lengths; a fault has no octets, and no message with one has a
-- canonical form (Q.773, Component portion; the canonical form is own).
abbrev pub canonical_item : Result ComponentParts FaultParts → List ℕ
canonical_item (Ok c) = written_component c
canonical_item (Err f) = []

-- The contents of a component portion: its components in the canonical form, one after the other
-- (Q.773, Component portion; the canonical form is own).
abbrev pub canonical_components : List ℕ → List ℕ
canonical_components content = flat_map canonical_item (components_of content)

-- A dialogue PDU in the canonical form; no message with a portion that can't be read has one
-- (Q.773, Dialogue portion; the canonical form is own).
abbrev pub canonical_pdu : Result PduValue DialogueFault → List ℕ
canonical_pdu (Ok pdu) = written_dialogue pdu
canonical_pdu (Err f) = []

-- The contents of a dialogue portion in the canonical form
-- (Q.773, Dialogue portion; the canonical form is own).
abbrev pub canonical_dialogue : List ℕ → List ℕ
canonical_dialogue content = canonical_pdu (dialogue_at content)

-- The message with its portions in the canonical form
-- (Q.773, Structure of TC messages; the canonical form is own).
abbrev pub canonical_message : Message → Message
canonical_message m = with_portions (option_map canonical_dialogue (dialogue_of m)) (canonical_components (components_in m)) m

-- The octets of a message in the canonical form
-- (Q.773, Structure of TC messages; the canonical form is own).
abbrev pub canonical_frame : Message → List ℕ
canonical_frame m = written_frame (canonical_message m)

-- The octets of the message that was read; bytes that are no message have no canonical form (own).
abbrev pub canonical_by : Result Message Verdict → List ℕ
canonical_by (Ok m) = canonical_frame m
canonical_by (Err v) = []

-- The canonical form of the message that bytes spell (own).
unfoldable pub canonical_of : List ℕ → List ℕ
canonical_of bytes = canonical_by (message_of bytes)

-- Why a part is not written: it is above the limit of a message, so that the message is; or memory is
-- refused, at any time (own).
abbrev pub IsCanonFault : List ℕ → CanonFault → Type 0
IsCanonFault form canon.OutOfMemory = Unit {0}
IsCanonFault form canon.TooLong = message_limit < length form

-- The code and the parameter of a component, where they are there, can be written: those of every
-- component that was read can (own).
abbrev pub IsWritableItem : Result ComponentParts FaultParts → Type 0
IsWritableItem (Ok c) = HasCode (coded_part c) × HasParameter (coded_part c)
IsWritableItem (Err f) = Unit {0}

-- ---- the text

-- The verdict of `canon`, by that of `check` and the canonical form: a good message whose canonical
-- form is above the limit is too long (own).
abbrev pub canon_verdict : Verdict → List ℕ → Verdict
canon_verdict TooLong form = TooLong
canon_verdict UnknownType form = UnknownType
canon_verdict BadlyFormatted form = BadlyFormatted
canon_verdict Incorrect form = Incorrect
canon_verdict Dialogue form = Dialogue
canon_verdict (Component number) form = Component number
canon_verdict Good form = if nat_lt message_limit (length form) then TooLong else Good

-- The words of `canon`: the canonical form in lower case hexadecimal where the verdict is good, else
-- the verdict (own).
abbrev pub canon_words : Verdict → List ℕ → List ℕ
canon_words TooLong form = verdict_words TooLong
canon_words UnknownType form = verdict_words UnknownType
canon_words BadlyFormatted form = verdict_words BadlyFormatted
canon_words Incorrect form = verdict_words Incorrect
canon_words Dialogue form = verdict_words Dialogue
canon_words (Component number) form = verdict_words (Component number)
canon_words Good form = encode_lower form

-- The line of `canon`, by the verdict of `check` and the canonical form (own).
abbrev pub canon_line : Verdict → List ℕ → List ℕ
canon_line verdict form = line (canon_words (canon_verdict verdict form) form)

-- The text of `canon` (own).
abbrev pub canon_text_of : List ℕ → List ℕ
canon_text_of bytes = canon_line (verdict_of bytes) (canonical_of bytes)

-- Whether the verdict of `canon` is good (own).
abbrev pub canon_is_good : List ℕ → Bool
canon_is_good bytes = is_good (canon_verdict (verdict_of bytes) (canonical_of bytes))

-- A text is one line of HEX, which spells these bytes (own).
pub record IsHexLine (text bytes : List ℕ) : Type 0 where
  pub hex : List ℕ
  pub is_text : text ≡ line hex
  pub spelled : decode_of hex ≡ Ok bytes
