-- What was read, as numbers, and their checksum: what the benchmark's calls answer.
use Rattle.std.specs.Prelude.{ℕ, ℤ, ◌+◌, ◌%◌, ◌^◌, Bool, true, false, List, [], ◌∷◌, ◌++◌, length, map, Option, Some, None, Result, Ok, Err, ◌==◌, if◌then◌else◌}
use Rattle.std.specs.Int.{w8, w32, cast_unsigned, from_be_bytes}
use Rattle.std.specs.List.{flat_map}
use Rattle.ber_core.specs.declared.fault.BerFault.{BerFault}
use Rattle.ber_core.specs.Element.{Parts, depth_limit}
use Rattle.ber_core.specs.ElementReading.{element_at}
use Rattle.ber_core.specs.Stream.{cut_of}
use Rattle.tcap_pdu.specs.declared.fault.DialogueFault.{DialogueFault}
use Rattle.tcap_pdu.specs.declared.fault.FrameFault.{FrameFault}
use Rattle.tcap_pdu.specs.FrameSpelling.{Reason, Message}
use Rattle.tcap_pdu.specs.FrameSpelling.Reason.{nothing, cause, portion}
use Rattle.tcap_pdu.specs.FrameSpelling.Message.{unidirectional, begin, end, go_on, abort}
use Rattle.tcap_pdu.specs.FrameReading.{frame_at}
use Rattle.tcap_pdu.specs.DialogueSpelling.{PduValue, Source}
use Rattle.tcap_pdu.specs.DialogueSpelling.Source.{user, provider}
use Rattle.tcap_pdu.specs.DialogueSpelling.PduValue.{aarq, audt, aare, abrt, foreign}
use Rattle.tcap_pdu.specs.DialogueReading.{dialogue_at}
use Rattle.tcap_component.specs.ComponentFault.{FaultParts}
use Rattle.tcap_component.specs.Component.{CodeParts, BodyParts, ComponentParts}
use Rattle.tcap_component.specs.Component.CodeParts.{local, global}
use Rattle.tcap_component.specs.Component.ComponentParts.{invoke, result_last, error_back, reject_back, result_more}
use Rattle.tcap_component.specs.ComponentReading.{components_of}

-- A number added to a checksum, modulo 2^64 (own).
abbrev pub added : ℕ → ℕ → ℕ
added total number = (total + number) % 2 ^ 64

-- The checksum of numbers, each added to the one of those before it (own).
abbrev pub checksum : ℕ → List ℕ → ℕ
checksum total [] = total
checksum total (number ∷ numbers) = checksum (added total number) numbers

-- ---- an element

-- The lengths of an element's tag, content and whole; of a fault nothing (own).
abbrev pub element_numbers : Result (Parts × List ℕ) BerFault → List ℕ
element_numbers (Ok r) = length r.0.tag ∷ length r.0.content ∷ length r.0.whole ∷ []
element_numbers (Err f) = []

-- The checksum of the first element (own).
abbrev pub element_checksum : List ℕ → ℕ
element_checksum bytes = checksum 0 (element_numbers (element_at depth_limit bytes))

-- ---- a stream

-- The lengths of a stream's messages (own).
abbrev pub stream_numbers : List ℕ → List ℕ
stream_numbers stream = map (λ message. length message) (cut_of stream).messages

-- Their checksum (own).
abbrev pub stream_checksum : List ℕ → ℕ
stream_checksum stream = checksum 0 (stream_numbers stream)

-- ---- a dialogue PDU

-- 1 for yes, 0 for no (own).
abbrev pub flag : Bool → ℕ
flag true = 1
flag false = 0

-- The number of a diagnostic, 128 more where the provider gives it (own).
abbrev pub diagnostic_number : Source → ℕ
diagnostic_number (user n) = n
diagnostic_number (provider n) = 128 + n

-- What a dialogue PDU says: its flags and numbers, and the lengths of its context and its user
-- information (own).
abbrev pub pdu_numbers : PduValue → List ℕ
pdu_numbers (aarq version1 context info) = flag version1 ∷ length context ∷ length info ∷ []
pdu_numbers (audt version1 context info) = flag version1 ∷ length context ∷ length info ∷ []
pdu_numbers (aare version1 context accepted diagnostic info) = flag version1 ∷ length context ∷ flag accepted ∷ diagnostic_number diagnostic ∷ length info ∷ []
pdu_numbers (abrt by_provider info) = flag by_provider ∷ length info ∷ []
pdu_numbers (foreign external) = length external ∷ []

-- The numbers of a dialogue PDU that was read; of a fault none (own).
abbrev pub dialogue_numbers : Result PduValue DialogueFault → List ℕ
dialogue_numbers (Ok pdu) = pdu_numbers pdu
dialogue_numbers (Err f) = []

-- The numbers of the contents of a dialogue portion that may be there (own).
abbrev pub portion_numbers : Option (List ℕ) → List ℕ
portion_numbers None = []
portion_numbers (Some content) = dialogue_numbers (dialogue_at content)

-- ---- a component

-- The number of a local code, the length of a global one (own).
abbrev pub code_number : CodeParts → ℕ
code_number (local number) = cast_unsigned w32 number
code_number (global octets) = length octets

-- An identifier as its octet (own).
abbrev pub id_number : ℤ → ℕ
id_number id = cast_unsigned w8 id

-- An identifier that may be there (own).
abbrev pub id_numbers : Option ℤ → List ℕ
id_numbers None = []
id_numbers (Some id) = id_number id ∷ []

-- The length of a parameter that may be there (own).
abbrev pub parameter_numbers : Option (List ℕ) → List ℕ
parameter_numbers None = []
parameter_numbers (Some octets) = length octets ∷ []

-- What a result holds, where it holds anything (own).
abbrev pub body_numbers : Option BodyParts → List ℕ
body_numbers None = []
body_numbers (Some body) = code_number body.code ∷ parameter_numbers body.parameter

-- What a component says: its identifiers, its code or the code of its problem, and the length of its
-- parameter (own).
abbrev pub component_numbers : ComponentParts → List ℕ
component_numbers (invoke id linked code parameter) = id_number id ∷ id_numbers linked ++ code_number code ∷ parameter_numbers parameter
component_numbers (result_last id body) = id_number id ∷ body_numbers body
component_numbers (error_back id code parameter) = id_number id ∷ code_number code ∷ parameter_numbers parameter
component_numbers (reject_back id problem) = problem.code ∷ id_numbers id
component_numbers (result_more id body) = id_number id ∷ body_numbers body

-- The numbers of a component that was read; of a fault none (own).
abbrev pub item_numbers : Result ComponentParts FaultParts → List ℕ
item_numbers (Ok c) = component_numbers c
item_numbers (Err f) = []

-- The numbers of each component of a component portion (own).
abbrev pub components_numbers : List ℕ → List ℕ
components_numbers content = flat_map item_numbers (components_of content)

-- ---- a message

-- What both portions say (own).
abbrev pub portions_numbers : Option (List ℕ) → List ℕ → List ℕ
portions_numbers dialogue components = portion_numbers dialogue ++ components_numbers components

-- What an Abort has behind its destination (own).
abbrev pub reason_numbers : Reason → List ℕ
reason_numbers nothing = []
reason_numbers (cause n) = n ∷ []
reason_numbers (portion d) = dialogue_numbers (dialogue_at d)

-- The number of a transaction identifier of four octets, the length of another (own).
abbrev pub identifier_number : List ℕ → ℕ
identifier_number octets = if length octets == 4 then from_be_bytes w32 octets else length octets

-- What a message says: its identifiers and its portions (own).
abbrev pub message_numbers : Message → List ℕ
message_numbers (unidirectional d c) = portions_numbers d c
message_numbers (begin o d c) = identifier_number o ∷ portions_numbers d c
message_numbers (end t d c) = identifier_number t ∷ portions_numbers d c
message_numbers (go_on o t d c) = identifier_number o ∷ identifier_number t ∷ portions_numbers d c
message_numbers (abort t r) = identifier_number t ∷ reason_numbers r

-- The numbers of a message that was read; of a fault none (own).
abbrev pub frame_numbers : Result Message FrameFault → List ℕ
frame_numbers (Ok m) = message_numbers m
frame_numbers (Err f) = []

-- The checksum of a message, with its dialogue PDU and each of its components (own).
abbrev pub message_checksum : List ℕ → ℕ
message_checksum bytes = checksum 0 (frame_numbers (frame_at bytes))
