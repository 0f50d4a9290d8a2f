-- The text of `show`, and its verdict.
use Rattle.std.specs.Prelude.{ℕ, Bool, List, [], ◌++◌, codes, length, Option, Some, None, Result, Ok, Err, ◌==◌, if◌then◌else◌}
use Rattle.tcap_pdu.specs.FrameSpelling.{Reason, Message}
use Rattle.tcap_pdu.specs.FrameSpelling.Reason.{nothing, cause, portion}
use Rattle.tcap_pdu.specs.FrameSpelling.Message.{unidirectional, begin, end, go_on, abort}
use Rattle.std.specs.List.{flat_map}
use Rattle.tcap_component.specs.ComponentFault.{FaultParts}
use Rattle.tcap_component.specs.Component.{ComponentParts}
use Rattle.tcap_component.specs.ComponentReading.{components_of}
use Rattle.tcap_words.specs.Text.{line, octets_line, number_line, inner_line}
use Rattle.tcap_words.specs.DialogueText.{portion_words}
use Rattle.tcap_words.specs.ComponentText.{item_words}
use Rattle.tcap_words.specs.declared.verdict.Verdict.{Verdict}
use Rattle.tcap_words.specs.Verdict.{message_of, verdict_of, is_good, verdict_words}

-- The line of an originating transaction identifier (own).
abbrev pub origin_line : List ℕ → List ℕ
origin_line id = octets_line (codes "  otid") id

-- The line of a destination transaction identifier (own).
abbrev pub destination_line : List ℕ → List ℕ
destination_line id = octets_line (codes "  dtid") id

-- The lines of a dialogue portion, where there is one: the number of its content bytes, and its PDU
-- (own).
abbrev pub dialogue_lines : Option (List ℕ) → List ℕ
dialogue_lines None = []
dialogue_lines (Some d) = number_line (codes "  dialogue") (length d) ++ inner_line (portion_words d)

-- A line for each component up to the first fault, and one for that fault (own).
abbrev pub item_lines : List (Result ComponentParts FaultParts) → List ℕ
item_lines items = flat_map (λ i. inner_line (item_words i)) items

-- The lines of a component portion, where it has contents: the number of their bytes, and the
-- components (own).
abbrev pub component_lines : List ℕ → List ℕ
component_lines c = if length c == 0 then [] else number_line (codes "  components") (length c) ++ item_lines (components_of c)

-- The lines of both portions (own).
abbrev pub portion_lines : Option (List ℕ) → List ℕ → List ℕ
portion_lines d c = dialogue_lines d ++ component_lines c

-- The lines of an Abort's reason (own).
abbrev pub reason_lines : Reason → List ℕ
reason_lines nothing = []
reason_lines (cause n) = number_line (codes "  cause") n
reason_lines (portion d) = dialogue_lines (Some d)

-- The lines of a message: its name, its identifiers, and its portions or its reason (own).
abbrev pub message_lines : Message → List ℕ
message_lines (unidirectional d c) = line (codes "unidirectional") ++ portion_lines d c
message_lines (begin o d c) = line (codes "begin") ++ (origin_line o ++ portion_lines d c)
message_lines (go_on o t d c) = line (codes "continue") ++ (origin_line o ++ (destination_line t ++ portion_lines d c))
message_lines (end t d c) = line (codes "end") ++ (destination_line t ++ portion_lines d c)
message_lines (abort t r) = line (codes "abort") ++ (destination_line t ++ reason_lines r)

-- The lines of what is shown: the message's, or the verdict alone (own).
abbrev pub shown_lines : Result Message Verdict → List ℕ
shown_lines (Ok m) = message_lines m
shown_lines (Err v) = line (verdict_words v)

-- The text of `show` (own).
abbrev pub show_text_of : List ℕ → List ℕ
show_text_of bytes = shown_lines (message_of bytes)

-- Whether the verdict of `show` is good (own).
abbrev pub show_is_good : List ℕ → Bool
show_is_good bytes = is_good (verdict_of bytes)

-- The text of `check` (own).
abbrev pub check_text_of : List ℕ → List ℕ
check_text_of bytes = line (verdict_words (verdict_of bytes))
