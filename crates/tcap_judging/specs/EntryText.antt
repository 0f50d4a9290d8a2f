-- What is printed for an entry, and whether it is good.
use Rattle.std.specs.Prelude.{ℕ, Bool, true, false, List, [], ◌++◌, codes, Option, Some, None}
use Rattle.std.specs.List.{flat_map, list_all}
use Rattle.std.specs.Fmt.{decimal}
use Rattle.tcap_explain.specs.declared.line.Explained.{Explained}
use Rattle.tcap_explain.specs.Explaining.{explained_at}
use Rattle.tcap_explain.specs.ExplainText.{explained_words}
use Rattle.tcap_words.specs.Show.{show_is_good}
use Rattle.tcap_words.specs.Verdict.{verdict_of, verdict_words}
use Rattle.tcap_judging.specs.declared.bad_line.BadLine.{BadLine}
use Rattle.tcap_judging.specs.declared.bad_line.BadLine.TheVariants as bad
use Rattle.tcap_judging.specs.Form.{Form}
use Rattle.tcap_judging.specs.declared.form.Layout.{Layout}
use Rattle.tcap_judging.specs.declared.form.Layout.TheVariants as layout
use Rattle.tcap_judging.specs.BadLine.{bad_words}
use Rattle.tcap_judging.specs.Entry.{Entry, line, message, broken, unread, passed}
use Rattle.tcap_judging.specs.JsonText.{json_bad_text, json_passed_text, json_text, json_unread_text}
use Rattle.tcap_judging.specs.Label.{Label, offset as offset_label, label_of, label_words}
use Rattle.tcap_judging.specs.MarkedText.{marked_text}
use Rattle.tcap_judging.specs.MessageNames.{names_words}
use Rattle.tcap_judging.specs.Names.{NameParts}
use Rattle.tcap_judging.specs.LineParts.{LineParts, blank, hex, bad_line, parts_of, octets_of}

-- The place of a fault and its rule, behind the verdict, if there is one (own).
abbrev pub fault_words : List ℕ → Option Explained → List ℕ
fault_words octets None = []
fault_words octets (Some found) = codes " " ++ explained_words octets found

-- The words for a message: the verdict on it, and where it isn't good the place of its fault and the rule that isn't
-- met there (own).
abbrev pub message_words : List ℕ → List ℕ
message_words octets = verdict_words (verdict_of octets) ++ fault_words octets (explained_at octets)

-- What a message names by a list, if there is one (own).
abbrev pub named_words : Option (List NameParts) → List ℕ → List ℕ
named_words None octets = []
named_words (Some names) octets = names_words names octets

-- The line of a message: what it is called, the words for it, and what it names (own).
abbrev pub plain_text : Option (List NameParts) → Label → List ℕ → List ℕ
plain_text names label octets =
    label_words label ++ (codes " " ++ (message_words octets ++ (named_words names octets ++ codes "\n")))

-- What is printed for a message by how lines look (own).
abbrev pub message_by : Layout → Option (List NameParts) → Label → List ℕ → List ℕ
message_by layout.Plain names label octets = plain_text names label octets
message_by layout.Marked names label octets = plain_text names label octets ++ marked_text octets (explained_at octets)
message_by layout.Json names label octets = json_text names label octets

-- What is printed for a message (own).
abbrev pub message_text : Form → Label → List ℕ → List ℕ
message_text form label octets = message_by form.layout form.names label octets

-- The line of a line of the input that is neither empty nor a message: its number, and what is wrong (own).
abbrev pub plain_bad_text : ℕ → BadLine → List ℕ
plain_bad_text number why = codes "line " ++ (decimal number ++ (codes " bad: " ++ (bad_words why ++ codes "\n")))

-- What is printed for such a line (own).
abbrev pub bad_text : Layout → ℕ → BadLine → List ℕ
bad_text layout.Plain number why = plain_bad_text number why
bad_text layout.Marked number why = plain_bad_text number why
bad_text layout.Json number why = json_bad_text number why

-- The line of octets that are passed over: the offset of the first, and how many they are (own).
abbrev pub plain_passed_text : ℕ → ℕ → List ℕ
plain_passed_text offset count = decimal offset ++ (codes " passed over " ++ (decimal count ++ codes " octets\n"))

-- What is printed for such octets (own).
abbrev pub passed_text : Layout → ℕ → ℕ → List ℕ
passed_text layout.Plain offset count = plain_passed_text offset count
passed_text layout.Marked offset count = plain_passed_text offset count
passed_text layout.Json offset count = json_passed_text offset count

-- The line that nothing is read behind octets at which no message is: the offset of the first of them (own).
abbrev pub plain_unread_text : ℕ → List ℕ
plain_unread_text offset = decimal offset ++ codes " stopped: nothing behind this fault is judged\n"

-- What is printed where nothing is read behind such octets (own).
abbrev pub unread_text : Layout → ℕ → List ℕ
unread_text layout.Plain offset = plain_unread_text offset
unread_text layout.Marked offset = plain_unread_text offset
unread_text layout.Json offset = json_unread_text offset

-- What is printed for hexadecimal, by the octets that it spells (own).
abbrev pub hex_text : Form → ℕ → Label → Option (List ℕ) → List ℕ
hex_text form number label None = bad_text form.layout number bad.OddDigits
hex_text form number label (Some octets) = message_text form label octets

-- What is printed for a line by its parts: nothing where it is blank (own).
abbrev pub parts_text : Form → ℕ → LineParts → List ℕ
parts_text form number blank = []
parts_text form number (hex name digits) = hex_text form number (label_of number name) (octets_of digits)
parts_text form number (bad_line why) = bad_text form.layout number why

-- What is printed for an entry (own).
abbrev pub entry_text : Form → Entry → List ℕ
entry_text form (line naming number octets) = parts_text form number (parts_of naming octets)
entry_text form (message offset octets) = message_text form (offset_label offset) octets
entry_text form (broken offset octets) = message_text form (offset_label offset) octets
entry_text form (unread offset) = unread_text form.layout offset
entry_text form (passed offset count) = passed_text form.layout offset count

-- Whether the octets that hexadecimal spells, if any, are a good message (own).
abbrev pub is_good_hex : Option (List ℕ) → Bool
is_good_hex None = false
is_good_hex (Some octets) = show_is_good octets

-- Whether a line is good, by its parts: one of blanks alone is (own).
abbrev pub are_good_parts : LineParts → Bool
are_good_parts blank = true
are_good_parts (hex name digits) = is_good_hex (octets_of digits)
are_good_parts (bad_line why) = false

-- Whether an entry is good (own).
abbrev pub is_good_entry : Entry → Bool
is_good_entry (line naming number octets) = are_good_parts (parts_of naming octets)
is_good_entry (message offset octets) = show_is_good octets
is_good_entry (broken offset octets) = show_is_good octets
is_good_entry (unread offset) = false
is_good_entry (passed offset count) = false

-- What is printed for some entries, one after the other (own).
abbrev pub entries_text : Form → List Entry → List ℕ
entries_text form entries = flat_map (entry_text form) entries

-- Whether all of them are good (own).
abbrev pub are_good : List Entry → Bool
are_good entries = list_all is_good_entry entries
