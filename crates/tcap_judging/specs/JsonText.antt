-- What is printed in JSON: an object in each line. No name, no word for a verdict, a rule or a bad line has a quotation
-- mark or a backslash.
use Rattle.std.specs.Prelude.{ℕ, List, [], ◌++◌, codes, Option, Some, None}
use Rattle.std.specs.Fmt.{decimal}
use Rattle.tcap_explain.specs.declared.line.Explained.{Explained}
use Rattle.tcap_explain.specs.Explaining.{explained_at}
use Rattle.tcap_explain.specs.ExplainText.{found_words, wanted_words}
use Rattle.tcap_words.specs.Verdict.{verdict_of, verdict_words}
use Rattle.tcap_judging.specs.declared.bad_line.BadLine.{BadLine}
use Rattle.tcap_judging.specs.BadLine.{bad_words}
use Rattle.tcap_judging.specs.JsonNames.{json_names}
use Rattle.tcap_judging.specs.Label.{Label, line, name, offset}
use Rattle.tcap_judging.specs.Names.{NameParts}

-- What a message is called: the first member (own).
abbrev pub json_label : Label → List ℕ
json_label (name octets) = codes "{\"name\":\"" ++ (octets ++ codes "\"")
json_label (line number) = codes "{\"line\":" ++ decimal number
json_label (offset count) = codes "{\"offset\":" ++ decimal count

-- The verdict (own).
abbrev pub json_verdict : List ℕ → List ℕ
json_verdict words = codes ",\"verdict\":\"" ++ (words ++ codes "\"")

-- The place of a fault, and the first octet of its element (own).
abbrev pub json_place : Explained → List ℕ
json_place found = codes ",\"good\":false,\"place\":" ++
    (decimal found.place ++ (codes ",\"element\":" ++ decimal found.element))

-- What was expected there, and what was found (own).
abbrev pub json_rule : List ℕ → Explained → List ℕ
json_rule octets found = codes ",\"expected\":\"" ++ (wanted_words octets found found.rule
    ++ (codes "\",\"found\":\"" ++ (found_words octets found.place found.rule ++ codes "\"")))

-- Whether a message is good, and where it isn't the place of its fault, the first octet of its element, what was
-- expected and what was found (own).
abbrev pub json_fault : List ℕ → Option Explained → List ℕ
json_fault octets None = codes ",\"good\":true"
json_fault octets (Some found) = json_place found ++ json_rule octets found

-- What a message names by a list, if there is one: the last members (own).
abbrev pub json_named : Option (List NameParts) → List ℕ → List ℕ
json_named None octets = []
json_named (Some names) octets = json_names names octets

-- The object of a message (own).
abbrev pub json_text : Option (List NameParts) → Label → List ℕ → List ℕ
json_text names label octets = json_label label ++ (json_verdict (verdict_words (verdict_of octets))
    ++ (json_fault octets (explained_at octets) ++ (json_named names octets ++ codes "}\n")))

-- The object of a line that is neither blank nor a message (own).
abbrev pub json_bad_text : ℕ → BadLine → List ℕ
json_bad_text number why = codes "{\"line\":" ++ (decimal number
    ++ (codes ",\"bad\":\"" ++ (bad_words why ++ codes "\"}\n")))

-- The object of octets of a stream that are passed over (own).
abbrev pub json_passed_text : ℕ → ℕ → List ℕ
json_passed_text first count = codes "{\"offset\":" ++ (decimal first
    ++ (codes ",\"passed\":" ++ (decimal count ++ codes "}\n")))

-- The object that nothing is read behind octets of a stream at which no message is (own).
abbrev pub json_unread_text : ℕ → List ℕ
json_unread_text first = codes "{\"offset\":" ++ (decimal first ++ codes ",\"stopped\":true}\n")
