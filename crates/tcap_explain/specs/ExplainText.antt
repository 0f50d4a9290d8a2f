-- The text of `explain`: the verdict, and where its fault is.
use Rattle.std.specs.Prelude.{ℕ, ◌-◌, Bool, List, [], ◌++◌, codes, length, take, drop, Option, Some, None, option_map, Result, Ok, Err, nat_lt, ◌&&◌, ◌==◌, if◌then◌else◌}
use Rattle.std.specs.Fmt.{decimal}
use Rattle.hex.specs.Hex.{encode_lower}
use Rattle.ber_core.specs.declared.fault.BerFault.{BerFault}
use Rattle.ber_core.specs.declared.fault.BerFault.TheVariants as ber
use Rattle.ber_core.specs.HeadReading.{head_at}
use Rattle.ber_core.specs.SequenceReading.{is_tag}
use Rattle.tcap_words.specs.Text.{line}
use Rattle.tcap_words.specs.Verdict.{verdict_of, verdict_words}
use Rattle.tcap_explain.specs.declared.line.Rule.{Rule}
use Rattle.tcap_explain.specs.declared.line.Rule.TheVariants as rule
use Rattle.tcap_explain.specs.declared.line.Explained.{Explained}
use Rattle.tcap_explain.specs.Explaining.{explained_at}
use Rattle.tcap_explain.specs.Words.{expected_words}

-- A name and a number (own).
abbrev pub named : List ℕ → ℕ → List ℕ
named name number = name ++ decimal number

-- The place of a fault, and the first octet of its element (own).
abbrev pub position_words : Explained → List ℕ
position_words x = named (codes "place ") x.place ++ named (codes " element ") x.element

-- The octet at a place, in hexadecimal (own).
abbrev pub octet_words : List ℕ → ℕ → List ℕ
octet_words bytes place = codes "0x" ++ encode_lower (take 1 (drop place bytes))

-- The word for so many octets (own).
abbrev pub unit_words : ℕ → List ℕ
unit_words count = if count == 1 then codes " octet" else codes " octets"

-- How many octets there are (own).
abbrev pub count_words : ℕ → List ℕ
count_words count = decimal count ++ unit_words count

-- How many contents octets there are, and the first of them (own).
abbrev pub contents_found : List ℕ → ℕ → ℕ → List ℕ
contents_found bytes place count = if count == 0 then count_words count else count_words count ++ (codes " from " ++ octet_words bytes place)

-- What stands where an encoding has a fault: the octet, or the end where octets are missing (own).
abbrev pub encoding_found : BerFault → List ℕ → ℕ → List ℕ
encoding_found ber.Short bytes place = codes "the end"
encoding_found ber.BadTag bytes place = octet_words bytes place
encoding_found ber.BadLength bytes place = octet_words bytes place
encoding_found ber.IndefinitePrimitive bytes place = octet_words bytes place
encoding_found ber.TooDeep bytes place = octet_words bytes place

-- What stands at the place, by the rule that is not met there (own).
abbrev pub found_words : List ℕ → ℕ → Rule → List ℕ
found_words bytes place rule.MessageLength = count_words (length bytes)
found_words bytes place (rule.Encoding fault) = encoding_found fault bytes place
found_words bytes place (rule.Other l) = octet_words bytes place
found_words bytes place (rule.Missing l) = codes "the end"
found_words bytes place (rule.Octets kind count) = contents_found bytes place count

-- How many octets an element with this head wants beside those that are there; not known in the indefinite form,
-- and where the head itself isn't whole (X.690, Length octets).
abbrev pub wanted_of : Result (List ℕ × Bool × Option ℕ × List ℕ) BerFault → Option ℕ
wanted_of (Ok h) = option_map (λ n. n - length h.3) h.2
wanted_of (Err f) = None

-- How many octets the element wants that is cut off at the place: by its head, of which no octet stands behind the
-- place (own).
unfoldable pub wanted : List ℕ → ℕ → ℕ → Option ℕ
wanted bytes place element = wanted_of (head_at (take (place - element) (drop element bytes)))

-- The word for so many octets more (own).
abbrev pub more_unit_words : ℕ → List ℕ
more_unit_words count = if count == 1 then codes " more octet" else codes " more octets"

-- The words for octets that are wanted (own).
abbrev pub more_words : Option ℕ → List ℕ
more_words None = codes "more octets"
more_words (Some count) = decimal count ++ more_unit_words count

-- Whether the octet before the place is a 00 of the element. Where no tag is at the place, that 00 is the first octet
-- of an end-of-contents: each octet before others of a tag is above 00 (X.690, End-of-contents octets).
abbrev pub is_in_end : List ℕ → ℕ → ℕ → Bool
is_in_end bytes place element = nat_lt element place && is_tag 0 (take 1 (drop (place - 1) bytes))

-- What was expected where no tag is (own).
abbrev pub tag_words : List ℕ → ℕ → ℕ → List ℕ
tag_words bytes place element = if is_in_end bytes place element then codes "the second 0x00 of an end-of-contents" else codes "a tag"

-- What an encoding was expected to have (own).
abbrev pub encoding_expected : List ℕ → Explained → BerFault → List ℕ
encoding_expected bytes x ber.Short = more_words (wanted bytes x.place x.element)
encoding_expected bytes x ber.BadTag = tag_words bytes x.place x.element
encoding_expected bytes x ber.BadLength = expected_words x.rule
encoding_expected bytes x ber.IndefinitePrimitive = expected_words x.rule
encoding_expected bytes x ber.TooDeep = expected_words x.rule

-- What was expected, by the rule that is not met (own).
abbrev pub wanted_words : List ℕ → Explained → Rule → List ℕ
wanted_words bytes x rule.MessageLength = expected_words x.rule
wanted_words bytes x (rule.Encoding fault) = encoding_expected bytes x fault
wanted_words bytes x (rule.Other l) = expected_words x.rule
wanted_words bytes x (rule.Missing l) = expected_words x.rule
wanted_words bytes x (rule.Octets kind count) = expected_words x.rule

-- What was expected (own).
abbrev pub expectation_words : List ℕ → Explained → List ℕ
expectation_words bytes x = codes ": expected " ++ wanted_words bytes x x.rule

-- What was expected, and what was found (own).
abbrev pub rule_words : List ℕ → Explained → List ℕ
rule_words bytes x = expectation_words bytes x ++ (codes ", found " ++ found_words bytes x.place x.rule)

-- The words for a fault (own).
abbrev pub explained_words : List ℕ → Explained → List ℕ
explained_words bytes x = position_words x ++ rule_words bytes x

-- The line for a fault, if there is one (own).
abbrev pub explained_lines : List ℕ → Option Explained → List ℕ
explained_lines bytes None = []
explained_lines bytes (Some x) = line (explained_words bytes x)

-- The text of `explain`: the line of the verdict, and one for the fault where it isn't good (own).
abbrev pub explain_text_of : List ℕ → List ℕ
explain_text_of bytes = line (verdict_words (verdict_of bytes)) ++ explained_lines bytes (explained_at bytes)
