-- Parts of a line as a contract sees them, and the line that is under way.
use Rattle.std.specs.Prelude.{◌≡◌, ◌<◌, ◌≤◌, ℕ, Bool, true, false, List, length, option_map}
use Rattle.tcap_judging.specs.declared.label.Label.{Label as LabelEnum}
use Rattle.tcap_judging.specs.declared.label.Label.TheVariants as label
use Rattle.tcap_judging.specs.Label.{Label, name, line, offset}
use Rattle.tcap_judging.specs.declared.line_parts.LineParts.{LineParts as PartsEnum}
use Rattle.tcap_judging.specs.declared.line_parts.LineParts.TheVariants as parts
use Rattle.tcap_judging.specs.LineParts.{LineParts, blank, hex, bad_line, line_limit}
use Rattle.tcap_judging.specs.Lines.{is_one_line}

-- What a message is called (own).
abbrev pub label_view : LabelEnum → Label
label_view (label.Name octets) = name octets.now
label_view (label.Line number) = line number
label_view (label.Offset count) = offset count

-- What stands in a line (own).
abbrev pub parts_view : PartsEnum → LineParts
parts_view parts.Blank = blank
parts_view (parts.Hex first digits) = hex (option_map (λ n. n.now) first) digits.now
parts_view (parts.Bad why) = bad_line why

-- The octets of a line that are kept, and whether it is too long: then none have to be (own).
abbrev pub AreKept : List ℕ → List ℕ → Bool → Type 0
AreKept octets kept false = (kept ≡ octets) × (length octets ≤ line_limit)
AreKept octets kept true = line_limit < length octets

-- What is kept of a line that isn't too long is no more than a line may have (own).
abbrev pub IsWithin : List ℕ → Bool → Type 0
IsWithin kept is_long = is_long ≡ false → length kept ≤ line_limit

-- So much of a line has come: it has no line feed, and its octets are kept (own).
abbrev pub IsUnderWay : List ℕ → List ℕ → Bool → Type 0
IsUnderWay octets kept is_long = AreKept octets kept is_long × (is_one_line octets ≡ true)
