-- The text of a stream of messages.
use Rattle.std.specs.Prelude.{ℕ, Bool, false, ◌&&◌, List, [], ◌++◌, length, codes, Option, Some, None, ◌==◌, if◌then◌else◌}
use Rattle.std.specs.List.{flat_map, list_all}
use Rattle.ber_core.specs.declared.fault.BerFault.{BerFault}
use Rattle.ber_core.specs.declared.fault.BerFault.TheVariants.{Short, BadTag, BadLength, IndefinitePrimitive, TooDeep}
use Rattle.ber_core.specs.declared.fault.FeedFault.{FeedFault}
use Rattle.ber_core.specs.declared.fault.FeedFault.TheVariants.{OutOfMemory, Ber, TooLong}
use Rattle.ber_core.specs.Stream.{Cut, cut_of}
use Rattle.tcap_words.specs.Show.{check_text_of, show_is_good}
use Rattle.tcap_words.specs.Text.{line, number_line}

-- The number of the reason for which no element is read (own).
abbrev pub ber_number : BerFault → ℕ
ber_number Short = 1
ber_number BadTag = 2
ber_number BadLength = 3
ber_number IndefinitePrimitive = 4
ber_number TooDeep = 5

-- For each message the line of its verdict (own).
abbrev pub verdict_lines : List (List ℕ) → List ℕ
verdict_lines messages = flat_map check_text_of messages

-- The line of the fault that stands; `OutOfMemory` never stands (own).
abbrev pub fault_line : FeedFault → List ℕ
fault_line OutOfMemory = []
fault_line (Ber why) = number_line (codes "fault stream ber") (ber_number why)
fault_line TooLong = line (codes "fault stream too long")

-- The last line of a stream: its fault, or how many octets of an unfinished element are left, if any (own).
abbrev pub last_line_by : Option FeedFault → ℕ → List ℕ
last_line_by (Some fault) left = fault_line fault
last_line_by None left = if left == 0 then [] else number_line (codes "rest") left

-- The last line of a stream that was cut so, if it has one (own).
abbrev pub last_line : Cut → List ℕ
last_line cut = last_line_by cut.fault (length cut.rest)

-- Whether a stream ends with its last message, and without a fault (own).
abbrev pub ends_by : Option FeedFault → ℕ → Bool
ends_by (Some fault) left = false
ends_by None left = left == 0

-- The text of a stream: a line for each message, and the last line (own).
abbrev pub stream_text_of : List ℕ → List ℕ
stream_text_of stream = verdict_lines (cut_of stream).messages ++ last_line (cut_of stream)

-- Whether every message is good (own).
abbrev pub all_good : List (List ℕ) → Bool
all_good messages = list_all show_is_good messages

-- Whether a stream is good: every message is, and it ends with the last of them (own).
abbrev pub stream_is_good : List ℕ → Bool
stream_is_good stream = all_good (cut_of stream).messages && ends_by (cut_of stream).fault (length (cut_of stream).rest)
