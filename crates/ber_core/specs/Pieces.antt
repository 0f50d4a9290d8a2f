-- What a feed finds in one piece: the messages that it completes, and how it ends.
use Rattle.std.specs.Prelude.{◌≡◌, ℕ, ◌<◌, ◌≤◌, List, [], ◌∷◌, ◌++◌, length, Some, None, Result, Ok, Err}
use Rattle.ber_core.specs.declared.fault.FeedFault.{FeedFault}
use Rattle.ber_core.specs.declared.scanner.Scanner.{Scanner}
use Rattle.ber_core.specs.declared.feed.pieces.Split.{Split}
use Rattle.ber_core.specs.declared.feed.pieces.Split.TheVariants as split
use Rattle.ber_core.specs.declared.feed.pieces.End.{End}
use Rattle.ber_core.specs.declared.feed.pieces.End.TheVariants as end
use Rattle.ber_core.specs.Element.{depth_limit}
use Rattle.ber_core.specs.ElementReading.{after_at}
use Rattle.ber_core.specs.Length.{length_limit}
use Rattle.ber_core.specs.Scanning.{goes_on}
use Rattle.ber_core.specs.Stream.{cut_into, with_message, cut_of}

-- The scanner has taken these octets from the first of an element on (own).
abbrev pub IsBehind : Scanner → List ℕ → Type 0
IsBehind s octets = (more : List ℕ) → goes_on s more ≡ after_at depth_limit (octets ++ more)

-- The scanner has taken these octets from the first of an element on, and they are no more than a message may
-- have (own).
abbrev pub IsUnderWay : Scanner → List ℕ → Type 0
IsUnderWay s octets = IsBehind s octets × (length octets ≤ length_limit)

-- The piece, behind these octets of an element, begins with the end of a message, or is all of one
-- that isn't whole, or brings a fault (own).
abbrev pub SplitsInto : List ℕ → List ℕ → Result Split FeedFault → Type 0
SplitsInto begun piece (Ok (split.Whole last after)) =
    (cut_of (begun ++ piece) ≡ with_message (begun ++ last.now) (cut_of after.now)) × (length after.now < length piece)
SplitsInto begun piece (Ok (split.Open s)) = IsUnderWay s (begun ++ piece)
SplitsInto begun piece (Err fault) = cut_of (begun ++ piece) ≡ cut_into [] (begun ++ piece) (Some fault)

-- The octets under way that earlier pieces brought, once these messages are complete (own).
abbrev pub still_begun : List (List ℕ) → List ℕ → List ℕ
still_begun [] begun = begun
still_begun (message ∷ messages) begun = []

-- The piece, behind these octets of an element, completes these messages and ends so (own).
abbrev pub EndsSo : List ℕ → List ℕ → List (List ℕ) → End → Type 0
EndsSo begun piece messages (end.Open s octets) =
    (cut_of (begun ++ piece) ≡ cut_into messages (still_begun messages begun ++ octets.now) None)
    × IsUnderWay s (still_begun messages begun ++ octets.now)
EndsSo begun piece messages (end.Fault fault) = (rest : List ℕ) × (cut_of (begun ++ piece) ≡ cut_into messages rest (Some fault))
