-- Lines and words of a script.
use Rattle.std.specs.Prelude.{ℕ, ◌+◌, ◌==◌, Bool, true, List, [], ◌∷◌, length, Option, Some, None, if◌then◌else◌}
use Rattle.ber_core.specs.Place.{Slice}

-- A list with an octet more at the beginning of its first piece (own).
abbrev pub with_octet : ℕ → List (List ℕ) → List (List ℕ)
with_octet octet [] = (octet ∷ []) ∷ []
with_octet octet (piece ∷ pieces) = (octet ∷ piece) ∷ pieces

-- The pieces between the places of a mark: one more than there are places, empty where two marks stand
-- side by side, before a first mark and behind a last one (own).
unfoldable pub pieces : ℕ → List ℕ → List (List ℕ)
pieces mark [] = [] ∷ []
pieces mark (octet ∷ octets) =
    if octet == mark then [] ∷ pieces mark octets else with_octet octet (pieces mark octets)

-- The lines of a script: each ends with a line feed, which the last may lack (own).
abbrev pub lines_of : List ℕ → List (List ℕ)
lines_of script = pieces 10 script

-- The words of a line, separated by one space (own).
abbrev pub words_of : List ℕ → List (List ℕ)
words_of line = pieces 32 line

-- A line that is skipped: it is empty or begins with `#` (own).
abbrev pub is_skipped : List ℕ → Bool
is_skipped [] = true
is_skipped (first ∷ rest) = first == 35

-- The pieces of what is left, if anything is (own).
abbrev pub pieces_left : ℕ → Option Slice → List (List ℕ)
pieces_left mark None = []
pieces_left mark (Some rest) = pieces mark rest.now

-- How many pieces that is at most (own).
abbrev pub left : Option Slice → ℕ
left None = 0
left (Some rest) = 1 + length rest.now
