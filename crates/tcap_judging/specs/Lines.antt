-- The lines of an input.
use Rattle.std.specs.Prelude.{◌≡◌, ◌==◌, ℕ, Bool, true, List, [], ◌∷◌, ◌++◌, not}
use Rattle.std.specs.List.{flat_map, list_all, AllByRecursion}

-- A line feed (own).
abbrev pub line_feed : ℕ
line_feed = 10

-- The octets have no line feed (own).
abbrev pub is_one_line : List ℕ → Bool
is_one_line octets = list_all (λ octet. not (octet == line_feed)) octets

-- The lines one after the other, each with its line feed (own).
abbrev pub ended : List (List ℕ) → List ℕ
ended lines = flat_map (λ line. line ++ (line_feed ∷ [])) lines

-- The input is these lines, each with its line feed, and then these octets, which have none: the line that is
-- under way, or the last, which may lack its line feed (own).
pub record IsInLines (lines : List (List ℕ)) (rest : List ℕ) (input : List ℕ) : Type 0 where
  pub is_input : input ≡ ended lines ++ rest
  pub each : AllByRecursion (λ line. is_one_line line ≡ true) lines
  pub last : is_one_line rest ≡ true
