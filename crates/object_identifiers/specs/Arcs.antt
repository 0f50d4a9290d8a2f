-- The arcs of an object identifier, the octets that spell them, and their dotted text.
use Rattle.std.specs.Prelude.{◌≡◌, ℕ, ◌+◌, ◌*◌, ◌%◌, ◌<◌, ◌≤◌, ◌⊎◌, List, [], ◌∷◌, ◌++◌, map, length}
use Rattle.std.specs.Fmt.{decimal}
use Rattle.std.specs.List.{flat_map, AllByRecursion}
use Rattle.ber_core.specs.ObjectIdentifier.{object_identifier_limit, IsSubidentifier}

-- The greatest number that a subidentifier may have here (own).
abbrev pub number_limit : ℕ
number_limit = 4294967295

-- The number that is so far n, with the octets of a subidentifier after it: bits 7 to 1 of each, the
-- first ones highest (X.690, Encoding of an object identifier value).
abbrev pub number_after : ℕ → List ℕ → ℕ
number_after n [] = n
number_after n (b ∷ octets) = number_after (n * 128 + b % 128) octets

-- The number of a subidentifier (X.690, Encoding of an object identifier value).
abbrev pub number_of : List ℕ → ℕ
number_of octets = number_after 0 octets

-- The arcs of an object identifier: two at least, the first 0 to 2, the second 0 to 39 behind a first
-- 0 or 1 (X.690, Encoding of an object identifier value).
abbrev pub AreArcs : List ℕ → Type 0
AreArcs [] = ⊥
AreArcs (x ∷ []) = ⊥
AreArcs (x ∷ (y ∷ more)) = ((x ≤ 1) × (y ≤ 39)) ⊎ (x ≡ 2)

-- The numbers of the subidentifiers: the first is 40 times the first arc and the second arc, each other
-- is an arc (X.690, Encoding of an object identifier value).
abbrev pub numbers_of_arcs : List ℕ → List ℕ
numbers_of_arcs [] = []
numbers_of_arcs (x ∷ []) = []
numbers_of_arcs (x ∷ (y ∷ more)) = (x * 40 + y) ∷ more

-- Contents octets spell these arcs: they are the subidentifiers of their numbers, one after the other,
-- each in the fewest octets, 255 at most (X.690, Encoding of an object identifier value; the limit is own).
pub record SpellsArcs (arcs octets : List ℕ) : Type 0 where
  pub subidentifiers : List (List ℕ)
  pub each : AllByRecursion IsSubidentifier subidentifiers
  pub is_joined : octets ≡ flat_map (λ (s : List ℕ). s) subidentifiers
  pub are_numbers : map number_of subidentifiers ≡ numbers_of_arcs arcs
  pub are_arcs : AreArcs arcs
  pub are_octets : AllByRecursion (λ (b : ℕ). b < 256) octets
  pub is_short : length octets ≤ object_identifier_limit

-- The dotted text of arcs: each in decimal, full stops between them (X.680, Object identifier values).
abbrev pub dotted_text : List ℕ → List ℕ
dotted_text [] = []
dotted_text (x ∷ []) = decimal x
dotted_text (x ∷ (y ∷ more)) = decimal x ++ (46 ∷ dotted_text (y ∷ more))

-- A full stop and an arc (X.680, Object identifier values).
abbrev pub tail_text : ℕ → List ℕ
tail_text n = 46 ∷ decimal n

-- A text and contents octets name the same object identifier: it is the dotted text of the arcs that they
-- spell, of which no number is above the limit (the limit is own).
pub record NamesOctets (text octets : List ℕ) : Type 0 where
  pub arcs : List ℕ
  pub is_text : text ≡ dotted_text arcs
  pub spelled : SpellsArcs arcs octets
  pub are_small : AllByRecursion (λ (n : ℕ). n ≤ number_limit) (numbers_of_arcs arcs)
