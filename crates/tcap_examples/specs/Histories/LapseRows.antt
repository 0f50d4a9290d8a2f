-- Lapses in the order of their keys.
use Rattle.std.specs.Prelude.{◌≡◌, ℕ, pos, Bool, true, false, List, [], ◌∷◌, map}
use Rattle.tcap_invocation.specs.declared.class.Class.TheVariants.{One}
use Rattle.tcap_model.specs.Replies.Reply.{Lapsing}
use Rattle.tcap_model.specs.Words.KeyOrder.{comes_before}

-- A lapse of this deadline, dialogue and number (own).
abbrev pub lapsing : ℕ → ℕ → ℕ → Lapsing
lapsing deadline dialogue number =
    record {
      deadline = deadline;
      invocation =
          record { number = number; dialogue = dialogue; id = pos 1; class = One; timeout = 10 };
    }

-- Lapses that differ in one part of the key or in all, in no order (own).
abbrev pub unordered : List Lapsing
unordered = lapsing 20 2 1 ∷ lapsing 20 1 4 ∷ lapsing 20 1 3 ∷ lapsing 10 3 9 ∷ lapsing 20 2 0 ∷ []

-- These lapses by deadline, then by dialogue, then by number (own).
abbrev pub ordered : List Lapsing
ordered = lapsing 10 3 9 ∷ lapsing 20 1 3 ∷ lapsing 20 1 4 ∷ lapsing 20 2 0 ∷ lapsing 20 2 1 ∷ []

-- Two keys, and whether the first comes before the second, as it is stated (own).
pub record Compared : Type 0 where
  pub one : List ℕ
  pub other : List ℕ
  pub is_before : Bool

-- Two keys and whether the one comes before the other, in one line (own).
abbrev pub compared : List ℕ → List ℕ → Bool → Compared
compared one other is_before = record { one = one; other = other; is_before = is_before }

-- Keys that differ in one place, in several, in none and in length (own).
abbrev pub keys : List Compared
keys =
    compared (1 ∷ 9 ∷ 9 ∷ []) (2 ∷ 0 ∷ 0 ∷ []) true
    ∷ compared (2 ∷ 0 ∷ 0 ∷ []) (1 ∷ 9 ∷ 9 ∷ []) false
    ∷ compared (1 ∷ 2 ∷ 9 ∷ []) (1 ∷ 3 ∷ 0 ∷ []) true
    ∷ compared (1 ∷ 2 ∷ 3 ∷ []) (1 ∷ 2 ∷ 4 ∷ []) true
    ∷ compared (1 ∷ 2 ∷ 4 ∷ []) (1 ∷ 2 ∷ 3 ∷ []) false
    ∷ compared (1 ∷ 2 ∷ 3 ∷ []) (1 ∷ 2 ∷ 3 ∷ []) false
    ∷ compared (1 ∷ []) (1 ∷ 0 ∷ []) true
    ∷ compared (1 ∷ 0 ∷ []) (1 ∷ []) false
    ∷ []

-- Each is before the other or not, as it is stated (own).
abbrev pub AreComparedSo : List Compared → Type 0
AreComparedSo rows = map (λ (r : Compared). comes_before r.one r.other) rows ≡ map (λ (r : Compared). r.is_before) rows
