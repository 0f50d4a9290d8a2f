-- The marks that may concern one invocation.
use Rattle.std.specs.Prelude.{ℕ, ℤ, ◌==◌, List, [], ◌∷◌, Bool, false, Option, Some, None, cond, flat_map}
use Rattle.tcap_model.specs.Invocations.Invocation.{Invocation, invoked_by, has_id}
use Rattle.tcap_model.specs.Invocations.Marks.{Noted, marks}
use Rattle.tcap_model.specs.Histories.Pair.{Pair, Past, gathered}

-- A pair, and what stands before it (own).
pub record Place : Type 0 where
  pub pair : Pair
  pub before : Past

-- A pair at its place (own).
abbrev pub place : Pair → Past → Place
place pair before = record { pair = pair; before = before }

-- The places, in order of time (own).
abbrev pub places : Past → List Place
places past = gathered (λ pair before. place pair before ∷ []) past

-- What follows the first entry that passes (own).
abbrev pub following : {X : Type 0} → (X → Bool) → List X → List X
following test [] = []
following test (x ∷ xs) = cond (test x) xs (following test xs)

-- What comes before the first entry that passes (own).
abbrev pub up_to : {X : Type 0} → (X → Bool) → List X → List X
up_to test [] = []
up_to test (x ∷ xs) = cond (test x) [] (x ∷ up_to test xs)

-- Whether an invocation is made here, and passes (own).
abbrev pub is_invoked : (Invocation → Bool) → Option Invocation → Bool
is_invoked test None = false
is_invoked test (Some i) = test i

-- Whether the invocation of this number is made here (own).
abbrev pub invokes_number : ℕ → Place → Bool
invokes_number n p = is_invoked (λ (i : Invocation). i.number == n) (invoked_by p.pair)

-- Whether the identifier is used for a new invocation here (own).
abbrev pub uses_id : ℕ → ℤ → Place → Bool
uses_id dialogue id p = is_invoked (has_id dialogue id) (invoked_by p.pair)

-- The marks for the dialogue and the identifier of an invocation after its invoke, up to the next use
-- of the identifier in that dialogue, in order of time (own).
abbrev pub span : Invocation → Past → List Noted
span i past = flat_map (λ p. marks i.dialogue i.id p.pair p.before)
    (up_to (uses_id i.dialogue i.id) (following (invokes_number i.number) (places past)))
