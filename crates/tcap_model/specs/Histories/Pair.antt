-- What happened up to a place: pairs of an event and its answer.
use Rattle.std.specs.Prelude.{◌≡◌, ℕ, List, [], ◌∷◌, ◌++◌}
use Rattle.tcap_model.specs.Words.Event.{Event}
use Rattle.tcap_model.specs.Words.Answer.{Answer}

-- An event and its answer, and the idle limit of the engine that answered, in milliseconds, 0 for none
-- (own).
pub record Pair : Type 0 where
  pub event : Event
  pub answer : Answer
  pub idle_ms : ℕ

-- What happened, the newest pair first: what stands before a pair is the rest of the list (own).
abbrev pub Past : Type 0
Past = List Pair

-- All pairs are of engines with the same idle limit (own).
abbrev pub AreLimited : ℕ → Past → Type 0
AreLimited idle_ms [] = Unit {0}
AreLimited idle_ms (pair ∷ past) = (pair.idle_ms ≡ idle_ms) × AreLimited idle_ms past

-- What each pair gives, with what stands before it, joined in order of time (own).
abbrev pub gathered : {X : Type 0} → (Pair → Past → List X) → Past → List X
gathered gives [] = []
gathered gives (pair ∷ past) = gathered gives past ++ gives pair past
