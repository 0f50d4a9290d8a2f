-- The two engines of a play that is played line by line, as a contract sees them.
use Rattle.std.specs.Prelude.{Bool, List, ℕ}
use Rattle.tcap_play.specs.Play.{Played, step_by}
use Rattle.tcap_play.specs.PlayViews.{ActsBy, IsAt}
use Rattle.tcap_play.specs.declared.by_line.Engines.{Engines}

-- Both engines stand at a play: each at its history, with the messages that it sent (own).
abbrev pub StandAt : {A : Type 0} → Played → Engines A → Type 0
StandAt p engines = IsAt p engines.a engines.b

-- At each play at which both engines stood they took the step of this line, and its text was added; or there is
-- none, and nothing was added (own).
abbrev pub PlaysLine : {A : Type 0} → List ℕ → Bool → (old new : Engines A) → (before after : List ℕ) → Type 0
PlaysLine line done old new before after = ActsBy (λ p. step_by p line) done old.a old.b new.a new.b before after
