-- What the procedures ask of a dialogue that stands.
use Rattle.std.specs.Prelude.{ℕ, List, Option}
use Rattle.tcap_model.specs.Words.State.{State}
use Rattle.tcap_model.specs.Procedures.QueueRules.{Queued}

-- A dialogue: its identifier, its state, the application context of its Begin, sent or received, and
-- its queue (own).
pub record Standing : Type 0 where
  pub identifier : ℕ
  pub state : State
  pub context : Option (List ℕ)
  pub queue : List Queued
