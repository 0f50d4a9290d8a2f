-- What the engine answers to an event.
use Rattle.std.specs.Prelude.{ℕ, List, Bool, true, false}
use Rattle.tcap_model.specs.Words.Fault.{Fault}
use Rattle.tcap_model.specs.Words.Output.{Output}

-- The identifier of a new dialogue; the number of a new invocation; a component was queued; the
-- invocation of this number was given up; what was sent and told; or why the request was refused (own).
pub data Answer : Type 0 where
  new_dialogue : (dialogue : ℕ) → Answer
  number : (number : ℕ) → Answer
  done : Answer
  given_up : (number : ℕ) → Answer
  outputs : (outputs : List Output) → Answer
  refused : (fault : Fault) → Answer

-- Whether the event was accepted: its answer is no refusal (own).
abbrev pub is_accepted : Answer → Bool
is_accepted (new_dialogue dialogue) = true
is_accepted (number n) = true
is_accepted done = true
is_accepted (given_up n) = true
is_accepted (outputs os) = true
is_accepted (refused fault) = false
