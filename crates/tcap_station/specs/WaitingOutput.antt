-- An output that waits, and the outputs of an event as they wait.
use Rattle.std.specs.Prelude.{ℕ, Bool, true, false, List, [], ◌∷◌}
use Rattle.tcap_model.specs.Words.Output.{Output}

-- An output that waits, the number of the event that it answers, and whether it is the last that answers it
-- (own).
pub record WaitingOutput : Type 0 where
  pub output : Output
  pub event : ℕ
  pub is_last : Bool

-- Whether there is any (own).
abbrev pub is_any : {T : Type 0} → List T → Bool
is_any [] = false
is_any (x ∷ xs) = true

-- Whether an output is the last that answers its event: none follows (own).
abbrev pub is_end : List Output → Bool
is_end [] = true
is_end (o ∷ os) = false

-- The outputs that answer an event as they wait: each with the event's number, the last of them as last (own).
abbrev pub numbered_outputs : ℕ → List Output → List WaitingOutput
numbered_outputs event [] = []
numbered_outputs event (o ∷ os) =
    record { output = o; event = event; is_last = is_end os } ∷ numbered_outputs event os
