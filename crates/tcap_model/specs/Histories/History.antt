-- A history: what an engine started with, and what happened.
use Rattle.std.specs.Prelude.{ℕ}
use Rattle.tcap_model.specs.Histories.Pair.{Past}

-- The limits of an engine: how many dialogues may stand, how long an identifier waits for a Reject of
-- its answer, and how long a dialogue may stay idle, both in milliseconds, and 0 for a dialogue that
-- may stay idle for good; and its first dialogue identifier and invocation number (own).
pub record Start : Type 0 where
  pub max_dialogues : ℕ
  pub reject_ms : ℕ
  pub idle_ms : ℕ
  pub next_dialogue : ℕ
  pub next_number : ℕ

-- A start, and the events with their answers; an event to which memory was refused is left out (own).
pub record History : Type 0 where
  pub start : Start
  pub pairs : Past
