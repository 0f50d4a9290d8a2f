-- The limits that an engine may be given, and the history that begins with them.
use Rattle.std.specs.Prelude.{ℕ, ◌≤◌, []}
use Rattle.tcap_engine.specs.declared.limits.Limits.{Limits}
use Rattle.tcap_invocation.specs.Stage.{moment_limit}
use Rattle.tcap_model.specs.Histories.History.{History}

-- So many dialogues may be let stand: each has a number that four octets hold (own).
abbrev pub most_dialogues : ℕ
most_dialogues = 65535

-- An engine of one dialogue at least, whose identifiers wait, and whose dialogues stay idle, for no longer
-- than a moment may be (own).
pub record AreLimits (limits : Limits) : Type 0 where
  pub one : 1 ≤ limits.max_dialogues
  pub most : limits.max_dialogues ≤ most_dialogues
  pub wait : limits.reject_ms ≤ moment_limit
  pub idle : limits.idle_ms ≤ moment_limit

-- The history in which nothing has happened: it starts with these limits, and with these counters
-- (own).
abbrev pub empty_history : Limits → ℕ → ℕ → History
empty_history limits next_dialogue next_number = record {
  start = record {
    max_dialogues = limits.max_dialogues;
    reject_ms = limits.reject_ms;
    idle_ms = limits.idle_ms;
    next_dialogue = next_dialogue;
    next_number = next_number;
  };
  pairs = [];
}
