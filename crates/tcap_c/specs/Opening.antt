-- A handle that is opened.
use Rattle.std.specs.Prelude.{◌≡◌, ℕ, ◌&&◌, Bool, true, nat_le, []}
use Rattle.tcap_engine.specs.Limits.{empty_history}
use Rattle.tcap_engine.specs.declared.limits.Limits.{Limits}
use Rattle.tcap_invocation.specs.Stage.{moment_limit}
use Rattle.tcap_model.specs.Table.World.{StandsAt, first_world}
use Rattle.tcap_c.specs.declared.handle.Handle.{Handle}

-- A count of dialogues or octets is 1 to 65,535 (own).
abbrev pub is_count : ℕ → Bool
is_count n = nat_le 1 n && nat_le n 65535

-- The numbers by which a handle may be opened: the counts, the moments, and that nothing begins at 0 (own).
abbrev pub are_accepted : (max_dialogues max_message reject_ms idle_ms first_dialogue first_number : ℕ) → Bool
are_accepted max_dialogues max_message reject_ms idle_ms first_dialogue first_number =
    is_count max_dialogues && is_count max_message && nat_le reject_ms moment_limit && nat_le idle_ms moment_limit
    && nat_le 1 first_dialogue && nat_le 1 first_number

-- The limits of its engine (own).
abbrev pub limits_of : (max_dialogues reject_ms idle_ms : ℕ) → Limits
limits_of max_dialogues reject_ms idle_ms =
    record { max_dialogues = max_dialogues; reject_ms = reject_ms; idle_ms = idle_ms }

-- A handle is open, at a station at which nothing has happened (own).
pub record IsOpened (limits : Limits) (max_message first_dialogue first_number : ℕ) (h : Handle) : Type 0 where
  pub is_open : h.is_open ≡ true
  pub value : h.value ≡ record {
    engine = first_world (empty_history limits first_dialogue first_number).start;
    waiting = [];
    events = 0;
    max_message = max_message;
  }
  pub stands : StandsAt (empty_history limits first_dialogue first_number) h.value.engine
