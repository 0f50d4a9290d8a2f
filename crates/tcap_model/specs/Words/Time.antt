-- Moments and what is due at them.
use Rattle.std.specs.Prelude.{ℕ, ◌+◌, ◌&&◌, Bool, nat_lt, nat_le, Option, Some, None, if◌then◌else◌}
use Rattle.tcap_invocation.specs.Stage.{moment_limit}
use Rattle.tcap_model.specs.Words.Fault.{Fault}

-- A moment above the limit is refused (own).
abbrev pub moment_fault : ℕ → Option Fault
moment_fault now = if nat_lt moment_limit now then Some Fault.moment_too_late else None

-- A dialogue that was last active when the clock stood at a moment has been idle too long: there is an
-- idle limit, and it is reached now (own).
abbrev pub is_idle : ℕ → ℕ → ℕ → Bool
is_idle idle_ms touched now = nat_lt 0 idle_ms && nat_le (touched + idle_ms) now
