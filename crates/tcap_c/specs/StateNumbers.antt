-- The states of a dialogue as numbers.
use Rattle.std.specs.Prelude.{ℕ, Option, Some, None}
use Rattle.tcap_reception.specs.declared.state.State.{State}
use Rattle.tcap_reception.specs.declared.state.State.TheVariants as state

-- 0 where no dialogue stands, 1 Idle, 2 Initiation Sent, 3 Initiation Received, 4 Active
-- (Q.774, Transaction state machine; the numbers are own).
abbrev pub state_number : Option State → ℕ
state_number None = 0
state_number (Some state.Fresh) = 1
state_number (Some state.Sent) = 2
state_number (Some state.Received) = 3
state_number (Some state.Active) = 4
