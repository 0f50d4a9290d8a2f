-- The state of a dialogue as a contract sees it.
use Rattle.std.specs.Prelude.{Bool, true, false}
use Rattle.tcap_model.specs.Words.State as model
use Rattle.tcap_reception.specs.declared.state.After.{After}
use Rattle.tcap_reception.specs.declared.state.After.TheVariants as after
use Rattle.tcap_reception.specs.declared.state.Phase.{Phase}
use Rattle.tcap_reception.specs.declared.state.Phase.TheVariants as phase
use Rattle.tcap_reception.specs.declared.state.State.{State}
use Rattle.tcap_reception.specs.declared.state.State.TheVariants as state

-- The state, with the peer in it (own).
abbrev pub phase_view : Phase → model.State
phase_view phase.Fresh = model.State.fresh
phase_view phase.Sent = model.State.sent
phase_view (phase.Received peer) = model.State.received peer
phase_view (phase.Active peer) = model.State.active peer

-- The state by its name: Idle, Initiation Sent, Initiation Received, Active
-- (Q.774, Transaction state machine).
abbrev pub state_of : model.State → State
state_of model.State.fresh = state.Fresh
state_of model.State.sent = state.Sent
state_of (model.State.received peer) = state.Received
state_of (model.State.active peer) = state.Active

-- The dialogue is over (own).
abbrev pub is_over : After → Bool
is_over after.Open = false
is_over after.Over = true
