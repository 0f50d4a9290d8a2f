-- The state of a dialogue of an engine.
use Rattle.std.specs.Prelude.{ℕ, Option, Some, None}
use Rattle.std.specs.Option.{option_map}
use Rattle.tcap_reception.specs.declared.state.State.{State}
use Rattle.tcap_reception.specs.StateViews as view
use Rattle.tcap_model.specs.Histories.Life.{Life}
use Rattle.tcap_model.specs.Table.EngineMove.{dialogue_in}
use Rattle.tcap_model.specs.Table.World.{World}

-- The state of the dialogue with an identifier, if it stands; one that is over has none
-- (Q.774, Transaction state machine).
abbrev pub state_in : World → ℕ → Option State
state_in w identifier = option_map (λ d. view.state_of d.standing.state) (dialogue_in identifier w.dialogues)

-- The state in which a life is: none before it is created, and none once it is over
-- (Q.774, Transaction state machine).
abbrev pub state_in_life : Life → Option State
state_in_life Life.unborn = None
state_in_life (Life.standing state context) = Some (view.state_of state)
state_in_life Life.over = None
