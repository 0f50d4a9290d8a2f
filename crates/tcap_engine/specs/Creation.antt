-- The dialogue that a Begin creates in an engine.
use Rattle.std.specs.Prelude.{ℕ, List}
use Rattle.tcap_dialogue.specs.StepViews.{at_clock}
use Rattle.tcap_engine.specs.declared.limits.Limits.{Limits}
use Rattle.tcap_model.specs.Table.TableMove.{Moved, born}
use Rattle.tcap_model.specs.Words.Address.{Address}
use Rattle.tcap_reception.specs.PortionParts.{Given, context_of_portion, info_of_portion}

-- What a Begin at this moment creates under this identifier, within these limits (own).
abbrev pub created_by : ℕ → ℕ → Limits → Address → List ℕ → Given → List ℕ → Moved
created_by clock identifier limits from origin request components =
    born (at_clock clock) identifier limits.reject_ms limits.idle_ms from origin (context_of_portion request) (info_of_portion request) components
