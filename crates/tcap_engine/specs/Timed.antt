-- The next timer of each dialogue, as it is kept beside it.
use Rattle.std.specs.Prelude.{◌≡◌, List, [], ◌∷◌}
use Rattle.tcap_engine.specs.Lapsing.{timer_of}
use Rattle.tcap_model.specs.Table.Dialogue.{Dialogue}
use Rattle.timed_table.specs.Row.{Row}

-- Beside each dialogue stands the moment at which time next changes it (own).
abbrev pub AreTimed : List (Row Dialogue) → Type 0
AreTimed [] = Unit {0}
AreTimed (r ∷ rows) = (r.time ≡ timer_of r.value) × AreTimed rows
