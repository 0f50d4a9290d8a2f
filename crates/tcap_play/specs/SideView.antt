-- A side as a contract sees it.
use Rattle.tcap_play.specs.Sides.{Engine}
use Rattle.tcap_play.specs.declared.side.Side.{Side}
use Rattle.tcap_play.specs.declared.side.Side.TheVariants as side

-- The engine of a side (own).
abbrev pub side_view : Side → Engine
side_view side.A = Engine.a
side_view side.B = Engine.b
