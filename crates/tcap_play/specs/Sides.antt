-- The two engines of a play.
use Rattle.std.specs.Prelude.{zero, suc, [], ◌∷◌}
use Rattle.tcap_model.specs.Statements.Net as net
use Rattle.tcap_model.specs.Words.Address.{Address}

-- One of the two engines of a play (own).
pub data Engine : Type 0 where
  a : Engine
  b : Engine

-- The other one (own).
abbrev pub far : Engine → Engine
far Engine.a = Engine.b
far Engine.b = Engine.a

-- Its number among the engines of a net (own).
abbrev pub number_of : Engine → net.Engine
number_of Engine.a = 0
number_of Engine.b = 1

-- The engine with a number in the net (own).
abbrev pub engine_numbered : net.Engine → Engine
engine_numbered zero = Engine.a
engine_numbered (suc number) = Engine.b

-- The address of an engine: the octet 41 of A, 42 of B (own).
abbrev pub address_of : Engine → Address
address_of Engine.a = 0x41 ∷ []
address_of Engine.b = 0x42 ∷ []

-- Where the engines of a play are in the net (own).
abbrev pub play_places : net.Places
play_places zero = address_of Engine.a ∷ []
play_places (suc zero) = address_of Engine.b ∷ []
play_places (suc (suc number)) = []
