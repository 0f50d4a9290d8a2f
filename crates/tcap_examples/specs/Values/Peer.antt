-- The peer of worked examples: where its messages come from, and where those to it go.
use Rattle.std.specs.Prelude.{ℕ, List, [], ◌∷◌}
use Rattle.tcap_model.specs.Words.Address.{Address}
use Rattle.tcap_model.specs.Words.Event.{Event}
use Rattle.tcap_model.specs.Words.Output.{Output}

-- Its address, the octet 01 (own).
abbrev pub peer_address : Address
peer_address = 1 ∷ []

-- A message that is sent to it (own).
abbrev pub sent : List ℕ → Output
sent bytes = Output.send peer_address bytes

-- Bytes that are received from it (own).
abbrev pub arrived : List ℕ → Event
arrived bytes = Event.received peer_address bytes
