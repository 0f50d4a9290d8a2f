-- The engines of worked nets, and where they are.
use Rattle.std.specs.Prelude.{ℕ, zero, suc, List, [], ◌∷◌, None}
use Rattle.tcap_examples.specs.Values.Peer.{peer_address}
use Rattle.tcap_model.specs.Histories.Pair.{Pair}
use Rattle.tcap_model.specs.Statements.Net.{Engine, Places}
use Rattle.tcap_model.specs.Words.Address.{Address}
use Rattle.tcap_model.specs.Words.Answer.{Answer}
use Rattle.tcap_model.specs.Words.Event.{Event}
use Rattle.tcap_model.specs.Words.Output.{Output}
use Rattle.tcap_model.specs.Words.Request.{Request, DialogueRequest}

-- The first engine (own).
abbrev pub engine_a : Engine
engine_a = 0

-- The second engine (own).
abbrev pub engine_b : Engine
engine_b = 1

-- The address of the first, the octet 02; that of the second is the peer's, 01 (own).
abbrev pub address_of_a : Address
address_of_a = 2 ∷ []

-- Where two engines are (own).
abbrev pub two_places : Places
two_places zero = address_of_a ∷ []
two_places (suc zero) = peer_address ∷ []
two_places (suc (suc number)) = []

-- ---- what the second engine does, whose peer is the first

-- A message that is sent to the first (own).
abbrev pub sent_to_a : List ℕ → Output
sent_to_a bytes = Output.send address_of_a bytes

-- Bytes are received from the first, and this is sent and told (own).
abbrev pub received_from_a : List ℕ → List Output → Pair
received_from_a bytes outputs =
    record { event = Event.received address_of_a bytes; answer = Answer.outputs outputs; idle_ms = 0 }

-- TC-BEGIN to the first, without application context (own).
abbrev pub begin_to_a : Request
begin_to_a = Request.dialogue (DialogueRequest.begin address_of_a None [])
