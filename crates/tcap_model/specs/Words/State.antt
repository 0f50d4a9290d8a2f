-- How far a dialogue is.
use Rattle.std.specs.Prelude.{Bool, true, false, List, ℕ, Option, Some, None}
use Rattle.tcap_model.specs.Words.Address.{Address}

-- The states of a dialogue: Idle, Initiation Sent, Initiation Received and Active. The peer's
-- transaction identifier, by its octets, is known from the first message of the peer on
-- (Q.774, Transaction state machine).
pub data State : Type 0 where
  fresh : State
  sent : State
  received : (peer : List ℕ) → State
  active : (peer : List ℕ) → State

-- A dialogue is live in Initiation Sent and in Active: messages to it are taken (own).
abbrev pub is_live : State → Bool
is_live fresh = false
is_live sent = true
is_live (received peer) = false
is_live (active peer) = true

-- The peer's transaction identifier, once it is known (Q.774, Transaction state machine).
abbrev pub peer_of : State → Option (List ℕ)
peer_of fresh = None
peer_of sent = None
peer_of (received peer) = Some peer
peer_of (active peer) = Some peer

-- The first answer makes the dialogue Active (Q.774, Transaction state machine).
abbrev pub activated : State → State
activated fresh = fresh
activated sent = sent
activated (received peer) = active peer
activated (active peer) = active peer

-- The peer of a Continue: the one known, or else its originator
-- (Q.774, Transaction state machine).
abbrev pub peer_by : State → List ℕ → List ℕ
peer_by fresh origin = origin
peer_by sent origin = origin
peer_by (received peer) origin = peer
peer_by (active peer) origin = peer

-- The address of the peer of a Continue: the one that is kept, or in Initiation Sent that of its sender
-- (own).
abbrev pub address_by : State → Address → Address → Address
address_by fresh kept from = kept
address_by sent kept from = from
address_by (received peer) kept from = kept
address_by (active peer) kept from = kept
