-- Whether the dialogue portion of a message to a live dialogue is as it should be, by what it spells.
use Rattle.std.specs.Prelude.{ℕ, Bool, true, List, Option, Some, None}
use Rattle.tcap_pdu.specs.DialogueSpelling.{Source, PduValue, SpellsDialogue}
use Rattle.tcap_model.specs.Words.State.{State}

-- An acceptance must stand there: the dialogue is in Initiation Sent, and its Begin had an application
-- context (Q.774, Dialogue continuation).
pub data MustStand : State → Option (List ℕ) → Type 0 where
  asked : (context : List ℕ) → MustStand State.sent (Some context)

-- No dialogue portion may stand there: the dialogue is in Initiation Sent, and its Begin had no
-- application context; or it is Active (Q.774, Dialogue continuation).
pub data NoneMayStand : State → Option (List ℕ) → Type 0 where
  not_asked : NoneMayStand State.sent None
  answered : (peer : List ℕ) (context : Option (List ℕ)) → NoneMayStand (State.active peer) context

-- An acceptance is an AARE that accepts, whatever its version, context and diagnostic are
-- (Q.774, Dialogue continuation; what isn't looked at is own).
pub data IsAcceptance : PduValue → Type 0 where
  accepts : (version1 : Bool) (context : List ℕ) (diagnostic : Source) (info : List ℕ) →
      IsAcceptance (PduValue.aare version1 context true diagnostic info)

-- The dialogue portion is as it should be: it is absent where none may stand, or spells an acceptance
-- where one must stand (Q.774, Dialogue continuation).
pub data IsNormal (state : State) (context : Option (List ℕ)) : Option (List ℕ) → Type 0 where
  absent : NoneMayStand state context → IsNormal state context None
  accepting : (portion : List ℕ) (pdu : PduValue) → MustStand state context → SpellsDialogue pdu portion
      → IsAcceptance pdu →
      IsNormal state context (Some portion)

-- It is abnormal: absent where an acceptance must stand, there where none may stand; or where an
-- acceptance must stand it spells another PDU, or none
-- (Q.774, Abnormal procedures relating to dialogue control).
pub data IsAbnormal (state : State) (context : Option (List ℕ)) : Option (List ℕ) → Type 0 where
  missing : MustStand state context → IsAbnormal state context None
  not_allowed : (portion : List ℕ) → NoneMayStand state context → IsAbnormal state context (Some portion)
  another : (portion : List ℕ) (pdu : PduValue) → MustStand state context → SpellsDialogue pdu portion
      → (IsAcceptance pdu → ⊥) →
      IsAbnormal state context (Some portion)
  unspelled : (portion : List ℕ) → MustStand state context → ((pdu : PduValue) → SpellsDialogue pdu portion → ⊥) →
      IsAbnormal state context (Some portion)
