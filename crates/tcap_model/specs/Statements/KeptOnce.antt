-- The address that a dialogue keeps is replaced once at most.
use Rattle.std.specs.Prelude.{ℕ, ◌≡◌, ◌⊎◌, ◌∷◌, ◌++◌, List, Option, IsTrue}
use Rattle.tcap_pdu.specs.FrameSpelling.{Message, SpellsFrame}
use Rattle.tcap_model.specs.Words.Address.{Address}
use Rattle.tcap_model.specs.Words.Event.{Event}
use Rattle.tcap_model.specs.Histories.History.{Start}
use Rattle.tcap_model.specs.Histories.Kept.{kept_address}
use Rattle.tcap_model.specs.Histories.Life.{Life, life}
use Rattle.tcap_model.specs.Histories.Names.{names}
use Rattle.tcap_model.specs.Histories.Pair.{Pair, Past}
use Rattle.tcap_model.specs.Procedures.States.{has_peer}
use Rattle.tcap_model.specs.Replies.Legal.{AreReplies}
use Rattle.tcap_model.specs.Statements.NormalPortion.{IsNormal}
use Rattle.tcap_model.specs.Words.State.{State}

-- Where the peer was heard, in Initiation Received and in Active, nothing that comes later changes what is
-- kept (own).
abbrev pub KeepsForGood : Type 0
KeepsForGood =
    (start : Start) (dialogue : ℕ) (later past : Past) (state : State) (context : Option (List ℕ)) →
    AreReplies start (later ++ past) → life dialogue past ≡ Life.standing state context → IsTrue (has_peer state) →
    kept_address dialogue (later ++ past) ≡ kept_address dialogue past

-- The first Continue to a dialogue in Initiation Sent came from this address, and its dialogue portion is as
-- it should be; the dialogue is Active then (own).
pub record FirstContinue (dialogue : ℕ) (context : Option (List ℕ)) (from : Address) (pair : Pair) (past : Past) : Type 0
  where
    pub bytes : List ℕ
    pub is_event : pair.event ≡ Event.received from bytes
    pub is_named : IsTrue (names pair.event dialogue)
    pub origin : List ℕ
    pub destination : List ℕ
    pub portion : Option (List ℕ)
    pub components : List ℕ
    pub is_spelled : SpellsFrame (Message.go_on origin destination portion components) bytes
    pub is_normal : IsNormal State.sent context portion
    pub is_active : life dialogue (pair ∷ past) ≡ Life.standing (State.active origin) context

-- In Initiation Sent a pair leaves what is kept, or is the first Continue, whose sender's address is kept
-- from then on (own).
abbrev pub KeepsTheFirstSender : Type 0
KeepsTheFirstSender =
    (start : Start) (dialogue : ℕ) (pair : Pair) (past : Past) (context : Option (List ℕ)) →
    AreReplies start (pair ∷ past) → life dialogue past ≡ Life.standing State.sent context →
    (kept_address dialogue (pair ∷ past) ≡ kept_address dialogue past)
    ⊎ FirstContinue dialogue context (kept_address dialogue (pair ∷ past)) pair past
