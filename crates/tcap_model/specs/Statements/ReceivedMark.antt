-- What received bytes mean for an invoke identifier, by the message that they spell.
use Rattle.std.specs.Prelude.{◌≡◌, ℕ, ℤ, List, [], ◌∷◌, ◌++◌, Option, IsTrue, map, flat_map}
use Rattle.tcap_pdu.specs.declared.fault.FrameFault.{FrameFault}
use Rattle.tcap_pdu.specs.FrameFaults.{IsFrameFault}
use Rattle.tcap_pdu.specs.FrameSpelling.{Message, Reason, SpellsFrame}
use Rattle.tcap_component.specs.Component.{ComponentParts}
use Rattle.tcap_component.specs.ComponentFault.{FaultParts}
use Rattle.tcap_component.specs.ComponentList.{FirstFault}
use Rattle.tcap_model.specs.Histories.Clock.{clock}
use Rattle.tcap_model.specs.Words.Address.{Address}
use Rattle.tcap_model.specs.Words.Event.{Event}
use Rattle.tcap_model.specs.Histories.Life.{Life, life}
use Rattle.tcap_model.specs.Invocations.Marks.{Mark, Noted, marks_of_component}
use Rattle.tcap_model.specs.Histories.Pair.{Pair, Past}
use Rattle.tcap_model.specs.Statements.NamesDialogue.{NamesDialogue}
use Rattle.tcap_model.specs.Statements.NormalPortion.{IsNormal, IsAbnormal}
use Rattle.tcap_model.specs.Words.State.{State, is_live}

-- Bytes were received that name a dialogue, which is live in this state, with this application context
-- (Q.774, Transaction state machine).
pub record Reaches (dialogue : ℕ) (state : State) (context : Option (List ℕ)) (bytes : List ℕ) (pair : Pair)
    (past : Past) : Type 0 where
  pub from : Address
  pub is_event : pair.event ≡ Event.received from bytes
  pub names_it : NamesDialogue dialogue bytes
  pub is_life : life dialogue past ≡ Life.standing state context
  pub is_live : IsTrue (is_live state)

-- What some components mean for an identifier, in order (Q.774, Component sublayer procedures).
abbrev pub marks_of_components : ℤ → List ComponentParts → List Mark
marks_of_components id components = flat_map (marks_of_component id) components

-- What bytes mean for an identifier of a live dialogue that they name, by the message that they spell: a
-- normal Continue its components up to the first fault, a normal End the same and then the end, any
-- other message and a faulty one the end (Q.774, Invocation state machine).
pub data Means (state : State) (context : Option (List ℕ)) (id : ℤ) (bytes : List ℕ) : List Mark → Type 0 where
  continued : (origin to : List ℕ) (portion : Option (List ℕ)) (content : List ℕ) (components : List ComponentParts)
      (fault : Option FaultParts) → SpellsFrame (Message.go_on origin to portion content) bytes →
      IsNormal state context portion → FirstFault components fault content →
      Means state context id bytes (marks_of_components id components)
  ended : (to : List ℕ) (portion : Option (List ℕ)) (content : List ℕ) (components : List ComponentParts)
      (fault : Option FaultParts) → SpellsFrame (Message.end to portion content) bytes →
      IsNormal state context portion → FirstFault components fault content →
      Means state context id bytes (marks_of_components id components ++ Mark.end ∷ [])
  continued_abnormally : (origin to : List ℕ) (portion : Option (List ℕ)) (content : List ℕ) →
      SpellsFrame (Message.go_on origin to portion content) bytes → IsAbnormal state context portion →
      Means state context id bytes (Mark.end ∷ [])
  ended_abnormally : (to : List ℕ) (portion : Option (List ℕ)) (content : List ℕ) →
      SpellsFrame (Message.end to portion content) bytes → IsAbnormal state context portion →
      Means state context id bytes (Mark.end ∷ [])
  aborted : (to : List ℕ) (reason : Reason) → SpellsFrame (Message.abort to reason) bytes →
      Means state context id bytes (Mark.end ∷ [])
  faulty : (fault : FrameFault) → IsFrameFault bytes fault → Means state context id bytes (Mark.end ∷ [])

-- Marks that are all made at one place (own).
abbrev pub noted_at : Past → List Mark → List Noted
noted_at past made = map (λ mark. record { clock = clock past; mark = mark }) made
