-- What is to be proved of every legal history: what the indications of components stand for, by the
-- octets of the messages.
use Rattle.std.specs.Prelude.{◌≡◌, ℕ, ℤ, List, ◌∷◌, ◌++◌, Option, Some}
use Rattle.tcap_pdu.specs.FrameSpelling.{Message, SpellsFrame}
use Rattle.tcap_component.specs.Problem.{ProblemParts}
use Rattle.tcap_component.specs.Component.{ComponentParts, CodeParts, BodyParts}
use Rattle.tcap_component.specs.ComponentFault.{FaultParts}
use Rattle.tcap_component.specs.ComponentList.{FirstFault}
use Rattle.tcap_model.specs.Words.Address.{Address}
use Rattle.tcap_model.specs.Words.Event.{Event}
use Rattle.tcap_model.specs.Histories.History.{History}
use Rattle.tcap_model.specs.Replies.Legal.{IsLegal}
use Rattle.tcap_model.specs.Words.Output.{Output, Closing, Rejector, ComponentIndication}
use Rattle.tcap_model.specs.Histories.Pair.{Pair, Past}
use Rattle.tcap_model.specs.Statements.ComponentPortion.{portion_of}
use Rattle.tcap_model.specs.Statements.Places.{StandsIn, Tells}

-- An indication stands for a component (Q.771, Component handling).
pub data StandsFor : Output → ComponentParts → Type 0 where
  an_invoke : (dialogue : Option ℕ) (id : ℤ) (linked : Option ℤ) (code : CodeParts) (parameter : Option (List ℕ))
      → StandsFor (Output.component (ComponentIndication.invoked dialogue id linked code parameter))
      (ComponentParts.invoke id linked code parameter)
  a_result_more : (dialogue number : ℕ) (id : ℤ) (body : Option BodyParts)
      → StandsFor (Output.component (ComponentIndication.result_more dialogue number id body))
      (ComponentParts.result_more id body)
  a_result_last : (dialogue number : ℕ) (id : ℤ) (body : Option BodyParts)
      → StandsFor (Output.component (ComponentIndication.closed dialogue number id (Closing.result_last body)))
      (ComponentParts.result_last id body)
  an_error : (dialogue number : ℕ) (id : ℤ) (code : CodeParts) (parameter : Option (List ℕ))
      → StandsFor (Output.component (ComponentIndication.closed dialogue number id (Closing.error_back code parameter)))
      (ComponentParts.error_back id code parameter)
  a_reject : (dialogue number : ℕ) (id : ℤ) (problem : ProblemParts)
      → StandsFor (Output.component (ComponentIndication.closed dialogue number id
      (Closing.rejected problem Rejector.remote_user))) (ComponentParts.reject_back (Some id) problem)

-- The indications that stand for a component (Q.771, Component handling).
pub data IsOfComponent : Output → Type 0 where
  invoke : (dialogue : Option ℕ) (id : ℤ) (linked : Option ℤ) (code : CodeParts) (parameter : Option (List ℕ))
      → IsOfComponent (Output.component (ComponentIndication.invoked dialogue id linked code parameter))
  result_more : (dialogue number : ℕ) (id : ℤ) (body : Option BodyParts)
      → IsOfComponent (Output.component (ComponentIndication.result_more dialogue number id body))
  result_last : (dialogue number : ℕ) (id : ℤ) (body : Option BodyParts)
      → IsOfComponent (Output.component (ComponentIndication.closed dialogue number id (Closing.result_last body)))
  error_back : (dialogue number : ℕ) (id : ℤ) (code : CodeParts) (parameter : Option (List ℕ))
      → IsOfComponent (Output.component (ComponentIndication.closed dialogue number id
      (Closing.error_back code parameter)))
  rejected : (dialogue number : ℕ) (id : ℤ) (problem : ProblemParts)
      → IsOfComponent (Output.component (ComponentIndication.closed dialogue number id
      (Closing.rejected problem Rejector.remote_user)))

-- An indication in the answer to received bytes stands for one of the components that these spell
-- before the first that can't be read (own).
pub record ToldFromOne (event : Event) (output : Output) : Type 0 where
  pub from : Address
  pub bytes : List ℕ
  pub message : Message
  pub earlier : List ComponentParts
  pub component : ComponentParts
  pub later : List ComponentParts
  pub fault : Option FaultParts
  pub is_event : event ≡ Event.received from bytes
  pub spelled : SpellsFrame message bytes
  pub read : FirstFault (earlier ++ component ∷ later) fault (portion_of message)
  pub stands_for : StandsFor output component

-- An indication of a component that a history tells (own).
pub record ToldIndication (past : Past) : Type 0 where
  pub pair : Pair
  pub before : Past
  pub output : Output
  pub stands : StandsIn pair before past
  pub tells : Tells pair.answer output
  pub is_of_component : IsOfComponent output

-- Each indication of a component stands for one in the octets received (own).
abbrev pub ToldFrom : Past → Type 0
ToldFrom past = (told : ToldIndication past) → ToldFromOne told.pair.event told.output

-- Whatever is told stands for what was received, at every legal history (own).
abbrev pub EachIsToldFrom : Type 0
EachIsToldFrom = (h : History) → IsLegal h → ToldFrom h.pairs
