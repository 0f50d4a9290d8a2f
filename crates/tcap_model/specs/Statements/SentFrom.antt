-- What is to be proved of every legal history: where the components of messages come from, by the octets
-- of the messages.
use Rattle.std.specs.Prelude.{◌≡◌, ℕ, ℤ, true, List, [], Option, Some, None, ◌⊎◌}
use Rattle.std.specs.List.{AllByRecursion}
use Rattle.tcap_pdu.specs.FrameSpelling.{Message, SpellsFrame}
use Rattle.tcap_component.specs.Problem.{ProblemParts}
use Rattle.tcap_component.specs.Component.{ComponentParts}
use Rattle.tcap_component.specs.ComponentFault.{FaultParts}
use Rattle.tcap_component.specs.ComponentList.{FirstFault}
use Rattle.tcap_model.specs.Words.Address.{Address}
use Rattle.tcap_model.specs.Words.Answer.{is_accepted}
use Rattle.tcap_model.specs.Procedures.ComponentRequest.{component_of}
use Rattle.tcap_model.specs.Words.Event.{Event}
use Rattle.tcap_model.specs.Histories.History.{History}
use Rattle.tcap_model.specs.Replies.Legal.{IsLegal}
use Rattle.tcap_model.specs.Words.Output.{Output, Closing, Rejector, ComponentIndication}
use Rattle.tcap_model.specs.Histories.Pair.{Pair, Past}
use Rattle.tcap_model.specs.Statements.ComponentPortion.{portion_of}
use Rattle.tcap_model.specs.Statements.Places.{StandsIn, Tells}
use Rattle.tcap_model.specs.Words.Request.{Request}

-- A component was asked for: a request of this dialogue with it was accepted before (own).
pub record WasRequested (dialogue : ℕ) (component : ComponentParts) (past : Past) : Type 0 where
  pub pair : Pair
  pub before : Past
  pub request : Request
  pub stands : StandsIn pair before past
  pub is_event : pair.event ≡ Event.on_dialogue dialogue request
  pub accepted : is_accepted pair.answer ≡ true
  pub is_component : component_of request ≡ Some component

-- A local Reject that was told of a component of this dialogue, or that closed an invocation of it
-- (own).
abbrev pub IsLocalReject : ℕ → Option ℤ → ProblemParts → Output → Type 0
IsLocalReject dialogue id problem output =
    (output ≡ Output.component (ComponentIndication.local_reject (Some dialogue) id problem))
    ⊎ ((number : ℕ) × (named : ℤ) × (id ≡ Some named)
    × (output ≡ Output.component (ComponentIndication.closed dialogue number named
    (Closing.rejected problem Rejector.local))))

-- A Reject was formed here: its problem was told before, in the answer to received bytes (own).
pub record WasFormed (dialogue : ℕ) (component : ComponentParts) (past : Past) : Type 0 where
  pub pair : Pair
  pub before : Past
  pub from : Address
  pub bytes : List ℕ
  pub id : Option ℤ
  pub problem : ProblemParts
  pub output : Output
  pub stands : StandsIn pair before past
  pub is_event : pair.event ≡ Event.received from bytes
  pub is_component : component ≡ ComponentParts.reject_back id problem
  pub tells : Tells pair.answer output
  pub is_told : IsLocalReject dialogue id problem output

-- A component of a message that a dialogue sends is that of an earlier accepted request of the same
-- dialogue, or a Reject that was formed there (own).
abbrev pub ComesFrom : ℕ → Past → ComponentParts → Type 0
ComesFrom dialogue past component = WasRequested dialogue component past ⊎ WasFormed dialogue component past

-- The components that the octets of a Send have are those of the dialogue whose request sent it, and
-- none of them can't be read (own).
pub record SentFromOne (event : Event) (past : Past) (components : List ComponentParts)
    (fault : Option FaultParts) : Type 0 where
  pub dialogue : ℕ
  pub request : Request
  pub is_event : event ≡ Event.on_dialogue dialogue request
  pub each : AllByRecursion (ComesFrom dialogue past) components
  pub no_fault : fault ≡ None

-- A message is sent in a history, with these components before the first that can't be read (own).
pub record SentPortion (past : Past) : Type 0 where
  pub pair : Pair
  pub before : Past
  pub to : Address
  pub bytes : List ℕ
  pub message : Message
  pub components : List ComponentParts
  pub fault : Option FaultParts
  pub stands : StandsIn pair before past
  pub tells : Tells pair.answer (Output.send to bytes)
  pub spelled : SpellsFrame message bytes
  pub read : FirstFault components fault (portion_of message)

-- Where the octets of a Send have components, or what can't be read as such, they come from the dialogue
-- that sends them; an Abort has none (own).
abbrev pub SentFrom : Past → Type 0
SentFrom past =
    (sent : SentPortion past) →
    (portion_of sent.message ≡ []) ⊎ SentFromOne sent.pair.event sent.before sent.components sent.fault

-- Whatever is sent comes from its dialogue, at every legal history (own).
abbrev pub EachIsSentFrom : Type 0
EachIsSentFrom = (h : History) → IsLegal h → SentFrom h.pairs
