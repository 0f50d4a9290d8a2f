-- What is to be proved of every legal history: each component that is submitted is sent once, and in order.
use Rattle.std.specs.Prelude.{◌≡◌, ℕ, ◌==◌, true, false, List, [], ◌∷◌, ◌++◌, map, flat_map, None, if◌then◌else◌}
use Rattle.tcap_pdu.specs.FrameSpelling.{Message, SpellsFrame}
use Rattle.tcap_component.specs.Component.{ComponentParts}
use Rattle.tcap_component.specs.ComponentList.{FirstFault}
use Rattle.tcap_component.specs.Written.{written_component}
use Rattle.tcap_model.specs.Words.Address.{Address}
use Rattle.tcap_model.specs.Words.Answer.{Answer}
use Rattle.tcap_model.specs.Words.Event.{Event}
use Rattle.tcap_model.specs.Histories.History.{History}
use Rattle.tcap_model.specs.Replies.Legal.{IsLegal}
use Rattle.tcap_model.specs.Words.Output.{Output}
use Rattle.tcap_model.specs.Histories.Pair.{Pair, Past, gathered}
use Rattle.tcap_model.specs.Replies.Queue.{queue}
use Rattle.tcap_model.specs.Procedures.QueueRules.{Queued}
use Rattle.tcap_model.specs.Statements.Places.{StandsIn, Tells}
use Rattle.tcap_model.specs.Statements.Submitted.{Submitted, is_sending, unsent, submitted}
use Rattle.tcap_model.specs.Statements.ComponentPortion.{portion_of}

-- ---- the octets that are sent

-- The octets of a Send (own).
abbrev pub octets_of : Output → List (List ℕ)
octets_of (Output.send to bytes) = bytes ∷ []
octets_of (Output.dialogue indication) = []
octets_of (Output.component indication) = []
octets_of (Output.dropped why) = []

-- The octets of the Sends in an answer, in order (own).
abbrev pub octets_in : Answer → List (List ℕ)
octets_in (Answer.new_dialogue dialogue) = []
octets_in (Answer.number number) = []
octets_in Answer.done = []
octets_in (Answer.given_up number) = []
octets_in (Answer.outputs outputs) = flat_map octets_of outputs
octets_in (Answer.refused fault) = []

-- The octets of what an event sends, if it is a request on the dialogue (own).
abbrev pub octets_on : ℕ → Event → Answer → List (List ℕ)
octets_on dialogue Event.new_dialogue answer = []
octets_on dialogue (Event.on_dialogue named request) answer = if named == dialogue then octets_in answer else []
octets_on dialogue (Event.received from bytes) answer = []
octets_on dialogue (Event.moment now) answer = []

-- The octets of all Sends of a dialogue, in order of time: those that answer requests on it (own).
abbrev pub octets_sent : ℕ → Past → List (List ℕ)
octets_sent dialogue past = gathered (λ pair before. octets_on dialogue pair.event pair.answer) past

-- ---- their components

-- Octets are a message with these components, and all of its component portion can be read
-- (Q.773, Component portion).
pub record HasComponents (bytes : List ℕ) (components : List ComponentParts) : Type 0 where
  pub message : Message
  pub spelled : SpellsFrame message bytes
  pub read : FirstFault components None (portion_of message)

-- Messages have these components, those of one after those of the one before (own).
abbrev pub HaveComponents : List (List ℕ) → List ComponentParts → Type 0
HaveComponents [] components = components ≡ []
HaveComponents (bytes ∷ messages) components =
    (first : List ComponentParts) × (others : List ComponentParts)
    × HasComponents bytes first × HaveComponents messages others × (components ≡ first ++ others)

-- ---- the statement

-- The components of all that was submitted for a dialogue till now, without the Invokes that were given up
-- before a request sent them (own).
abbrev pub components_submitted : ℕ → Past → List ComponentParts
components_submitted dialogue past = map (λ (s : Submitted). s.component) (submitted dialogue [] past)

-- No request on any dialogue that sends components (own).
abbrev pub SendsNone : Pair → Type 0
SendsNone pair = (dialogue : ℕ) → is_sending dialogue pair ≡ false

-- Up to each accepted request that sends components, what a dialogue has sent has exactly the components
-- that were submitted for it before, each once and in order. Nothing else that is sent has components
-- (own).
pub record SentInOrder (past : Past) : Type 0 where
  pub in_order : (dialogue : ℕ) (pair : Pair) (before : Past) →
      StandsIn pair before past → is_sending dialogue pair ≡ true →
      HaveComponents (octets_sent dialogue (pair ∷ before)) (components_submitted dialogue before)
  pub no_others : (pair : Pair) (before : Past) (to : Address) (bytes : List ℕ) →
      StandsIn pair before past → SendsNone pair → Tells pair.answer (Output.send to bytes) → HasComponents bytes []

-- Each component is sent once and in order, at every legal history (own).
abbrev pub EachIsSentInOrder : Type 0
EachIsSentInOrder = (h : History) → IsLegal h → SentInOrder h.pairs

-- What waits in the queue of a dialogue is what was submitted for it and isn't sent, in order: each component
-- by its octets (own).
abbrev pub QueueIsUnsent : Past → Type 0
QueueIsUnsent past =
    (dialogue : ℕ) →
    map (λ (q : Queued). q.octets) (queue dialogue past)
    ≡ map (λ (s : Submitted). written_component s.component) (unsent dialogue [] past)

-- Each queue is that, at every legal history (own).
abbrev pub EachQueueIsUnsent : Type 0
EachQueueIsUnsent = (h : History) → IsLegal h → QueueIsUnsent h.pairs
