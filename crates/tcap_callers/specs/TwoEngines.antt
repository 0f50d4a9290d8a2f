-- What two callers say of two engines that hear one another.
use Rattle.std.specs.Prelude.{◌≡◌, ◌≢◌, ℕ, zero, suc, ℤ, List, [], ◌∷◌, ◌++◌, Option, IsTrue}
use Rattle.std.specs.List.{list_any}
use Rattle.tcap_component.specs.Component.{BodyParts}
use Rattle.tcap_engine.specs.TwoEnds.{AreCarried, HearOneAnother, IsGiven, OthersStay, net_after}
use Rattle.tcap_model.specs.Statements.FarAnswer.{FarAnswer, FarSource}
use Rattle.tcap_model.specs.Statements.Net.{Engine, IsNet, Net, Places, Trace, answer_sends, is_at, side, was_sent}
use Rattle.tcap_model.specs.Statements.Places.{Tells}
use Rattle.tcap_model.specs.Table.World.{World}
use Rattle.tcap_model.specs.Words.Address.{Address}
use Rattle.tcap_model.specs.Words.Answer.{Answer}
use Rattle.tcap_model.specs.Words.Event.{Event}
use Rattle.tcap_model.specs.Words.Output.{Closing, ComponentIndication, Output}
use Rattle.tcap_model.specs.Words.Request.{ComponentRequest, Request}

-- The first engine is at the address 01, the second at 02, and there is no other (own).
abbrev pub two_places : Places
two_places zero = (1 ∷ []) ∷ []
two_places (suc zero) = (2 ∷ []) ∷ []
two_places (suc (suc other)) = []

-- The first engine, the second, and what stands for each other, which is nowhere (own).
abbrev pub two_worlds : World → World → World → Engine → World
two_worlds one other none zero = one
two_worlds one other none (suc zero) = other
two_worlds one other none (suc (suc more)) = none

-- These octets are sent to this address in one of some answers: to whichever engine is at it (own).
abbrev pub IsSentTo : Address → List ℕ → List Answer → Type 0
IsSentTo to bytes answers =
    (places : Places) (receiver : Engine) → IsTrue (is_at places receiver to) →
    IsTrue (list_any (answer_sends places receiver bytes) answers)

-- All that some answers send to an engine was sent to it by this one (own).
abbrev pub AreSentBy : Places → Engine → Engine → List Answer → Trace → Type 0
AreSentBy places engine receiver answers trace =
    (bytes : List ℕ) → IsTrue (list_any (answer_sends places receiver bytes) answers) →
    IsTrue (was_sent places receiver bytes (side engine trace))

-- Engines hear one another after some more happened: some events came to one of them, and it gave these
-- answers. What they send was sent then, and each of them stands in the list of all (own).
pub record GoneOn (net : Net) (engine : Engine) (answers : List Answer) (engines : Engine → World) : Type 0 where
  pub events : List Event
  pub hear : HearOneAnother (net_after engine events answers net) engines
  pub sent : (receiver : Engine) →
      AreSentBy net.places engine receiver answers (net_after engine events answers net).trace
  pub given : (earlier later : List Answer) (answer : Answer) → answers ≡ earlier ++ answer ∷ later →
      IsGiven engine answer (net_after engine events answers net).trace

-- One of the engines went from this to that with these answers: they hear one another then as before (own).
abbrev pub GoesOnWith : Net → Engine → List Answer → World → World → Type 0
GoesOnWith net engine answers old new =
    (engines after : Engine → World) → HearOneAnother net engines → engines engine ≡ old → after engine ≡ new →
    OthersStay engine engines after → GoneOn net engine answers after

-- An engine was handed these events and gave these answers; whichever it is, and whatever happened to all
-- before, if the events' bytes came from others (own).
abbrev pub GoesOn : List Event → List Answer → World → World → Type 0
GoesOn events answers old new =
    (net : Net) (engine : Engine) → AreCarried net.places engine events net.trace →
    GoesOnWith net engine answers old new

-- An engine that is at the address `to` was handed what another, which is at `from`, sends there in some
-- answers, and gave these: they hear one another then as before (own).
abbrev pub Hears : List Answer → Address → Address → List Answer → World → World → Type 0
Hears sent from to answers old new =
    (net : Net) (sender engine : Engine) → sender ≢ engine → IsTrue (is_at net.places sender from) →
    IsTrue (is_at net.places engine to) → AreSentBy net.places sender engine sent net.trace →
    GoesOnWith net engine answers old new

-- Among some answers is one that tells the result of an invocation (own).
pub record TellsResult (dialogue number : ℕ) (answers : List Answer) : Type 0 where
  pub id : ℤ
  pub body : Option BodyParts
  pub answer : Answer
  pub earlier : List Answer
  pub later : List Answer
  pub is_answers : answers ≡ earlier ++ answer ∷ later
  pub tells : Tells answer (Output.component (ComponentIndication.closed dialogue number id (Closing.result_last body)))

-- The first of two engines that hear one another and nobody else tells the result of this invocation, and
-- it comes from the user of the second: an earlier accepted request for its identifier and with its contents,
-- in a dialogue whose peer is this one and which keeps the first engine's address (own).
pub record ComesBack (dialogue number : ℕ) : Type 0 where
  pub net : Net
  pub body : Option BodyParts
  pub is_net : IsNet net
  pub are_two : net.places ≡ two_places
  pub told : FarAnswer net.trace
  pub is_first : told.engine ≡ 0
  pub is_dialogue : told.dialogue ≡ dialogue
  pub is_number : told.number ≡ number
  pub is_result : told.request ≡ Request.component (ComponentRequest.result_last told.id body)
  pub source : FarSource net.places told
  pub is_second : source.far ≡ 1
