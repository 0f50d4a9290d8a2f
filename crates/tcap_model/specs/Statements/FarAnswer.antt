-- An answer that an engine tells, and the request of another engine's user that it may come from.
use Rattle.std.specs.Prelude.{◌≡◌, ℕ, ℤ, true, List, ◌∷◌, ◌++◌, Option, Some, None, IsTrue}
use Rattle.tcap_component.specs.Problem.{ProblemParts}
use Rattle.tcap_component.specs.Component.{CodeParts, BodyParts}
use Rattle.tcap_model.specs.Words.Address.{Address}
use Rattle.tcap_model.specs.Words.Answer.{is_accepted}
use Rattle.tcap_model.specs.Words.Event.{Event}
use Rattle.tcap_model.specs.Histories.Kept.{kept_address}
use Rattle.tcap_model.specs.Histories.Life.{Life, life}
use Rattle.tcap_model.specs.Words.LocalId.{local_id}
use Rattle.tcap_model.specs.Statements.Net.{Engine, Trace, side, Places, is_at}
use Rattle.tcap_model.specs.Words.Output.{Output, Closing, Rejector, ComponentIndication}
use Rattle.tcap_model.specs.Histories.Pair.{Pair}
use Rattle.tcap_model.specs.Statements.Places.{Tells}
use Rattle.tcap_model.specs.Words.Request.{Request, ComponentRequest}
use Rattle.tcap_model.specs.Words.State.{peer_of}

-- A pair of an engine stands in the list of all, with this before it (own).
pub record Happens (engine : Engine) (pair : Pair) (before trace : Trace) : Type 0 where
  pub later : Trace
  pub is_trace : trace ≡ later ++ record { engine = engine; pair = pair } ∷ before

-- The peer's transaction identifier of a dialogue, once it is known (Q.774, Transaction state machine).
abbrev pub peer_in : Life → Option (List ℕ)
peer_in Life.unborn = None
peer_in (Life.standing state context) = peer_of state
peer_in Life.over = None

-- ---- which request an answer comes from

-- An indication of an answer to the invocation of this number in this dialogue, and the request that
-- the far user makes for it (Q.771, Component handling).
pub data IsAnswer (dialogue number : ℕ) (id : ℤ) : Output → Request → Type 0 where
  a_result_last : (body : Option BodyParts) → IsAnswer dialogue number id
      (Output.component (ComponentIndication.closed dialogue number id (Closing.result_last body)))
      (Request.component (ComponentRequest.result_last id body))
  a_result_more : (body : Option BodyParts) → IsAnswer dialogue number id
      (Output.component (ComponentIndication.result_more dialogue number id body))
      (Request.component (ComponentRequest.result_more id body))
  an_error : (code : CodeParts) (parameter : Option (List ℕ)) → IsAnswer dialogue number id
      (Output.component (ComponentIndication.closed dialogue number id (Closing.error_back code parameter)))
      (Request.component (ComponentRequest.error_back id code parameter))
  a_reject : (problem : ProblemParts) → IsAnswer dialogue number id
      (Output.component (ComponentIndication.closed dialogue number id (Closing.rejected problem Rejector.remote_user)))
      (Request.component (ComponentRequest.u_reject (Some id) problem))

-- A request was accepted by a far engine, in a dialogue whose peer's identifier is the four octets of
-- this dialogue, and which keeps an address of the engine of this one (own).
pub record IsFarRequest (places : Places) (engine : Engine) (dialogue : ℕ) (request : Request) (far : Engine) (pair : Pair)
    (before : Trace) : Type 0 where
  pub far_dialogue : ℕ
  pub is_event : pair.event ≡ Event.on_dialogue far_dialogue request
  pub accepted : is_accepted pair.answer ≡ true
  pub is_peer : peer_in (life far_dialogue (side far before)) ≡ Some (local_id dialogue)
  pub is_kept : IsTrue (is_at places engine (kept_address far_dialogue (side far before)))

-- An event hears an engine: bytes are received from one of its addresses (own).
pub record Hears (places : Places) (far : Engine) (event : Event) : Type 0 where
  pub from : Address
  pub bytes : List ℕ
  pub is_event : event ≡ Event.received from bytes
  pub is_from : IsTrue (is_at places far from)

-- Such a request of the engine that an event hears stands before (own).
pub record ComesFromFar (places : Places) (engine : Engine) (dialogue : ℕ) (request : Request) (event : Event)
    (trace : Trace) : Type 0 where
  pub far : Engine
  pub hears : Hears places far event
  pub pair : Pair
  pub before : Trace
  pub happens : Happens far pair before trace
  pub is_request : IsFarRequest places engine dialogue request far pair before

-- An engine tells an answer to an invocation, for which the far user makes this request (own).
pub record FarAnswer (trace : Trace) : Type 0 where
  pub engine : Engine
  pub pair : Pair
  pub before : Trace
  pub dialogue : ℕ
  pub number : ℕ
  pub id : ℤ
  pub output : Output
  pub request : Request
  pub happens : Happens engine pair before trace
  pub tells : Tells pair.answer output
  pub is_answer : IsAnswer dialogue number id output request

-- An earlier request of the far user that an answer may come from (own).
abbrev pub FarSource : Places → {trace : Trace} → FarAnswer trace → Type 0
FarSource places answer =
    ComesFromFar places answer.engine answer.dialogue answer.request answer.pair.event answer.before
