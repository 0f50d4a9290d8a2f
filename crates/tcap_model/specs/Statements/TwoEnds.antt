-- What is to be proved of engines that hear one another and nobody else.
use Rattle.std.specs.Prelude.{◌≡◌, ℕ, ℤ, ◌≤◌, true, List, length, Option, Some}
use Rattle.tcap_component.specs.declared.problem.Kind.TheVariants as kind
use Rattle.tcap_component.specs.Component.{CodeParts, BodyParts}
use Rattle.tcap_invocation.specs.declared.class.Class.{Class}
use Rattle.tcap_model.specs.Words.Answer.{Answer, is_accepted}
use Rattle.tcap_model.specs.Invocations.Closings.{closings}
use Rattle.tcap_model.specs.Words.Event.{Event}
use Rattle.tcap_model.specs.Invocations.Invocation.{Invocation, invocation_of, invoked_by}
use Rattle.tcap_model.specs.Statements.FarAnswer.{Happens, Hears, FarAnswer, FarSource}
use Rattle.tcap_model.specs.Statements.Net.{Engine, Trace, side, Places, Net, IsNet}
use Rattle.tcap_model.specs.Invocations.Outcome.{was_sent_in}
use Rattle.tcap_model.specs.Words.Output.{Output, ComponentIndication}
use Rattle.tcap_model.specs.Histories.Pair.{Pair, Past}
use Rattle.tcap_model.specs.Statements.Places.{StandsIn, Tells}
use Rattle.tcap_model.specs.Words.Request.{Request, ComponentRequest}
use Rattle.tcap_model.specs.Invocations.Span.{span}

-- ---- origin

-- Origin: each answer that is told of an invocation comes from an earlier accepted request of the far
-- user, for its identifier and with its contents, in a far dialogue whose peer is this one and which keeps
-- an address of this engine; far is the engine at whose addresses the sender of the message is (own).
abbrev pub Origin : Places → Trace → Type 0
Origin places trace = (answer : FarAnswer trace) → FarSource places answer

-- ---- the invocation that is answered

-- The invocation of an answer's number stands before it, and has the answer's dialogue and identifier (own).
pub record IsOfInvocation {trace : Trace} (answer : FarAnswer trace) : Type 0 where
  pub invocation : Invocation
  pub is_found : invocation_of answer.number (side answer.engine answer.before) ≡ Some invocation
  pub is_of_dialogue : invocation.dialogue ≡ answer.dialogue
  pub has_id : invocation.id ≡ answer.id

-- Named: each answer that is told of an invocation names it by its number, its dialogue and its identifier
-- (own).
abbrev pub Named : Trace → Type 0
Named trace = (answer : FarAnswer trace) → IsOfInvocation answer

-- ---- after the Invoke

-- An accepted invoke request stands in a history (own).
pub record AcceptedInvoke (past : Past) : Type 0 where
  pub pair : Pair
  pub before : Past
  pub invocation : Invocation
  pub stands : StandsIn pair before past
  pub makes : invoked_by pair ≡ Some invocation

-- Premise 1: no two accepted invoke requests in the dialogue use one identifier (own).
abbrev pub UsesOnce : Engine → ℕ → Trace → Type 0
UsesOnce engine dialogue trace =
    (one other : AcceptedInvoke (side engine trace)) → one.invocation.dialogue ≡ dialogue →
    other.invocation.dialogue ≡ dialogue →
    one.invocation.id ≡ other.invocation.id → one.invocation.number ≡ other.invocation.number

-- The requests that answer an Invoke: results, errors, and Rejects of the Invoke
-- (Q.771, Component handling).
pub data AnswersInvoke (id : ℤ) : Request → Type 0 where
  a_result_last : (body : Option BodyParts) → AnswersInvoke id
      (Request.component (ComponentRequest.result_last id body))
  a_result_more : (body : Option BodyParts) → AnswersInvoke id
      (Request.component (ComponentRequest.result_more id body))
  an_error : (code : CodeParts) (parameter : Option (List ℕ))
      → AnswersInvoke id (Request.component (ComponentRequest.error_back id code parameter))
  a_general_reject : (code : ℕ) → AnswersInvoke id
      (Request.component (ComponentRequest.u_reject (Some id) (record { kind = kind.General; code = code })))
  an_invoke_reject : (code : ℕ) → AnswersInvoke id
      (Request.component (ComponentRequest.u_reject (Some id) (record { kind = kind.Invoke; code = code })))

-- An Invoke with this identifier was told in this dialogue before (own).
pub record WasInvoked (dialogue : ℕ) (id : ℤ) (past : Past) : Type 0 where
  pub pair : Pair
  pub before : Past
  pub linked : Option ℤ
  pub code : CodeParts
  pub parameter : Option (List ℕ)
  pub stands : StandsIn pair before past
  pub tells : Tells pair.answer (Output.component
      (ComponentIndication.invoked (Some dialogue) id linked code parameter))

-- An accepted request that answers an Invoke stands in a history (own).
pub record AcceptedAnswer (past : Past) : Type 0 where
  pub pair : Pair
  pub before : Past
  pub dialogue : ℕ
  pub id : ℤ
  pub request : Request
  pub stands : StandsIn pair before past
  pub is_event : pair.event ≡ Event.on_dialogue dialogue request
  pub accepted : is_accepted pair.answer ≡ true
  pub answers : AnswersInvoke id request

-- Premise 2: the user of an engine answers only what it was told (own).
abbrev pub AnswersWhatItWasTold : Engine → Trace → Type 0
AnswersWhatItWasTold engine trace =
    (answer : AcceptedAnswer (side engine trace)) → WasInvoked answer.dialogue answer.id answer.before

-- Premise 3: the dialogue was opened here, by a request for a new one (own).
pub record WasOpened (engine : Engine) (dialogue : ℕ) (trace : Trace) : Type 0 where
  pub pair : Pair
  pub before : Past
  pub stands : StandsIn pair before (side engine trace)
  pub is_event : pair.event ≡ Event.new_dialogue
  pub is_answer : pair.answer ≡ Answer.new_dialogue dialogue

-- The Invoke of the invocation of a number was sent: a message took it, and nothing had closed the
-- invocation before (Q.774, Operation Sent).
pub record WasSent (number : ℕ) (past : Past) : Type 0 where
  pub invocation : Invocation
  pub is_invocation : invocation_of number past ≡ Some invocation
  pub is_sent : was_sent_in invocation.class invocation.timeout (span invocation past) ≡ true

-- The three premises, of the dialogue of an engine and of a far one (own).
pub record IsOrderly (engine : Engine) (dialogue : ℕ) (far : Engine) (trace : Trace) : Type 0 where
  pub uses_once : UsesOnce engine dialogue trace
  pub answers_told : AnswersWhatItWasTold far trace
  pub opened : WasOpened engine dialogue trace

-- After the Invoke: every far request that an answer to an invocation may come from was made after the
-- invocation's Invoke was sent (own).
abbrev pub AfterInvoke : Places → Trace → Type 0
AfterInvoke places trace =
    (answer : FarAnswer trace) → (source : FarSource places answer) →
    IsOrderly answer.engine answer.dialogue source.far trace → WasSent answer.number (side answer.engine source.before)

-- ---- once, and operations

-- Once: of the possibly many answers at most one closes an invocation (own).
abbrev pub Once : Trace → Type 0
Once trace = (engine : Engine) (number : ℕ) → length (closings number (side engine trace)) ≤ 1

-- An accepted invoke with this identifier, linked identifier, code and parameter, whose Invoke was sent
-- (own).
pub record WasAsked (id : ℤ) (linked : Option ℤ) (code : CodeParts) (parameter : Option (List ℕ)) (past : Past) : Type 0
  where
    pub pair : Pair
    pub before : Past
    pub dialogue : ℕ
    pub class : Class
    pub timeout : ℕ
    pub number : ℕ
    pub stands : StandsIn pair before past
    pub is_event : pair.event ≡ Event.on_dialogue dialogue
        (Request.component (ComponentRequest.invoke id class code parameter linked timeout))
    pub is_answer : pair.answer ≡ Answer.number number
    pub was_sent : WasSent number past

-- An engine tells an Invoke (own).
pub record ToldInvoke (engine : Engine) (dialogue : Option ℕ) (trace : Trace) : Type 0 where
  pub pair : Pair
  pub before : Trace
  pub id : ℤ
  pub linked : Option ℤ
  pub code : CodeParts
  pub parameter : Option (List ℕ)
  pub happens : Happens engine pair before trace
  pub tells : Tells pair.answer (Output.component (ComponentIndication.invoked dialogue id linked code parameter))

-- An Invoke was asked for by the user of the engine that an event hears (own).
pub record WasAskedFar (places : Places) (event : Event) (id : ℤ) (linked : Option ℤ) (code : CodeParts)
    (parameter : Option (List ℕ)) (trace : Trace) : Type 0 where
  pub far : Engine
  pub hears : Hears places far event
  pub was_asked : WasAsked id linked code parameter (side far trace)

-- Operations: each Invoke that one user is told was asked for by that of the engine at whose addresses the
-- sender of the message is, accepted and sent before (own).
abbrev pub Operations : Places → Trace → Type 0
Operations places trace =
    (engine : Engine) (dialogue : Option ℕ) (told : ToldInvoke engine dialogue trace) →
    WasAskedFar places told.pair.event told.id told.linked told.code told.parameter told.before

-- ---- the statement

-- What the users at both ends may rely on (own).
pub record TwoEnds (places : Places) (trace : Trace) : Type 0 where
  pub origin : Origin places trace
  pub named : Named trace
  pub after_invoke : AfterInvoke places trace
  pub once : Once trace
  pub operations : Operations places trace

-- It holds of all that engines may do that hear one another and nobody else (own).
abbrev pub EachIsTwoEnded : Type 0
EachIsTwoEnded = (net : Net) → IsNet net → TwoEnds net.places net.trace
