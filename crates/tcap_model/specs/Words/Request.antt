-- What a user asks of one dialogue: the request primitives of TC.
use Rattle.std.specs.Prelude.{ℕ, ℤ, List, Option}
use Rattle.tcap_component.specs.Component.{CodeParts, BodyParts}
use Rattle.tcap_component.specs.Problem.{ProblemParts}
use Rattle.tcap_invocation.specs.declared.class.Class.{Class}
use Rattle.tcap_model.specs.Words.Address.{Address}

-- How a dialogue ends: basic, with an End to the peer, or prearranged, with none
-- (Q.771, Dialogue end).
pub data Ending : Type 0 where
  basic : Ending
  prearranged : Ending

-- Why the user aborts: for a reason of its own, or since it doesn't support the application context
-- (Q.771, User abort).
pub data AbortReason : Type 0 where
  by_user : AbortReason
  not_supported : AbortReason

-- The requests of component handling, with their parameters: an invoke identifier, which a Reject may
-- lack; a code, a parameter, and where they are one thing a body; the timeout of an Invoke is in
-- milliseconds (Q.771, Component handling).
pub data ComponentRequest : Type 0 where
  -- TC-INVOKE
  invoke : (id : ℤ) (class : Class) (code : CodeParts) (parameter : Option (List ℕ)) (linked : Option ℤ) (timeout : ℕ)
      → ComponentRequest
  -- TC-RESULT-L
  result_last : (id : ℤ) (body : Option BodyParts) → ComponentRequest
  -- TC-RESULT-NL
  result_more : (id : ℤ) (body : Option BodyParts) → ComponentRequest
  -- TC-U-ERROR
  error_back : (id : ℤ) (code : CodeParts) (parameter : Option (List ℕ)) → ComponentRequest
  -- TC-U-REJECT
  u_reject : (id : Option ℤ) (problem : ProblemParts) → ComponentRequest
  -- TC-U-CANCEL
  u_cancel : (id : ℤ) → ComponentRequest

-- The requests of dialogue handling, with their parameters: the destination address where none is kept
-- yet; an application context is given by the contents octets of its object identifier; user information
-- is a list of EXTERNALs, empty where there is none (Q.771, Dialogue handling).
pub data DialogueRequest : Type 0 where
  -- TC-UNI
  uni : (to : Address) (context : Option (List ℕ)) (info : List ℕ) → DialogueRequest
  -- TC-BEGIN
  begin : (to : Address) (context : Option (List ℕ)) (info : List ℕ) → DialogueRequest
  -- TC-CONTINUE
  go_on : (context : Option (List ℕ)) (info : List ℕ) → DialogueRequest
  -- TC-END
  finish : (ending : Ending) (context : Option (List ℕ)) (info : List ℕ) → DialogueRequest
  -- TC-U-ABORT
  u_abort : (why : AbortReason) (info : List ℕ) → DialogueRequest

-- The requests on one dialogue (Q.771, Component handling; Q.771, Dialogue handling).
pub data Request : Type 0 where
  component : (asked : ComponentRequest) → Request
  dialogue : (asked : DialogueRequest) → Request
