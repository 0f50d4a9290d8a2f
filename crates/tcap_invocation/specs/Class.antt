-- The four operation classes, and what comes of an answer to an invocation of each.
use Rattle.std.specs.Prelude.{Bool, true, false}
use Rattle.tcap_component.specs.declared.problem.Kind.{Kind}
use Rattle.tcap_component.specs.declared.problem.Kind.TheVariants as kind
use Rattle.tcap_invocation.specs.declared.class.Class.{Class}
use Rattle.tcap_invocation.specs.declared.class.Class.TheVariants.{One, Two, Three, Four}

-- Classes 1 and 3 report success, by a Return Result (Q.771, Operation classes).
abbrev pub reports_success : Class → Bool
reports_success One = true
reports_success Two = false
reports_success Three = true
reports_success Four = false

-- Classes 1 and 2 report failure, by a Return Error (Q.771, Operation classes).
abbrev pub reports_failure : Class → Bool
reports_failure One = true
reports_failure Two = true
reports_failure Three = false
reports_failure Four = false

-- A component that answers an Invoke: a Return Result Last or Not Last, a Return Error, or a Reject
-- with its kind of problem (Q.773, Component portion).
pub data Received : Type 0 where
  return_result_last return_result_not_last return_error : Received
  reject : Kind → Received

-- A Return Result, by whether it is the last (Q.773, Component portion).
abbrev pub return_result : Bool → Received
return_result true = return_result_last
return_result false = return_result_not_last

-- What comes of an answer to an invocation that is Sent (Q.774, Component sublayer procedures).
pub data Consequence : Type 0 where
  -- TC-RESULT-L: the invocation is closed, and its identifier waits for a Reject of the result
  result_last : Consequence
  -- TC-RESULT-NL: the invocation stays Sent
  result_more : Consequence
  -- TC-U-ERROR: the invocation is closed, and its identifier waits for a Reject of the error
  error_back : Consequence
  -- TC-L-REJECT, Return Result problem 1: a result that the class doesn't have closes the invocation
  rejected_result : Consequence
  -- TC-L-REJECT, Return Error problem 1: an error that the class doesn't have closes the invocation
  rejected_error : Consequence
  -- TC-U-REJECT or TC-R-REJECT of the Invoke: the invocation is closed
  rejected : Consequence
  -- TC-U-REJECT or TC-R-REJECT of an answer that was sent from here: no invocation is closed
  not_of_the_invoke : Consequence

-- What comes of an answer, by the operation class of the invocation that is Sent
-- (Q.774, Component sublayer procedures).
abbrev pub class_rule : Class → Received → Consequence
class_rule One return_result_last = result_last
class_rule Two return_result_last = rejected_result
class_rule Three return_result_last = result_last
class_rule Four return_result_last = rejected_result
class_rule One return_result_not_last = result_more
class_rule Two return_result_not_last = rejected_result
class_rule Three return_result_not_last = result_more
class_rule Four return_result_not_last = rejected_result
class_rule One return_error = error_back
class_rule Two return_error = error_back
class_rule Three return_error = rejected_error
class_rule Four return_error = rejected_error
class_rule class (reject kind.General) = rejected
class_rule class (reject kind.Invoke) = rejected
class_rule class (reject kind.Result) = not_of_the_invoke
class_rule class (reject kind.Error) = not_of_the_invoke
