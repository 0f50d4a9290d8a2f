-- The problems that have a name, and their codes (Q.773, Problem).
use Rattle.std.specs.Prelude.{ℕ}

-- The general problems (Q.773, General Problem).
pub data GeneralProblem : Type 0 where
  unrecognized_component mistyped_component badly_structured_component : GeneralProblem

-- Their codes (Q.773, General Problem).
abbrev pub general_code : GeneralProblem → ℕ
general_code unrecognized_component = 0
general_code mistyped_component = 1
general_code badly_structured_component = 2

-- The invoke problems (Q.773, Invoke Problem).
pub data InvokeProblem : Type 0 where
  duplicate_invoke_id unrecognized_operation mistyped_parameter resource_limitation initiating_release unrecognized_linked_id linked_response_unexpected unexpected_linked_operation : InvokeProblem

-- Their codes (Q.773, Invoke Problem).
abbrev pub invoke_code : InvokeProblem → ℕ
invoke_code duplicate_invoke_id = 0
invoke_code unrecognized_operation = 1
invoke_code mistyped_parameter = 2
invoke_code resource_limitation = 3
invoke_code initiating_release = 4
invoke_code unrecognized_linked_id = 5
invoke_code linked_response_unexpected = 6
invoke_code unexpected_linked_operation = 7

-- The return result problems (Q.773, Return Result Problem).
pub data ReturnResultProblem : Type 0 where
  unrecognized_invoke_id return_result_unexpected mistyped_parameter : ReturnResultProblem

-- Their codes (Q.773, Return Result Problem).
abbrev pub return_result_code : ReturnResultProblem → ℕ
return_result_code ReturnResultProblem.unrecognized_invoke_id = 0
return_result_code ReturnResultProblem.return_result_unexpected = 1
return_result_code ReturnResultProblem.mistyped_parameter = 2

-- The return error problems (Q.773, Return Error Problem).
pub data ReturnErrorProblem : Type 0 where
  unrecognized_invoke_id return_error_unexpected unrecognized_error unexpected_error mistyped_parameter : ReturnErrorProblem

-- Their codes (Q.773, Return Error Problem).
abbrev pub return_error_code : ReturnErrorProblem → ℕ
return_error_code ReturnErrorProblem.unrecognized_invoke_id = 0
return_error_code ReturnErrorProblem.return_error_unexpected = 1
return_error_code ReturnErrorProblem.unrecognized_error = 2
return_error_code ReturnErrorProblem.unexpected_error = 3
return_error_code ReturnErrorProblem.mistyped_parameter = 4
