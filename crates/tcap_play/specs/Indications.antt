-- Indications by the parts of an output, as a contract sees these.
use Rattle.std.specs.Prelude.{ℕ, ℤ, Option, option_copied}
use Rattle.std.specs.Option.{option_map}
use Rattle.ber_core.specs.Place.{Slice}
use Rattle.tcap_component.specs.Views.{body_parts, code_parts, problem_parts}
use Rattle.tcap_component.specs.declared.component.Body.{Body}
use Rattle.tcap_component.specs.declared.component.Code.{Code}
use Rattle.tcap_component.specs.declared.problem.Problem.{Problem}
use Rattle.tcap_model.specs.Words.Output.{Closing, ComponentIndication}
use Rattle.tcap_primitives.specs.OutputViews.{rejector}
use Rattle.tcap_primitives.specs.declared.output.By.{By}

-- That an error closes an invocation (own).
abbrev pub error_closing : Code → Option Slice → Closing
error_closing code parameter = Closing.error_back (code_parts code) (option_copied parameter)

-- An Invoke (own).
abbrev pub invoked_indication : Option ℕ → ℤ → Option ℤ → Code → Option Slice → ComponentIndication
invoked_indication dialogue id linked code parameter =
    ComponentIndication.invoked dialogue id linked (code_parts code) (option_copied parameter)

-- A part of a result (own).
abbrev pub more_indication : ℕ → ℕ → ℤ → Option Body → ComponentIndication
more_indication dialogue number id body = ComponentIndication.result_more dialogue number id (option_map body_parts body)

-- A Reject that closes no invocation (own).
abbrev pub reject_indication : Option ℕ → Option ℤ → Problem → By → ComponentIndication
reject_indication dialogue id problem by = ComponentIndication.remote_reject dialogue id (problem_parts problem) (rejector by)
