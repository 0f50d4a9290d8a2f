-- Of a problem that was received, what it rejects and who told it.
use Rattle.std.specs.Prelude.{Bool, true, false, if◌then◌else◌}
use Rattle.tcap_component.specs.declared.problem.Kind.{Kind}
use Rattle.tcap_component.specs.declared.problem.Kind.TheVariants as kind
use Rattle.tcap_component.specs.Problem.{ProblemParts, is_by_provider}
use Rattle.tcap_model.specs.Words.Output.{Rejector}

-- A Reject with a General or Invoke problem rejects the Invoke; one with a Return Result or Return
-- Error problem rejects an answer (Q.773, Problem).
abbrev pub is_of_answer : Kind → Bool
is_of_answer kind.General = false
is_of_answer kind.Invoke = false
is_of_answer kind.Result = true
is_of_answer kind.Error = true

-- Who rejects, by the problem: the peer's component sublayer or the peer's user (own).
abbrev pub remote_rejector : ProblemParts → Rejector
remote_rejector problem = if is_by_provider problem then Rejector.remote_provider else Rejector.remote_user
