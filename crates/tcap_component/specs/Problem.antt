-- A problem: what a Reject tells of a component (Q.773, Problem).
use Rattle.std.specs.Prelude.{ℕ, ◌≤◌, Bool, nat_le, ◌==◌}
use Rattle.tcap_component.specs.declared.problem.Kind.{Kind}
use Rattle.tcap_component.specs.declared.problem.Kind.TheVariants as kind

-- A problem's kind and its code (Q.773, Problem).
pub record ProblemParts : Type 0 where
  pub kind : Kind
  pub code : ℕ

-- The greatest code of a problem that is taken (own).
abbrev pub problem_limit : ℕ
problem_limit = 0x7f

-- The code is at most 7F; those without a name are kept as numbers (own).
abbrev pub IsProblem : ProblemParts → Type 0
IsProblem p = p.code ≤ problem_limit

-- The tag of a problem: 80 general, 81 invoke, 82 return result, 83 return error
-- (Q.773, Problem).
abbrev pub problem_tag : Kind → ℕ
problem_tag kind.General = 0x80
problem_tag kind.Invoke = 0x81
problem_tag kind.Result = 0x82
problem_tag kind.Error = 0x83

-- A problem of the component as such (Q.773, General Problem).
abbrev pub general_problem : ℕ → ProblemParts
general_problem code = record { kind = kind.General; code = code }

-- The invoke problem "unrecognized linked identifier" (Q.773, Invoke Problem).
abbrev pub unrecognized_linked_id : ProblemParts
unrecognized_linked_id = record { kind = kind.Invoke; code = 5 }

-- The return result problem "unrecognized invoke identifier" (Q.773, Return Result Problem).
abbrev pub unrecognized_result : ProblemParts
unrecognized_result = record { kind = kind.Result; code = 0 }

-- The return result problem "return result unexpected" (Q.773, Return Result Problem).
abbrev pub unexpected_result : ProblemParts
unexpected_result = record { kind = kind.Result; code = 1 }

-- The return error problem "unrecognized invoke identifier" (Q.773, Return Error Problem).
abbrev pub unrecognized_error : ProblemParts
unrecognized_error = record { kind = kind.Error; code = 0 }

-- The return error problem "return error unexpected" (Q.773, Return Error Problem).
abbrev pub unexpected_error : ProblemParts
unexpected_error = record { kind = kind.Error; code = 1 }

-- Whether a problem is one that the component sublayer tells: general 0 to 2, invoke 5, return
-- result 0 and 1, return error 0 and 1 (own).
abbrev pub is_by_provider : ProblemParts → Bool
is_by_provider p = told_by p.kind p.code
  where
    told_by : Kind → ℕ → Bool
    told_by kind.General code = nat_le code 2
    told_by kind.Invoke code = code == 5
    told_by kind.Result code = nat_le code 1
    told_by kind.Error code = nat_le code 1
