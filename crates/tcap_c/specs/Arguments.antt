-- What the numbers and octets that C hands in name; none where a number is out of its range.
use Rattle.std.specs.Prelude.{ℕ, ℤ, pos, negsuc, nat_le, nat_lt, List, [], ◌∷◌, Option, Some, None, if◌then◌else◌}
use Rattle.std.specs.Option.{option_map}
use Rattle.std.specs.Ordering.{int_eq}
use Rattle.ber_core.specs.Options.{◌>>=◌}
use Rattle.tcap_component.specs.Component.{CodeParts, BodyParts}
use Rattle.tcap_component.specs.Problem.{ProblemParts, problem_limit}
use Rattle.tcap_invocation.specs.declared.class.Class.{Class}
use Rattle.tcap_invocation.specs.declared.class.Class.TheVariants as class
use Rattle.tcap_model.specs.Words.InRange.{is_identifier}
use Rattle.tcap_model.specs.Words.Request.{AbortReason, ComponentRequest, Ending}
use Rattle.tcap_c.specs.Numbers.{no_id}
use Rattle.tcap_c.specs.ReadingBack.{problem_in}

-- Octets, none where there are none (own).
abbrev pub octets_of : List ℕ → Option (List ℕ)
octets_of [] = None
octets_of (octet ∷ octets) = Some (octet ∷ octets)

-- An invoke identifier, -128 to 127 (Q.773, Invoke ID).
abbrev pub id_of : ℤ → Option ℤ
id_of n = if is_identifier n then Some n else None

-- An invoke identifier, or 256 for none (own).
abbrev pub id_if_any_of : ℤ → Option (Option ℤ)
id_if_any_of n = if int_eq n no_id then Some None else option_map Some (id_of n)

-- An operation class, 1 to 4 (Q.771, Operation classes).
abbrev pub class_of : ℤ → Option Class
class_of n =
    if int_eq n (pos 1) then Some class.One
    else if int_eq n (pos 2) then Some class.Two
    else if int_eq n (pos 3) then Some class.Three
    else if int_eq n (pos 4) then Some class.Four
    else None

-- A code of kind 1 is local, one of kind 2 global (Q.773, Operation Code; the numbers are own).
abbrev pub code_of : ℤ → ℤ → List ℕ → Option CodeParts
code_of kind number octets =
    if int_eq kind (pos 1) then Some (CodeParts.local number)
    else if int_eq kind (pos 2) then Some (CodeParts.global octets)
    else None

-- No body, of kind 0 and without a parameter; or a body by its code and its parameter, if it has one (own).
abbrev pub body_of : ℤ → ℤ → List ℕ → List ℕ → Option (Option BodyParts)
body_of kind number octets parameter =
    if int_eq kind (pos 0) then no_body (octets_of parameter)
    else code_of kind number octets >>= (λ code. Some (Some (record { code = code; parameter = octets_of parameter })))
  where
    no_body : Option (List ℕ) → Option (Option BodyParts)
    no_body None = Some None
    no_body (Some parameter) = None

-- A problem by its number, as an output has it: 256 times its kind, and its code, 0 to 127 (Q.773, Problem; the numbers
-- are own).
abbrev pub problem_of : ℤ → Option ProblemParts
problem_of (negsuc n) = None
problem_of (pos n) = if nat_lt n 1024 then within (problem_in n) else None
  where
    within : ProblemParts → Option ProblemParts
    within p = if nat_le p.code problem_limit then Some p else None

-- How a dialogue ends: 0 with an End, 1 as arranged before (Q.771, Dialogue end; the numbers are own).
abbrev pub ending_of : ℤ → Option Ending
ending_of n =
    if int_eq n (pos 0) then Some Ending.basic
    else if int_eq n (pos 1) then Some Ending.prearranged
    else None

-- Why the user aborts: 0 for a reason of its own, 1 since it doesn't support the context (Q.771, User abort; the
-- numbers are own).
abbrev pub reason_of : ℤ → Option AbortReason
reason_of n =
    if int_eq n (pos 0) then Some AbortReason.by_user
    else if int_eq n (pos 1) then Some AbortReason.not_supported
    else None

-- ---- the requests of component handling

-- TC-INVOKE request (Q.771, Component handling).
abbrev pub invoke_of : ℤ → ℤ → ℤ → ℤ → ℤ → List ℕ → List ℕ → ℕ → Option ComponentRequest
invoke_of id linked class kind number octets parameter timeout =
    id_of id >>= (λ i. id_if_any_of linked >>= (λ l. class_of class >>= (λ k. code_of kind number octets >>= (λ c.
    Some (ComponentRequest.invoke i k c (octets_of parameter) l timeout)))))

-- TC-RESULT-L request (Q.771, Component handling).
abbrev pub result_last_of : ℤ → ℤ → ℤ → List ℕ → List ℕ → Option ComponentRequest
result_last_of id kind number octets parameter =
    id_of id >>= (λ i. body_of kind number octets parameter >>= (λ b. Some (ComponentRequest.result_last i b)))

-- TC-RESULT-NL request (Q.771, Component handling).
abbrev pub result_more_of : ℤ → ℤ → ℤ → List ℕ → List ℕ → Option ComponentRequest
result_more_of id kind number octets parameter =
    id_of id >>= (λ i. body_of kind number octets parameter >>= (λ b. Some (ComponentRequest.result_more i b)))

-- TC-U-ERROR request (Q.771, Component handling).
abbrev pub error_of : ℤ → ℤ → ℤ → List ℕ → List ℕ → Option ComponentRequest
error_of id kind number octets parameter =
    id_of id >>= (λ i. code_of kind number octets >>= (λ c.
    Some (ComponentRequest.error_back i c (octets_of parameter))))

-- TC-U-REJECT request (Q.771, Component handling).
abbrev pub reject_of : ℤ → ℤ → Option ComponentRequest
reject_of id problem =
    id_if_any_of id >>= (λ i. problem_of problem >>= (λ p. Some (ComponentRequest.u_reject i p)))

-- TC-U-CANCEL request (Q.771, Component handling).
abbrev pub cancel_of : ℤ → Option ComponentRequest
cancel_of id = id_of id >>= (λ i. Some (ComponentRequest.u_cancel i))
