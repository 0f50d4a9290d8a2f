-- The words of a component.
use Rattle.std.specs.Prelude.{ℕ, ℤ, List, ◌++◌, codes, Option, Some, None, Result, Ok, Err}
use Rattle.std.specs.Fmt.{decimal, signed_decimal}
use Rattle.hex.specs.Hex.{encode_lower}
use Rattle.tcap_component.specs.declared.problem.Kind.{Kind}
use Rattle.tcap_component.specs.declared.problem.Kind.TheVariants as kind
use Rattle.tcap_component.specs.ComponentFault.{FaultParts}
use Rattle.tcap_component.specs.Problem.{ProblemParts}
use Rattle.tcap_component.specs.Component.{CodeParts, BodyParts, ComponentParts}
use Rattle.tcap_component.specs.Component.CodeParts.{local, global}
use Rattle.tcap_component.specs.Component.ComponentParts.{invoke, result_last, error_back, reject_back, result_more}
use Rattle.tcap_words.specs.Text.{optional_octets_words}

-- An identifier, or `-` where there is none (own).
abbrev pub identifier_words : Option ℤ → List ℕ
identifier_words None = codes "-"
identifier_words (Some id) = signed_decimal id

-- A code (own).
abbrev pub code_words : CodeParts → List ℕ
code_words (local number) = codes "local " ++ signed_decimal number
code_words (global octets) = codes "global " ++ encode_lower octets

-- The words of a code and a parameter, behind the name of the code (own).
abbrev pub coded_words : CodeParts → Option (List ℕ) → List ℕ
coded_words code parameter = code_words code ++ (codes " param " ++ optional_octets_words parameter)

-- The words of a result's body, `-` twice where there is none (own).
abbrev pub body_words : Option BodyParts → List ℕ
body_words None = codes "- param -"
body_words (Some body) = coded_words body.code body.parameter

-- The kind of a problem (own).
abbrev pub kind_words : Kind → List ℕ
kind_words kind.General = codes "general"
kind_words kind.Invoke = codes "invoke"
kind_words kind.Result = codes "result"
kind_words kind.Error = codes "error"

-- A problem: its kind and its code (own).
abbrev pub problem_words : ProblemParts → List ℕ
problem_words problem = kind_words problem.kind ++ (codes " " ++ decimal problem.code)

-- The words of a component (own).
abbrev pub component_words : ComponentParts → List ℕ
component_words (invoke id linked code parameter) = codes "invoke " ++ (signed_decimal id ++ (codes " linked " ++ (identifier_words linked ++ (codes " op " ++ coded_words code parameter))))
component_words (result_last id body) = codes "result last " ++ (signed_decimal id ++ (codes " op " ++ body_words body))
component_words (result_more id body) = codes "result more " ++ (signed_decimal id ++ (codes " op " ++ body_words body))
component_words (error_back id code parameter) = codes "error " ++ (signed_decimal id ++ (codes " code " ++ coded_words code parameter))
component_words (reject_back id problem) = codes "reject " ++ (identifier_words id ++ (codes " " ++ problem_words problem))

-- The words of a faulty component (own).
abbrev pub fault_words : FaultParts → List ℕ
fault_words fault = codes "faulty " ++ (identifier_words fault.id ++ (codes " " ++ problem_words fault.problem))

-- The words of a component or of a fault (own).
abbrev pub item_words : Result ComponentParts FaultParts → List ℕ
item_words (Ok component) = component_words component
item_words (Err fault) = fault_words fault
