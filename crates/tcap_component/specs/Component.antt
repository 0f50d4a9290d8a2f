-- The five components of the component sublayer, by their octets (Q.773, Component portion).
use Rattle.std.specs.Prelude.{◌≡◌, ℕ, ℤ, List, [], ◌∷◌, Option, Some, None, FitsSigned}
use Rattle.std.specs.Option.{option_map}
use Rattle.std.specs.Int.{w8, w32}
use Rattle.ber_core.specs.Element.{Parts, IsElement, depth_limit}
use Rattle.ber_core.specs.Integer.{octet_of, integer_octets}
use Rattle.ber_core.specs.ObjectIdentifier.{IsObjectIdentifier}
use Rattle.ber_core.specs.Sequence.{Field, SpellsSequence}
use Rattle.ber_core.specs.Sequence.Field.{must, may, any}
use Rattle.tcap_component.specs.Problem.{ProblemParts, IsProblem, problem_tag}

-- The code of an operation or of an error: local, a number, or global, an object identifier by its
-- contents octets (Q.773, Operation Code; Q.773, Error Code).
pub data CodeParts : Type 0 where
  local : (number : ℤ) → CodeParts
  global : (octets : List ℕ) → CodeParts

-- What a result holds: the code of the operation, and a parameter by its octets
-- (Q.773, Return Result component).
pub record BodyParts : Type 0 where
  pub code : CodeParts
  pub parameter : Option (List ℕ)

-- The components, with their fields in order (Q.773, Component portion).
pub data ComponentParts : Type 0 where
  invoke : (id : ℤ) (linked : Option ℤ) (code : CodeParts) (parameter : Option (List ℕ)) → ComponentParts
  result_last : (id : ℤ) (body : Option BodyParts) → ComponentParts
  error_back : (id : ℤ) (code : CodeParts) (parameter : Option (List ℕ)) → ComponentParts
  reject_back : (id : Option ℤ) (problem : ProblemParts) → ComponentParts
  result_more : (id : ℤ) (body : Option BodyParts) → ComponentParts

-- The tag of a component (Q.773, Component Type Tag).
abbrev pub component_tag : ComponentParts → ℕ
component_tag (invoke id linked code parameter) = 0xa1
component_tag (result_last id body) = 0xa2
component_tag (error_back id code parameter) = 0xa3
component_tag (reject_back id problem) = 0xa4
component_tag (result_more id body) = 0xa7

-- ---- the listed sequences

-- An identifier is one octet in two's complement (Q.773, Invoke ID).
abbrev pub identifier : ℤ → List ℕ
identifier id = octet_of id ∷ []

-- A code: 02 with an integer, or 06 with an object identifier
-- (Q.773, Operation Code; Q.773, Error Code).
abbrev pub code_field : CodeParts → Field
code_field (local number) = must 0x02 (integer_octets number)
code_field (global octets) = must 0x06 octets

-- A Reject's identifier: 02 with the identifier, or 05 with nothing (Q.773, Reject component).
abbrev pub rejected_field : Option ℤ → Field
rejected_field (Some id) = must 0x02 (identifier id)
rejected_field None = must 0x05 []

-- What stands in the 30 of a result: code, [parameter]
-- (Q.773, Return Result component; that the parameter may be missing is own).
abbrev pub body_fields : BodyParts → List Field
body_fields body = code_field body.code ∷ any body.parameter ∷ []

-- The contents in order, where `inner` is what stands in the 30 of a result:
-- Invoke: 02 identifier, [80 linked identifier], code, [parameter];
-- Return Result: 02 identifier, [30];
-- Return Error: 02 identifier, code, [parameter];
-- Reject: 02 identifier or 05, then 80, 81, 82 or 83 with the problem's code
-- (Q.773, Component portion; that only a Reject may have 05, and that a linked identifier is never 81, is own).
abbrev pub fields : ComponentParts → Option (List ℕ) → List Field
fields (invoke id linked code parameter) inner = must 0x02 (identifier id) ∷ may 0x80 (option_map identifier linked) ∷ code_field code ∷ any parameter ∷ []
fields (result_last id body) inner = must 0x02 (identifier id) ∷ may 0x30 inner ∷ []
fields (error_back id code parameter) inner = must 0x02 (identifier id) ∷ code_field code ∷ any parameter ∷ []
fields (reject_back id problem) inner = rejected_field id ∷ must (problem_tag problem.kind) (problem.code ∷ []) ∷ []
fields (result_more id body) inner = must 0x02 (identifier id) ∷ may 0x30 inner ∷ []

-- The body of a result; the other components have none (Q.773, Return Result component).
abbrev pub body_of : ComponentParts → Option BodyParts
body_of (invoke id linked code parameter) = None
body_of (result_last id body) = body
body_of (error_back id code parameter) = None
body_of (reject_back id problem) = None
body_of (result_more id body) = body

-- There is a 30 exactly where there is a body, and it holds that body
-- (Q.773, Return Result component).
abbrev pub HoldsBody : Option BodyParts → Option (List ℕ) → Type 0
HoldsBody None None = Unit {0}
HoldsBody None (Some inner) = ⊥
HoldsBody (Some body) None = ⊥
HoldsBody (Some body) (Some inner) = SpellsSequence (body_fields body) inner

-- ---- the values

-- An identifier is a number from -128 to 127 (Q.773, Invoke ID; in a component other than an Invoke, and of
-- a linked one, the range is own).
abbrev pub IsIdentifier : ℤ → Type 0
IsIdentifier id = FitsSigned w8 id

-- Every identifier is one, where it is there (Q.773, Invoke ID).
abbrev pub IsIdentifierIfAny : Option ℤ → Type 0
IsIdentifierIfAny None = Unit {0}
IsIdentifierIfAny (Some id) = IsIdentifier id

-- A local code has one to four octets, a global one is an object identifier
-- (Q.773, Operation Code; Q.773, Error Code; the limits are own).
abbrev pub IsCode : CodeParts → Type 0
IsCode (local number) = FitsSigned w32 number
IsCode (global octets) = IsObjectIdentifier octets

-- The code of a body is one (Q.773, Return Result component).
abbrev pub IsBody : Option BodyParts → Type 0
IsBody None = Unit {0}
IsBody (Some body) = IsCode body.code

-- The numbers of a component are those that its octets can be (Q.773, Component portion).
abbrev pub InRange : ComponentParts → Type 0
InRange (invoke id linked code parameter) = IsIdentifier id × IsIdentifierIfAny linked × IsCode code
InRange (result_last id body) = IsIdentifier id × IsBody body
InRange (error_back id code parameter) = IsIdentifier id × IsCode code
InRange (reject_back id problem) = IsIdentifierIfAny id × IsProblem problem
InRange (result_more id body) = IsIdentifier id × IsBody body

-- ---- the component

-- The element is this component: it has the tag, its content is the listed sequence, and the fields
-- are the stated parts (Q.773, Component portion).
pub record IsComponent (c : ComponentParts) (e : Parts) : Type 0 where
  pub inner : Option (List ℕ)
  pub is_tag : e.tag ≡ component_tag c ∷ []
  pub in_sequence : SpellsSequence (fields c inner) e.content
  pub holds_body : HoldsBody (body_of c) inner
  pub in_range : InRange c

-- The bytes are one element, and it is this component (Q.773, Component portion).
pub record SpellsComponent (c : ComponentParts) (bytes : List ℕ) : Type 0 where
  pub element : Parts
  pub is_element : IsElement depth_limit element
  pub is_whole : bytes ≡ element.whole
  pub is_component : IsComponent c element
