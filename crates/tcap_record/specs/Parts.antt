-- The parts of events as fields: numbers, octet strings, codes, and what an octet stands for.
use Rattle.std.specs.Prelude.{ℕ, ℤ, Bool, true, false, List, [], ◌∷◌, ◌++◌, Option, Some, None, Ok, nat_le, if◌then◌else◌}
use Rattle.std.specs.Int.{w8, w32, w64, to_be_bytes, cast_signed, cast_unsigned}
use Rattle.tcap_component.specs.declared.problem.Kind.{Kind}
use Rattle.tcap_component.specs.declared.problem.Kind.TheVariants as problem_kind
use Rattle.tcap_component.specs.Problem.{ProblemParts, problem_limit}
use Rattle.tcap_component.specs.Component.{CodeParts, BodyParts}
use Rattle.tcap_component.specs.Component.CodeParts.{local, global}
use Rattle.tcap_invocation.specs.declared.class.Class.{Class}
use Rattle.tcap_invocation.specs.declared.class.Class.TheVariants.{One, Two, Three, Four}
use Rattle.tcap_model.specs.Words.Request.{Ending, AbortReason}
use Rattle.tcap_record.specs.Fields.{Reading, number_at, listed, named_at, counted, counted_at, pair_at, as_at, choice_at}

-- ---- numbers

-- A number below 2^32: four octets, the most significant first (own).
abbrev pub short : ℕ → List ℕ
short number = to_be_bytes w32 number

-- A number below 2^32, read (own).
abbrev pub short_at : List ℕ → Reading ℕ
short_at octets = number_at w32 octets

-- A number below 2^64: eight octets, the most significant first (own).
abbrev pub long : ℕ → List ℕ
long number = to_be_bytes w64 number

-- A number below 2^64, read (own).
abbrev pub long_at : List ℕ → Reading ℕ
long_at octets = number_at w64 octets

-- A number below 256: one octet (own).
abbrev pub octet : ℕ → List ℕ
octet number = number ∷ []

-- A number below 256, read (own).
abbrev pub octet_at : List ℕ → Reading ℕ
octet_at octets = named_at Some octets

-- An invoke identifier: one octet in two's complement (own).
abbrev pub identifier : ℤ → List ℕ
identifier id = cast_unsigned w8 id ∷ []

-- The identifier that an octet is (own).
abbrev pub identifier_named : ℕ → Option ℤ
identifier_named octet = Some (cast_signed w8 octet)

-- An invoke identifier, read (own).
abbrev pub identifier_at : List ℕ → Reading ℤ
identifier_at octets = named_at identifier_named octets

-- ---- octets

-- Octets, fewer than 2^32, behind how many they are (own).
abbrev pub octet_string : List ℕ → List ℕ
octet_string octets = counted short octets

-- Octets behind how many they are, read (own).
abbrev pub octet_string_at : List ℕ → Reading (List ℕ)
octet_string_at octets = counted_at short_at octets

-- An address, at most 255 octets, behind how many they are (own).
abbrev pub address : List ℕ → List ℕ
address octets = counted octet octets

-- An address, read (own).
abbrev pub address_at : List ℕ → Reading (List ℕ)
address_at octets = counted_at octet_at octets

-- ---- what may be missing

-- Whether a part is there: 0 where it is missing, 1 where it is there (own).
abbrev pub presence_table : List (ℕ × Bool)
presence_table = (0, false) ∷ (1, true) ∷ []

-- What may be missing: 0, or 1 and the part (own).
abbrev pub optional : {X : Type 0} → (X → List ℕ) → Option X → List ℕ
optional field None = 0 ∷ []
optional field (Some part) = 1 ∷ field part

-- The part behind the octet that says whether it is there (own).
abbrev pub part_at : {X : Type 0} → (List ℕ → Reading X) → Bool → List ℕ → Reading (Option X)
part_at field false octets = Ok (None, octets)
part_at field true octets = as_at Some field octets

-- What may be missing, read (own).
abbrev pub optional_at : {X : Type 0} → (List ℕ → Reading X) → List ℕ → Reading (Option X)
optional_at field octets = choice_at (listed presence_table) (part_at field) octets

-- ---- codes

-- The forms of a code: local, a number, or global, an object identifier (Q.773, Operation Code).
pub data CodeForm : Type 0 where
  local_form global_form : CodeForm

-- The form of a code: 0 local, 1 global (own).
abbrev pub form_table : List (ℕ × CodeForm)
form_table = (0, local_form) ∷ (1, global_form) ∷ []

-- A code: 0 and four octets in two's complement, or 1 and the contents octets of an object identifier (own).
abbrev pub code : CodeParts → List ℕ
code (local number) = 0 ∷ short (cast_unsigned w32 number)
code (global octets) = 1 ∷ octet_string octets

-- The local code of a number in two's complement (own).
abbrev pub local_of : ℕ → CodeParts
local_of number = local (cast_signed w32 number)

-- A code behind the octet of its form (own).
abbrev pub code_part_at : CodeForm → List ℕ → Reading CodeParts
code_part_at local_form octets = as_at local_of short_at octets
code_part_at global_form octets = as_at global octet_string_at octets

-- A code, read (own).
unfoldable pub code_at : List ℕ → Reading CodeParts
code_at octets = choice_at (listed form_table) code_part_at octets

-- A result's body: a code, and a parameter if there is one (own).
abbrev pub body : BodyParts → List ℕ
body given = code given.code ++ optional octet_string given.parameter

-- The body of a code and a parameter (own).
abbrev pub body_of : CodeParts × Option (List ℕ) → BodyParts
body_of both = record { code = both.0; parameter = both.1 }

-- A result's body, read (own).
unfoldable pub body_at : List ℕ → Reading BodyParts
body_at octets = as_at body_of (pair_at code_at (optional_at octet_string_at)) octets

-- ---- what an octet stands for

-- An operation class: 1 to 4 (own).
abbrev pub class_octet : Class → ℕ
class_octet One = 1
class_octet Two = 2
class_octet Three = 3
class_octet Four = 4

-- The operation classes by their octets (own).
abbrev pub class_table : List (ℕ × Class)
class_table = (1, One) ∷ (2, Two) ∷ (3, Three) ∷ (4, Four) ∷ []

-- An operation class (own).
abbrev pub class : Class → List ℕ
class given = class_octet given ∷ []

-- An operation class, read (own).
abbrev pub class_at : List ℕ → Reading Class
class_at octets = named_at (listed class_table) octets

-- The kind of a problem: 0 general, 1 invoke, 2 return result, 3 return error (own).
abbrev pub kind_octet : Kind → ℕ
kind_octet problem_kind.General = 0
kind_octet problem_kind.Invoke = 1
kind_octet problem_kind.Result = 2
kind_octet problem_kind.Error = 3

-- The kinds of problem by their octets (own).
abbrev pub kind_table : List (ℕ × Kind)
kind_table =
    (0, problem_kind.General) ∷ (1, problem_kind.Invoke) ∷ (2, problem_kind.Result) ∷ (3, problem_kind.Error) ∷ []

-- The kind of a problem, read (own).
abbrev pub kind_at : List ℕ → Reading Kind
kind_at octets = named_at (listed kind_table) octets

-- The code of a problem: an octet of at most 7F (own).
abbrev pub problem_code : ℕ → Option ℕ
problem_code octet = if nat_le octet problem_limit then Some octet else None

-- The code of a problem, read (own).
abbrev pub problem_code_at : List ℕ → Reading ℕ
problem_code_at octets = named_at problem_code octets

-- A problem: its kind and its code (own).
abbrev pub problem : ProblemParts → List ℕ
problem given = kind_octet given.kind ∷ given.code ∷ []

-- The problem of a kind and a code (own).
abbrev pub problem_of : Kind × ℕ → ProblemParts
problem_of both = record { kind = both.0; code = both.1 }

-- A problem, read (own).
unfoldable pub problem_at : List ℕ → Reading ProblemParts
problem_at octets = as_at problem_of (pair_at kind_at problem_code_at) octets

-- How a dialogue ends: 0 basic, 1 prearranged (own).
abbrev pub ending_octet : Ending → ℕ
ending_octet Ending.basic = 0
ending_octet Ending.prearranged = 1

-- How a dialogue ends, by the octets (own).
abbrev pub ending_table : List (ℕ × Ending)
ending_table = (0, Ending.basic) ∷ (1, Ending.prearranged) ∷ []

-- How a dialogue ends (own).
abbrev pub ending : Ending → List ℕ
ending given = ending_octet given ∷ []

-- How a dialogue ends, read (own).
abbrev pub ending_at : List ℕ → Reading Ending
ending_at octets = named_at (listed ending_table) octets

-- Why the user aborts: 0 for a reason of its own, 1 the application context isn't supported (own).
abbrev pub reason_octet : AbortReason → ℕ
reason_octet AbortReason.by_user = 0
reason_octet AbortReason.not_supported = 1

-- Why the user aborts, by the octets (own).
abbrev pub reason_table : List (ℕ × AbortReason)
reason_table = (0, AbortReason.by_user) ∷ (1, AbortReason.not_supported) ∷ []

-- Why the user aborts (own).
abbrev pub reason : AbortReason → List ℕ
reason given = reason_octet given ∷ []

-- Why the user aborts, read (own).
abbrev pub reason_at : List ℕ → Reading AbortReason
reason_at octets = named_at (listed reason_table) octets

-- The form of a code, by whether it is global (own).
abbrev pub form_of_flag : Bool → CodeForm
form_of_flag false = local_form
form_of_flag true = global_form
