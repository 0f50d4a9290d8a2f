-- What the words of a script's lines stand for.
use Rattle.std.specs.Prelude.{ℕ, ℤ, pos, neg_ℤ, nat_le, List, [], ◌∷◌, length, Option, Some, None, codes, bytes_eq, if◌then◌else◌}
use Rattle.std.specs.Option.{option_map, option_and_then}
use Rattle.ber_core.specs.Options.{◌>>=◌}
use Rattle.tcap_component.specs.declared.problem.Kind.{Kind}
use Rattle.tcap_component.specs.declared.problem.Kind.TheVariants as kind
use Rattle.tcap_component.specs.Component.{CodeParts, BodyParts}
use Rattle.tcap_component.specs.Component.CodeParts.{local}
use Rattle.tcap_component.specs.Problem.{ProblemParts}
use Rattle.tcap_invocation.specs.Stage.{moment_limit}
use Rattle.tcap_invocation.specs.declared.class.Class.{Class}
use Rattle.tcap_invocation.specs.declared.class.Class.TheVariants as class
use Rattle.tcap_model.specs.Words.Address.{Address}
use Rattle.tcap_model.specs.Words.Request.{AbortReason}
use Rattle.tcap_play.specs.Numbers.{number_up_to, number_between}
use Rattle.tcap_play.specs.Sides.{Engine}
use Rattle.tcap_words.specs.Spelling.{spelled_by}

-- What a message is called: the engine that sent it, and its number among those that this engine sent,
-- from 1 (own).
pub record MessageName : Type 0 where
  pub engine : Engine
  pub number : ℕ

-- The engine of a letter (own).
abbrev pub engine_of : List ℕ → Option Engine
engine_of word =
    if bytes_eq word (codes "A") then Some Engine.a
    else if bytes_eq word (codes "B") then Some Engine.b
    else None

-- The name of a message: its engine's letter and its number (own).
abbrev pub name_of : List ℕ → Option MessageName
name_of [] = None
name_of (letter ∷ digits) = do
  engine ← engine_of (letter ∷ [])
  number ← number_up_to 18446744073709551615 digits
  Some (record { engine = engine; number = number })

-- A moment or a timeout, in milliseconds (own).
abbrev pub milliseconds_of : List ℕ → Option ℕ
milliseconds_of word = number_up_to 18446744073709551615 word

-- An idle limit, in milliseconds, at most 2^62; 0 for none (own).
abbrev pub idle_limit_of : List ℕ → Option ℕ
idle_limit_of word = number_up_to moment_limit word

-- The identifier of a dialogue (own).
abbrev pub dialogue_of : List ℕ → Option ℕ
dialogue_of word = number_up_to 4294967295 word

-- An invoke identifier (own).
abbrev pub identifier_of : List ℕ → Option ℤ
identifier_of word = number_between (neg_ℤ (pos 128)) (pos 127) word

-- An invoke identifier that may be left out, with `-` (own).
abbrev pub optional_identifier_of : List ℕ → Option (Option ℤ)
optional_identifier_of word =
    if bytes_eq word (codes "-") then Some None else option_map (λ id. Some id) (identifier_of word)

-- An operation class (own).
abbrev pub class_of : List ℕ → Option Class
class_of word =
    if bytes_eq word (codes "1") then Some class.One
    else if bytes_eq word (codes "2") then Some class.Two
    else if bytes_eq word (codes "3") then Some class.Three
    else if bytes_eq word (codes "4") then Some class.Four
    else None

-- A local code (own).
abbrev pub code_of : List ℕ → Option CodeParts
code_of word = option_map (λ number. local number) (number_between (neg_ℤ (pos 2147483648)) (pos 2147483647) word)

-- The octets that a word of hexadecimal spells; an empty one is no word (own).
abbrev pub spelled_in : List ℕ → Option (List ℕ)
spelled_in [] = None
spelled_in (digit ∷ digits) = spelled_by (digit ∷ digits)

-- The octets that a word spells; `-` spells none (own).
abbrev pub octets_of : List ℕ → Option (List ℕ)
octets_of word = if bytes_eq word (codes "-") then Some [] else spelled_in word

-- Octets as an address: at most 255 (own).
abbrev pub address_if : List ℕ → Option Address
address_if octets = if nat_le (length octets) 255 then Some octets else None

-- The address that a word spells; `-` spells the one of no octets (own).
abbrev pub named_address : List ℕ → Option Address
named_address word = option_and_then address_if (octets_of word)

-- Octets that may be left out, with `-` (own).
abbrev pub optional_octets_of : List ℕ → Option (Option (List ℕ))
optional_octets_of word =
    if bytes_eq word (codes "-") then Some None else option_map (λ octets. Some octets) (spelled_in word)

-- The body that a code and a parameter make (own).
abbrev pub body_with : List ℕ → List ℕ → Option (Option BodyParts)
body_with code parameter = do
  code ← code_of code
  parameter ← optional_octets_of parameter
  Some (Some (record { code = code; parameter = parameter }))

-- The body of a result; `-` twice leaves it out (own).
abbrev pub body_of : List ℕ → List ℕ → Option (Option BodyParts)
body_of code parameter =
    if bytes_eq code (codes "-") then (if bytes_eq parameter (codes "-") then Some None else None)
    else body_with code parameter

-- The kind of a problem (own).
abbrev pub kind_of : List ℕ → Option Kind
kind_of word =
    if bytes_eq word (codes "general") then Some kind.General
    else if bytes_eq word (codes "invoke") then Some kind.Invoke
    else if bytes_eq word (codes "result") then Some kind.Result
    else if bytes_eq word (codes "error") then Some kind.Error
    else None

-- A problem: its kind and its code (own).
abbrev pub problem_of : List ℕ → List ℕ → Option ProblemParts
problem_of kind code = do
  kind ← kind_of kind
  number ← number_up_to 127 code
  Some (record { kind = kind; code = number })

-- Why the user aborts (own).
abbrev pub reason_of : List ℕ → Option AbortReason
reason_of word =
    if bytes_eq word (codes "user") then Some AbortReason.by_user
    else if bytes_eq word (codes "unsupported") then Some AbortReason.not_supported
    else None
