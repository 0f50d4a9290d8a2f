-- The numbers that words of a script stand for are those that their types hold.
use Rattle.std.proofs.Common.{◌≡◌, ℕ, ℤ, pos, negsuc, Bool, true, false, List, [], ◌∷◌, ◌&&◌, nat_le, nat_lt, Option, Some, None, Result, Ok, Err, if◌then◌else◌, length, refl, zero, suc, arith}
use Rattle.std.specs.Prelude.{codes, bytes_eq, int_le}
use Rattle.std.specs.List.{list_all}
use Rattle.std.specs.Option.{option_map, option_and_then}
use Rattle.std.proofs.lemmas.Bool.{leb-true, lt-ltb}
use Rattle.hex.specs.declared.error.FromHexError.{FromHexError}
use Rattle.hex.specs.Hex.{IsBytes, decode_of}
use Rattle.hex.proofs.HexLemmas.{decode_of-ok}
use Rattle.ber_core.specs.Options.{◌>>=◌}
use Rattle.tcap_component.specs.Component.{CodeParts, BodyParts}
use Rattle.tcap_component.specs.Component.CodeParts.{local}
use Rattle.tcap_component.specs.declared.problem.Kind.{Kind}
use Rattle.tcap_component.specs.Problem.{ProblemParts}
use Rattle.tcap_invocation.specs.Stage.{moment_limit}
use Rattle.tcap_model.specs.Words.Address.{Address}
use Rattle.tcap_model.specs.Words.InRange.{are_octets_if_any, is_address, is_body, is_code, is_identifier, is_identifier_if_any, is_long, is_problem, is_short}
use Rattle.tcap_words.specs.Spelling.{octets_if_read}
use Rattle.tcap_play.specs.Numbers.{number, at_most, number_up_to, signed_number, between, number_between}
use Rattle.tcap_play.specs.ScriptWords.{milliseconds_of, idle_limit_of, dialogue_of, identifier_of, optional_identifier_of, code_of, spelled_in, octets_of, address_if, named_address, optional_octets_of, body_with, body_of, kind_of, problem_of}
use Rattle.tcap_play.proofs.Octets.OctetLists.{Octets, octets-cons}

-- ---- what is found, if anything is

module _ {X : Type 0} where
  abbrev pub Holds : (X → Type 0) → Option X → Type 0
  Holds P None = Unit {0}
  Holds P (Some x) = P x

  pub guarded : (P : X → Type 0) (test : Bool) (x : X) → (test ≡ true → P x) → Holds P (if test then Some x else None)
  guarded P true x holds = holds refl
  guarded P false x holds = tt

  pub either : (P : X → Type 0) (test : Bool) (a b : Option X) → Holds P a → Holds P b → Holds P (if test then a else b)
  either P true a b p q = p
  either P false a b p q = q

pub both-true : (a b : Bool) → a ≡ true → b ≡ true → (a && b) ≡ true
both-true a b p q = rw (p, q) refl

-- ---- numbers

at_most-low : (most : ℕ) (n : Option ℕ) → Holds (λ (x : ℕ). nat_le x most ≡ true) (option_and_then (at_most most) n)
at_most-low most None = tt
at_most-low most (Some n) = guarded (λ (x : ℕ). nat_le x most ≡ true) (nat_le n most) n (λ e. e)

short-number : (n : Option ℕ) → Holds (λ (x : ℕ). nat_le x 4294967295 ≡ true) n → Holds (λ (x : ℕ). is_short x ≡ true) n
short-number None low = tt
short-number (Some n) low = let within = leb-true n 4294967295 low in lt-ltb n 4294967296 (omega (arith, within))

long-number : (n : Option ℕ) → Holds (λ (x : ℕ). nat_le x 18446744073709551615 ≡ true) n → Holds (λ (x : ℕ). is_long x ≡ true) n
long-number None low = tt
long-number (Some n) low = let within = leb-true n 18446744073709551615 low in lt-ltb n 18446744073709551616 (omega (arith, within))

pub dialogue-in : (word : List ℕ) → Holds (λ (x : ℕ). is_short x ≡ true) (dialogue_of word)
dialogue-in word = short-number (dialogue_of word) (at_most-low 4294967295 (number word))

pub milliseconds-in : (word : List ℕ) → Holds (λ (x : ℕ). is_long x ≡ true) (milliseconds_of word)
milliseconds-in word = long-number (milliseconds_of word) (at_most-low 18446744073709551615 (number word))

pub idle-limit-in : (word : List ℕ) → Holds (λ (x : ℕ). nat_le x moment_limit ≡ true) (idle_limit_of word)
idle-limit-in word = at_most-low moment_limit (number word)

between-in : (least most : ℤ) (z : Option ℤ)
    → Holds (λ (x : ℤ). (int_le least x && int_le x most) ≡ true) (option_and_then (between least most) z)
between-in least most None = tt
between-in least most (Some z) =
    guarded (λ (x : ℤ). (int_le least x && int_le x most) ≡ true) (int_le least z && int_le z most) z (λ e. e)

pub identifier-in : (word : List ℕ) → Holds (λ (x : ℤ). is_identifier x ≡ true) (identifier_of word)
identifier-in word = between-in (negsuc 127) (pos 127) (signed_number word)

some-identifier : (id : Option ℤ) → Holds (λ (x : ℤ). is_identifier x ≡ true) id
    → Holds (λ (x : Option ℤ). is_identifier_if_any x ≡ true) (option_map (λ x. Some x) id)
some-identifier None is = tt
some-identifier (Some id) is = is

pub optional-identifier-in : (word : List ℕ) → Holds (λ (x : Option ℤ). is_identifier_if_any x ≡ true) (optional_identifier_of word)
optional-identifier-in word =
    either (λ (x : Option ℤ). is_identifier_if_any x ≡ true) (bytes_eq word (codes "-")) (Some None) (option_map (λ x. Some x) (identifier_of word))
    refl (some-identifier (identifier_of word) (identifier-in word))

some-code : (z : Option ℤ) → Holds (λ (x : ℤ). (int_le (negsuc 2147483647) x && int_le x (pos 2147483647)) ≡ true) z
    → Holds (λ (x : CodeParts). is_code x ≡ true) (option_map (λ x. local x) z)
some-code None is = tt
some-code (Some z) is = is

pub code-in : (word : List ℕ) → Holds (λ (x : CodeParts). is_code x ≡ true) (code_of word)
code-in word =
    some-code (number_between (negsuc 2147483647) (pos 2147483647) word) (between-in (negsuc 2147483647) (pos 2147483647) (signed_number word))

-- ---- octets

octets-from : (xs : List ℕ) → IsBytes xs → Octets xs
octets-from [] are = refl
octets-from (x ∷ xs) are = octets-cons x xs (are zero) (octets-from xs (λ i. are (suc i)))

read-octets : (hex : List ℕ) (read : Result (List ℕ) FromHexError) → decode_of hex ≡ read → Holds Octets (octets_if_read read)
read-octets hex (Ok octets) e = octets-from octets (decode_of-ok hex octets e).3
read-octets hex (Err fault) e = tt

spelled-in : (word : List ℕ) → Holds Octets (spelled_in word)
spelled-in [] = tt
spelled-in (digit ∷ digits) = read-octets (digit ∷ digits) (decode_of (digit ∷ digits)) refl

pub octets-in : (word : List ℕ) → Holds Octets (octets_of word)
octets-in word = either Octets (bytes_eq word (codes "-")) (Some []) (spelled_in word) refl (spelled-in word)

some-address : (octets : Option (List ℕ)) → Holds Octets octets
    → Holds (λ (x : Address). is_address x ≡ true) (option_and_then address_if octets)
some-address None are = tt
some-address (Some octets) are =
    guarded (λ (x : Address). is_address x ≡ true) (nat_le (length octets) 255) octets
    (λ few. both-true (nat_le (length octets) 255) (list_all (λ b. nat_lt b 0x100) octets) few are)

pub address-in : (word : List ℕ) → Holds (λ (x : Address). is_address x ≡ true) (named_address word)
address-in word = some-address (octets_of word) (octets-in word)

some-octets : (octets : Option (List ℕ)) → Holds Octets octets
    → Holds (λ (x : Option (List ℕ)). are_octets_if_any x ≡ true) (option_map (λ x. Some x) octets)
some-octets None are = tt
some-octets (Some octets) are = are

pub optional-octets-in : (word : List ℕ) → Holds (λ (x : Option (List ℕ)). are_octets_if_any x ≡ true) (optional_octets_of word)
optional-octets-in word =
    either (λ (x : Option (List ℕ)). are_octets_if_any x ≡ true) (bytes_eq word (codes "-")) (Some None) (option_map (λ x. Some x) (spelled_in word))
    refl (some-octets (spelled_in word) (spelled-in word))

-- ---- bodies and problems

some-body : (code : Option CodeParts) (parameter : Option (Option (List ℕ))) → Holds (λ (x : CodeParts). is_code x ≡ true) code
    → Holds (λ (x : Option (List ℕ)). are_octets_if_any x ≡ true) parameter
    → Holds (λ (x : Option BodyParts). is_body x ≡ true) (code >>= (λ c. parameter >>= (λ p. Some (Some (record { code = c; parameter = p })))))
some-body None parameter coded held = tt
some-body (Some code) None coded held = tt
some-body (Some code) (Some parameter) coded held = both-true (is_code code) (are_octets_if_any parameter) coded held

pub body-in : (code parameter : List ℕ) → Holds (λ (x : Option BodyParts). is_body x ≡ true) (body_of code parameter)
body-in code parameter =
    either (λ (x : Option BodyParts). is_body x ≡ true) (bytes_eq code (codes "-")) (if bytes_eq parameter (codes "-") then Some None else None) (body_with code parameter)
    (either (λ (x : Option BodyParts). is_body x ≡ true) (bytes_eq parameter (codes "-")) (Some None) None refl tt)
    (some-body (code_of code) (optional_octets_of parameter) (code-in code) (optional-octets-in parameter))

some-problem : (kind : Option Kind) (code : Option ℕ) → Holds (λ (x : ℕ). nat_le x 127 ≡ true) code
    → Holds (λ (x : ProblemParts). is_problem x ≡ true) (kind >>= (λ k. code >>= (λ c. Some (record { kind = k; code = c }))))
some-problem None code low = tt
some-problem (Some kind) None low = tt
some-problem (Some kind) (Some code) low = low

pub problem-in : (kind code : List ℕ) → Holds (λ (x : ProblemParts). is_problem x ≡ true) (problem_of kind code)
problem-in kind code = some-problem (kind_of kind) (number_up_to 127 code) (at_most-low 127 (number code))
