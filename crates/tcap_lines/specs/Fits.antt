-- Whether a word is what it has to be.
use Rattle.std.specs.Prelude.{ℕ, ℤ, nat_le, Bool, false, not, ◌&&◌, ◌||◌, List, Option, Some, None, codes, bytes_eq, is_some, is_ok}
use Rattle.object_identifiers.specs.Contents.{object_identifier_at}
use Rattle.tcap_play.specs.Numbers.{number, number_between}
use Rattle.tcap_play.specs.ScriptWords.{kind_of, named_address, name_of, octets_of, reason_of}
use Rattle.tcap_lines.specs.declared.expected.Expected.{Expected}
use Rattle.tcap_lines.specs.declared.expected.Expected.TheVariants as expected

-- Whether a number is no less and no more than so much (own).
abbrev pub is_within : ℕ → ℕ → Option ℕ → Bool
is_within least most None = false
is_within least most (Some n) = nat_le least n && nat_le n most

-- Whether a word is a number, no less and no more than so much (own).
abbrev pub is_number_within : ℕ → ℕ → List ℕ → Bool
is_number_within least most word = is_within least most (number word)

-- The same, with `-` before a number below zero (own).
abbrev pub is_signed_within : ℤ → ℤ → List ℕ → Bool
is_signed_within least most word = is_some (number_between least most word)

-- Whether a word stands for what is absent (own).
abbrev pub is_dash : List ℕ → Bool
is_dash word = bytes_eq word (codes "-")

-- Whether a word spells octets in hexadecimal, or is `-` (own).
abbrev pub is_octets : List ℕ → Bool
is_octets word = is_some (octets_of word)

-- Whether a word spells an address, or is `-` (own).
abbrev pub is_address : List ℕ → Bool
is_address word = is_some (named_address word)

-- Whether a word is an object identifier in dotted form (own).
abbrev pub is_dotted : List ℕ → Bool
is_dotted word = is_ok (object_identifier_at word)

-- Whether a word is the kind of a problem (own).
abbrev pub is_problem_kind : List ℕ → Bool
is_problem_kind word = is_some (kind_of word)

-- Whether a word says why a user aborts (own).
abbrev pub is_abort_reason : List ℕ → Bool
is_abort_reason word = is_some (reason_of word)

-- Whether a word names a message (own).
abbrev pub is_message : List ℕ → Bool
is_message word = is_some (name_of word)

-- Whether a word, behind this one, is what it has to be (own).
abbrev pub fits : Expected → List ℕ → List ℕ → Bool
fits (expected.Number least most) before word = is_number_within least most word
fits (expected.Signed least most) before word = is_signed_within least most word
fits (expected.OptionalSigned least most) before word = is_dash word || is_signed_within least most word
fits expected.Octets before word = is_octets word
fits expected.OctetsBehindCode before word = is_dash word || (not (is_dash before) && is_octets word)
fits expected.Address before word = is_address word
fits expected.Context before word = is_octets word
fits expected.DottedContext before word = is_octets word || is_dotted word
fits expected.ProblemKind before word = is_problem_kind word
fits expected.AbortReason before word = is_abort_reason word
fits expected.Message before word = is_message word
