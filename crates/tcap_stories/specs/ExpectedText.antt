-- The text of an expectation: words of visible characters of ASCII, one space between them.
use Rattle.std.specs.Prelude.{◌≡◌, ◌<◌, ◌+◌, ℕ, List, [], ◌∷◌, Option, Some, None, slice_get}
use Rattle.std.specs.Option.{option_and_then}
use Rattle.tcap_play.specs.Pieces.{words_of}
use Rattle.tcap_lines.specs.declared.fault.LineFault.{LineFault}
use Rattle.tcap_lines.specs.declared.fault.WordFault.{WordFault}
use Rattle.tcap_lines.specs.Misfit.{unwritten}
use Rattle.tcap_lines.specs.Reading.{or_later}

-- What makes the octets at a place no word: that there are none, or a character that no word has; nothing where
-- no octets are (own).
abbrev pub unwritten_at : List (List ℕ) → ℕ → Option WordFault
unwritten_at words place = option_and_then unwritten (slice_get words place)

-- The first of these that is no word: something is wrong at its place, and nothing at the places before it. The
-- first of all has this number (own).
pub record IsFirstUnwritten (number : ℕ) (words : List (List ℕ)) (found : LineFault) : Type 0 where
  pub place : ℕ
  pub is_number : found.word ≡ number + place
  pub is_wrong : unwritten_at words place ≡ Some found.fault
  pub earlier : (i : ℕ) → i < place → unwritten_at words i ≡ None

-- The same, computed (own).
abbrev pub first_unwritten : ℕ → List (List ℕ) → Option LineFault
first_unwritten number [] = None
first_unwritten number (word ∷ words) = or_later number (unwritten word) (first_unwritten (number + 1) words)

-- What is wrong first with the words of a text, if anything: `expect` before it is word 1 (own).
abbrev pub text_fault : List ℕ → Option LineFault
text_fault text = first_unwritten 2 (words_of text)
