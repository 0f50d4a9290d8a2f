-- A text that is asked for, written whole or cut.
use Rattle.std.proofs.Common.{◌≡◌, ℕ, Bool, true, false, List, Option, Some, None, Ok, refl, subst}
use Rattle.std.specs.Option.{is_some}
use Rattle.std.specs.Io.KnownBytes.{Appends}
use Rattle.tcap_cmd.specs.Command.{text_of, is_good_of, status_of, IsInput, IsAnswered, IsCut, IsUnwritten}
use Rattle.tcap_cmd.specs.CommandLine.{Asked, show, check, canon, play, stream}
use Rattle.tcap_text.specs.Status.{verdict_status}
use Rattle.tcap_words.specs.Writing.{IsFront}

-- the status of a run that came to a verdict is that of the verdict
pub status-is : (good : Bool) → verdict_status good ≡ status_of (Ok good)
status-is true = refl
status-is false = refl

-- what is asked for is asked of HEX
abbrev pub AsksOfHex : Asked → Type 0
AsksOfHex (show hex) = Unit {0}
AsksOfHex (check hex) = Unit {0}
AsksOfHex (canon hex) = Unit {0}
AsksOfHex play = ⊥
AsksOfHex stream = ⊥

-- there are bytes, whose text and verdict these are
pub record IsText (asked : Asked) (had left : Option (List ℕ)) (text : List ℕ) (good : Bool) : Type 0 where
  pub of_hex : AsksOfHex asked
  pub bytes : List ℕ
  pub is_input : IsInput asked had left bytes
  pub is_text : text ≡ text_of asked bytes
  pub verdict : good ≡ is_good_of asked bytes

-- a text that was written answers
pub text_answers : (asked : Asked) (had left old new : Option (List ℕ)) (text : List ℕ) (good : Bool) → IsText asked had left text good → Appends old new text → IsAnswered asked had left old new good
text_answers asked had left old new text good t written = record { bytes = t.bytes; is_input = t.is_input; written = subst (Appends old new) t.is_text written; verdict = t.verdict }

-- a text of which a front was written is cut
is-cut : (asked : Asked) (had left old new : Option (List ℕ)) (text : List ℕ) (good : Bool) → IsText asked had left text good → IsFront text old new → IsCut asked had left old new
is-cut asked had left old new text good t written = record { bytes = t.bytes; is_input = t.is_input; written = subst (λ w. IsFront w old new) t.is_text written }

pub text_cut : (asked : Asked) (had left old new : Option (List ℕ)) (text : List ℕ) (good : Bool) → IsText asked had left text good → IsFront text old new → IsUnwritten asked had left old new
text_cut (show hex) had left old new text good t written = is-cut (show hex) had left old new text good t written
text_cut (check hex) had left old new text good t written = is-cut (check hex) had left old new text good t written
text_cut (canon hex) had left old new text good t written = is-cut (canon hex) had left old new text good t written
text_cut play had left old new text good t written = absurd t.of_hex
text_cut stream had left old new text good t written = absurd t.of_hex

-- what is there is something
pub some_of : (o : Option (List ℕ)) → is_some o ≡ true → (bytes : List ℕ) × (o ≡ Some bytes)
some_of None h = absurd cc
some_of (Some bytes) h = (bytes, refl)
