-- A line has a form exactly where none of its words is wrong.
use Rattle.std.proofs.Common.{◌≡◌, ◌&&◌, ◌||◌, ℕ, Bool, true, false, not, List, [], ◌∷◌, codes, bytes_eq, Option, Some, None, is_some, option_map, refl, sym, ap, ◌∙◌, is_ok}
use Rattle.std.specs.List.{AllByRecursion}
use Rattle.std.specs.Option.{option_or}
use Rattle.std.specs.Result.{result_ok}
use Rattle.std.specs.Prelude.{Result, Ok, Err}
use Rattle.ber_core.specs.Options.{◌>>=◌}
use Rattle.object_identifiers.specs.Contents.{object_identifier_at}
use Rattle.tcap_model.specs.Words.Request.{DialogueRequest, Ending, Request}
use Rattle.tcap_play.specs.ScriptLine.{abort_request_of, cancel_request_of, error_request_of, invoke_request_of, last_request_of, more_request_of, reject_request_of}
use Rattle.tcap_play.specs.ScriptWords.{dialogue_of, named_address, octets_of, optional_octets_of}
use Rattle.tcap_lines.specs.Fits.{is_address, is_dotted, is_number_within, is_octets}
use Rattle.tcap_lines.specs.LineFaults.{IsGoodLine}
use Rattle.tcap_lines.specs.Reading.{first_fault}
use Rattle.tcap_lines.specs.declared.fault.LineFault.{LineFault}
use Rattle.tcap_play.specs.Pieces.{is_skipped, words_of}
use Rattle.tcap_lines.specs.Table.{names_of, words_named}
use Rattle.tcap_lines.proofs.CallerLemmas.{abort_fits, alone_told, and_true, as_long, asked_fits, by_count, by_name, cancel_fits, error_fits, has_form, invoke_fits, last_fits, made_read, more_fits, none_good, none_read, number_fits, octets_fit, reject_fits, some_first, then_read}
use Rattle.tcap_living.specs.LiveLine.{LiveLine, answering_named, answering_request_of, asked_on, context_of, line_of, line_of_eight, line_of_five, line_of_four, line_of_one, line_of_three, line_of_two, opening_named, opening_request_of}
use Rattle.tcap_living.specs.LiveTable.{live_forms, live_table}
use Rattle.tcap_living.specs.LiveText.{is_good_line}
use Rattle.tcap_living.specs.WrongWords.{IsReadUnlessWrong, IsToldBad}

-- a request on a dialogue
asked : (dialogue : List ℕ) (request : Option Request) (c : Bool) → is_some request ≡ c → is_some (request >>= asked_on dialogue) ≡ (is_number_within 0 4294967295 dialogue && c)
asked dialogue request c is = asked_fits dialogue request (asked_on dialogue) c (λ r. then_read (dialogue_of dialogue) _ true (λ d. refl)) is

context_read : {E : Type 0} (octets : Option (Option (List ℕ))) (dotted : Result (List ℕ) E)
    → is_some (option_or octets (option_map (λ o. Some o) (result_ok dotted))) ≡ (is_some octets || is_ok dotted)
context_read (Some octets) dotted = refl
context_read None (Ok octets) = refl
context_read None (Err fault) = refl

-- a context in hexadecimal or in dotted form
context_fits : (word : List ℕ) → is_some (context_of word) ≡ (is_octets word || is_dotted word)
context_fits word = context_read (optional_octets_of word) (object_identifier_at word) ∙ rw (octets_fit word) refl

-- the words behind a name have a form
abbrev Form : List ℕ → List (List ℕ) → Bool
Form name words = has_form (words_named name live_forms) name words

-- they have one among the forms of as many words
abbrev Short : List (List ℕ) → List ℕ → Bool
Short words name = has_form (words_named name (as_long live_forms words)) name words

shorter : (name : List ℕ) (words : List (List ℕ)) → Short words name ≡ Form name words
shorter name words = sym (by_count live_forms name words refl)

abbrev names_for : List (List ℕ) → List (List ℕ)
names_for words = names_of (as_long live_forms words)

one : (name : List ℕ) → is_some (line_of_one name) ≡ Short [] name
one name = by_name (λ n. is_some (line_of_one n) ≡ Short [] n) name (names_for []) (refl, (refl, tt))
    (λ other. rw (other.0, other.1.0) refl)

two : (name a : List ℕ) → is_some (line_of_two name a) ≡ Short (a ∷ []) name
two name a = by_name (λ n. is_some (line_of_two n a) ≡ Short (a ∷ []) n) name (names_for (a ∷ [])) (
  asked a (Some (Request.dialogue (DialogueRequest.finish Ending.prearranged None []))) true refl,
  (
    made_read _ _ ∙ (number_fits 18446744073709551615 a ∙ sym (and_true _)),
    (
      made_read _ _ ∙ (number_fits 4294967295 a ∙ sym (and_true _)),
      tt,
    ),
  ),
)
    (λ other. rw (other.0, other.1.0, other.1.1.0) refl)

three : (name a b : List ℕ) → is_some (line_of_three name a b) ≡ Short (a ∷ b ∷ []) name
three name a b = by_name (λ n. is_some (line_of_three n a b) ≡ Short (a ∷ b ∷ []) n) name (names_for (a ∷ b ∷ [])) (
  asked a (cancel_request_of b) _ (cancel_fits a b),
  (
    then_read (named_address a) _ _ (λ f. then_read (octets_of b) _ true (λ o. refl)),
    tt,
  ),
)
    (λ other. rw (other.0, other.1.0) refl)

-- a request on a dialogue that has a peer, where there is one of this name
answering : (name context information : List ℕ) → ((c : Option (List ℕ)) (i : List ℕ) → is_some (answering_named name c i) ≡ true)
    → is_some (answering_request_of name context information) ≡ ((is_octets context || is_dotted context) && (is_octets information && true))
answering name context information there =
    then_read (context_of context) _ _ (λ c. then_read (octets_of information) _ true (λ i. there c i)) ∙ rw (context_fits context) refl

unanswering : (name context information : List ℕ) → ((c : Option (List ℕ)) (i : List ℕ) → is_some (answering_named name c i) ≡ false)
    → is_some (answering_request_of name context information) ≡ false
unanswering name context information none =
    none_read (context_of context) _ (λ c. none_read (octets_of information) _ (λ i. none c i))

-- no request is asked for
unasked : (dialogue : List ℕ) (request : Option Request) → is_some request ≡ false → is_some (request >>= asked_on dialogue) ≡ false
unasked dialogue None is = refl
unasked dialogue (Some request) is = absurd cc

four : (name a b c : List ℕ) → is_some (line_of_four name a b c) ≡ Short (a ∷ b ∷ c ∷ []) name
four name a b c = by_name (λ n. is_some (line_of_four n a b c) ≡ Short (a ∷ b ∷ c ∷ []) n) name (names_for (a ∷ b ∷ c ∷ [])) (
  asked a (answering_request_of (codes "continue") b c) _ (answering (codes "continue") b c (λ x i. refl)),
  (
    asked a (answering_request_of (codes "end") b c) _ (answering (codes "end") b c (λ x i. refl)),
    (
      asked a (abort_request_of b c) _ (abort_fits a b c),
      tt,
    ),
  ),
)
    (λ other. (rw other.1.1.0 (unasked a (answering_request_of name b c) (unanswering name b c (λ x i. rw (other.0, other.1.0) refl)))) ∙ sym (unformed other)) where
      unformed : AllByRecursion (λ n. bytes_eq name n ≡ false) (names_for (a ∷ b ∷ c ∷ [])) → Short (a ∷ b ∷ c ∷ []) name ≡ false
      unformed other = rw (other.0, other.1.0, other.1.1.0) refl

-- a request that opens an exchange, where there is one of this name
opening : (name to context information : List ℕ) → ((t : List ℕ) (c : Option (List ℕ)) (i : List ℕ) → is_some (opening_named name t c i) ≡ true)
    → is_some (opening_request_of name to context information) ≡ (is_address to && ((is_octets context || is_dotted context) && (is_octets information && true)))
opening name to context information there =
    then_read (named_address to) _ _ (λ t. then_read (context_of context) _ _ (λ c. then_read (octets_of information) _ true (λ i. there t c i)))
    ∙ rw (context_fits context) refl

unopening : (name to context information : List ℕ) → ((t : List ℕ) (c : Option (List ℕ)) (i : List ℕ) → is_some (opening_named name t c i) ≡ false)
    → is_some (opening_request_of name to context information) ≡ false
unopening name to context information none =
    none_read (named_address to) _ (λ t. none_read (context_of context) _ (λ c. none_read (octets_of information) _ (λ i. none t c i)))

five : (name a b c d : List ℕ) → is_some (line_of_five name a b c d) ≡ Short (a ∷ b ∷ c ∷ d ∷ []) name
five name a b c d = by_name (λ n. is_some (line_of_five n a b c d) ≡ Short (a ∷ b ∷ c ∷ d ∷ []) n) name (names_for (a ∷ b ∷ c ∷ d ∷ [])) (
  asked a (last_request_of b c d) _ (last_fits a b c d),
  (
    asked a (more_request_of b c d) _ (more_fits a b c d),
    (
      asked a (error_request_of b c d) _ (error_fits a b c d),
      (
        asked a (reject_request_of b c d) _ (reject_fits a b c d),
        (
          asked a (opening_request_of (codes "begin") b c d) _ (opening (codes "begin") b c d (λ t x i. refl)),
          (
            asked a (opening_request_of (codes "uni") b c d) _ (opening (codes "uni") b c d (λ t x i. refl)),
            tt,
          ),
        ),
      ),
    ),
  ),
)
    (λ other. (rw (other.0, other.1.0, other.1.1.0, other.1.1.1.0)
    (unasked a (opening_request_of name b c d) (unopening name b c d (λ t x i. rw (other.1.1.1.1.0, other.1.1.1.1.1.0) refl)))) ∙ sym (unformed other)) where
      unformed : AllByRecursion (λ n. bytes_eq name n ≡ false) (names_for (a ∷ b ∷ c ∷ d ∷ [])) → Short (a ∷ b ∷ c ∷ d ∷ []) name ≡ false
      unformed other = rw (other.0, other.1.0, other.1.1.0, other.1.1.1.0, other.1.1.1.1.0, other.1.1.1.1.1.0) refl

eight : (name a b c d e f g : List ℕ) → is_some (line_of_eight name a (invoke_request_of b c d e f g)) ≡ Short (a ∷ b ∷ c ∷ d ∷ e ∷ f ∷ g ∷ []) name
eight name a b c d e f g =
    by_name (λ n. is_some (line_of_eight n a (invoke_request_of b c d e f g)) ≡ Short (a ∷ b ∷ c ∷ d ∷ e ∷ f ∷ g ∷ []) n) name (names_for (a ∷ b ∷ c ∷ d ∷ e ∷ f ∷ g ∷ []))
    (asked a (invoke_request_of b c d e f g) _ (invoke_fits a b c d e f g), tt)
    (λ other. rw other.0 refl)

-- the words of a line by how many there are
by_length : (name : List ℕ) (words : List (List ℕ)) → is_some (line_of (name ∷ words)) ≡ Short words name
by_length name [] = one name
by_length name (a ∷ []) = two name a
by_length name (a ∷ b ∷ []) = three name a b
by_length name (a ∷ b ∷ c ∷ []) = four name a b c
by_length name (a ∷ b ∷ c ∷ d ∷ []) = five name a b c d
by_length name (a ∷ b ∷ c ∷ d ∷ e ∷ []) = refl
by_length name (a ∷ b ∷ c ∷ d ∷ e ∷ f ∷ []) = refl
by_length name (a ∷ b ∷ c ∷ d ∷ e ∷ f ∷ g ∷ []) = eight name a b c d e f g
by_length name (a ∷ b ∷ c ∷ d ∷ e ∷ f ∷ g ∷ h ∷ words) = refl

-- a word is wrong exactly where the words have no form of a line
live_told : (words : List (List ℕ)) → is_some (first_fault live_table words) ≡ not (is_some (line_of words))
live_told [] = refl
live_told (name ∷ words) = alone_told live_table name words refl ∙ ap not (sym (by_length name words ∙ shorter name words))

not_twice : (a b : Bool) → a ≡ not b → b ≡ not a
not_twice true true e = absurd cc
not_twice true false e = refl
not_twice false true e = refl
not_twice false false e = absurd cc

pub read_unless_wrong : (words : List (List ℕ)) → IsReadUnlessWrong words
read_unless_wrong words = not_twice (is_some (first_fault live_table words)) (is_some (line_of words)) (live_told words)

-- ---- lines of octets

-- a bad line is told by the first of its words that is wrong
pub told_bad : (line : List ℕ) → is_good_line line ≡ false → IsToldBad line
told_bad line bad = go (is_skipped line) (line_of (words_of line)) (first_fault live_table (words_of line)) refl refl refl bad (live_told (words_of line)) where
  go : (skipped : Bool) (asked : Option LiveLine) (found : Option LineFault) → is_skipped line ≡ skipped → line_of (words_of line) ≡ asked → first_fault live_table (words_of line) ≡ found
      → (skipped || is_some asked) ≡ false → is_some found ≡ not (is_some asked) → IsToldBad line
  go true asked found s l f bad told = absurd cc
  go false (Some asked) found s l f bad told = absurd cc
  go false None None s l f bad told = absurd cc
  go false None (Some found) s l f bad told = record {
    found = found;
    is_first = some_first live_table (words_of line) found f;
    prints = λ format number h. rw (s, l, f) refl;
  }

-- no word of a good line is wrong
pub formed_good : (line : List ℕ) → is_skipped line ≡ false → is_good_line line ≡ true → IsGoodLine live_table (words_of line)
formed_good line s good = go (line_of (words_of line)) (first_fault live_table (words_of line)) refl (rw s at good) (live_told (words_of line)) where
  go : (asked : Option LiveLine) (found : Option LineFault) → first_fault live_table (words_of line) ≡ found
      → is_some asked ≡ true → is_some found ≡ not (is_some asked) → IsGoodLine live_table (words_of line)
  go None found f good told = absurd cc
  go (Some asked) None f good told = none_good live_table (words_of line) f
  go (Some asked) (Some found) f good told = absurd cc
