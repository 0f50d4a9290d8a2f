-- A line without a side has a form exactly where a script reads it, or where it stands in a story alone.
use Rattle.std.proofs.Common.{◌≡◌, ◌&&◌, ◌||◌, ℕ, Bool, true, false, List, [], ◌∷◌, codes, bytes_eq, Option, None, is_some, refl, sym, ◌∙◌, if◌then◌else◌}
use Rattle.ber_core.specs.Options.{◌>>=◌}
use Rattle.tcap_invocation.specs.Stage.{moment_limit}
use Rattle.tcap_model.specs.Words.Event.{Event}
use Rattle.tcap_model.specs.Words.Request.{DialogueRequest, Ending, Request}
use Rattle.tcap_play.specs.ScriptLine.{abort_request_of, asked_on, begin_request_of, called_on, cancel_request_of, error_request_of, invoke_request_of, last_request_of, line_of, line_of_five, line_of_four, line_of_nine, line_of_six, line_of_three, line_of_two, more_request_of, portion_request_on, received_from, received_on, reject_request_of}
use Rattle.tcap_play.specs.ScriptWords.{engine_of, idle_limit_of, milliseconds_of, name_of, named_address, octets_of}
use Rattle.tcap_lines.specs.Fits.{is_number_within}
use Rattle.tcap_lines.specs.Table.{names_of, words_named}
use Rattle.tcap_lines.proofs.CallerLemmas.{and_true, as_long, by_count, by_name, has_form, made_read, none_read, number_fits}
use Rattle.tcap_stories.specs.StoryTable.{forms_alone}

-- a line that no play has, but a story: an idle limit, and an expectation that says nothing
abbrev pub stands_in_story : List ℕ → List (List ℕ) → Bool
stands_in_story first [] = bytes_eq first (codes "expect")
stands_in_story first (word ∷ []) = bytes_eq first (codes "idle") && is_some (idle_limit_of word)
stands_in_story first (word ∷ second ∷ words) = false

abbrev Short : List (List ℕ) → List ℕ → Bool
Short words name = has_form (words_named name (as_long forms_alone words)) name words

abbrev names_for : List (List ℕ) → List (List ℕ)
names_for words = names_of (as_long forms_alone words)

or_false : (b : Bool) → (b || false) ≡ b
or_false true = refl
or_false false = refl

-- a line of one word
one : (first : List ℕ) → (is_some (line_of (first ∷ [])) || stands_in_story first []) ≡ Short [] first
one first = by_name (λ n. bytes_eq n (codes "expect") ≡ Short [] n) first (names_for []) (refl, tt) (λ other. rw other.0 refl)

-- a line of two
two : (first word : List ℕ) → engine_of first ≡ None → (is_some (line_of_two first word) || stands_in_story first (word ∷ [])) ≡ Short (word ∷ []) first
two first word unsided = by_name (λ n. engine_of n ≡ None → (is_some (line_of_two n word) || stands_in_story n (word ∷ [])) ≡ Short (word ∷ []) n) first (names_for (word ∷ [])) (
  λ e. or_false _ ∙ (made_read (name_of word) _ ∙ sym (and_true _)),
  (
    λ e. or_false _ ∙ (made_read (name_of word) _ ∙ sym (and_true _)),
    (
      λ e. or_false _ ∙ (made_read (name_of word) _ ∙ sym (and_true _)),
      (
        λ e. or_false _ ∙ (made_read (milliseconds_of word) _ ∙ (number_fits 18446744073709551615 word ∙ sym (and_true _))),
        (
          λ e. idle (bytes_eq word (codes "new")),
          tt,
        ),
      ),
    ),
  ),
)
    (λ other e. rw (other.0, other.1.0, other.1.1.0, other.1.1.1.0, other.1.1.1.1.0) (or_false _ ∙ rw e (none (bytes_eq word (codes "new"))))) unsided where
      none : (b : Bool) → is_some (if b then called_on (codes "idle") Event.new_dialogue else None) ≡ false
      none true = refl
      none false = refl

      idle : (b : Bool) → (is_some (if b then called_on (codes "idle") Event.new_dialogue else None) || is_some (idle_limit_of word)) ≡ (is_number_within 0 moment_limit word && true)
      idle true = number_fits moment_limit word ∙ sym (and_true _)
      idle false = number_fits moment_limit word ∙ sym (and_true _)

-- a word is no letter of an engine
abbrev IsOther : List ℕ → Type 0
IsOther first = engine_of first ≡ None

unasked : (first dialogue : List ℕ) (request : Option Request) → IsOther first → is_some (request >>= asked_on first dialogue) ≡ false
unasked first dialogue request is = none_read request (asked_on first dialogue) (λ r. rw is refl)

no_three : (first a b : List ℕ) → IsOther first → is_some (line_of_three first a b) ≡ false
no_three first a b is = go (bytes_eq a (codes "raw")) (bytes_eq a (codes "prearranged")) where
  go : (r p : Bool) → is_some (if r then octets_of b >>= received_on first else if p then asked_on first b (Request.dialogue (DialogueRequest.finish Ending.prearranged None [])) else None) ≡ false
  go true p = none_read (octets_of b) (received_on first) (λ o. rw is refl)
  go false true = rw is refl
  go false false = refl

no_four : (first a b c : List ℕ) → IsOther first → is_some (line_of_four first a b c) ≡ false
no_four first a b c is = go (bytes_eq a (codes "cancel")) (bytes_eq a (codes "rawfrom")) where
  go : (r p : Bool) → is_some (if r then cancel_request_of c >>= asked_on first b else if p then received_from first b c else None) ≡ false
  go true p = unasked first b (cancel_request_of c) is
  go false true = none_read (named_address b) _ (λ f. none_read (octets_of c) _ (λ o. rw is refl))
  go false false = refl

no_five : (first a b c d : List ℕ) → IsOther first → is_some (line_of_five first a b c d) ≡ false
no_five first a b c d is = go (bytes_eq a (codes "abort")) where
  go : (r : Bool) → is_some (if r then abort_request_of c d >>= asked_on first b else portion_request_on first a c d >>= asked_on first b) ≡ false
  go true = unasked first b (abort_request_of c d) is
  go false = unasked first b (portion_request_on first a c d) is

no_six : (first a b c d e : List ℕ) → IsOther first → is_some (line_of_six first a b c d e) ≡ false
no_six first a b c d e is = go (bytes_eq a (codes "last")) (bytes_eq a (codes "more")) (bytes_eq a (codes "error")) (bytes_eq a (codes "reject")) (bytes_eq a (codes "beginto")) where
  go : (l m r j t : Bool)
      → is_some (if l then last_request_of c d e >>= asked_on first b else if m then more_request_of c d e >>= asked_on first b
      else if r then error_request_of c d e >>= asked_on first b else if j then reject_request_of c d e >>= asked_on first b
      else if t then begin_request_of c d e >>= asked_on first b else None) ≡ false
  go true m r j t = unasked first b (last_request_of c d e) is
  go false true r j t = unasked first b (more_request_of c d e) is
  go false false true j t = unasked first b (error_request_of c d e) is
  go false false false true t = unasked first b (reject_request_of c d e) is
  go false false false false true = unasked first b (begin_request_of c d e) is
  go false false false false false = refl

no_nine : (first a b : List ℕ) (request : Option Request) → IsOther first → is_some (line_of_nine first a b request) ≡ false
no_nine first a b request is = go (bytes_eq a (codes "invoke")) where
  go : (i : Bool) → is_some (if i then request >>= asked_on first b else None) ≡ false
  go true = unasked first b request is
  go false = refl

-- what is no side begins no line of three words or more
no_more : (first a b : List ℕ) (words : List (List ℕ)) → IsOther first → is_some (line_of (first ∷ a ∷ b ∷ words)) ≡ false
no_more first a b [] is = no_three first a b is
no_more first a b (c ∷ []) is = no_four first a b c is
no_more first a b (c ∷ d ∷ []) is = no_five first a b c d is
no_more first a b (c ∷ d ∷ e ∷ []) is = no_six first a b c d e is
no_more first a b (c ∷ d ∷ e ∷ f ∷ []) is = refl
no_more first a b (c ∷ d ∷ e ∷ f ∷ g ∷ []) is = refl
no_more first a b (c ∷ d ∷ e ∷ f ∷ g ∷ h ∷ []) is = no_nine first a b (invoke_request_of c d e f g h) is
no_more first a b (c ∷ d ∷ e ∷ f ∷ g ∷ h ∷ i ∷ words) is = refl

by_length : (first : List ℕ) (words : List (List ℕ)) → IsOther first → (is_some (line_of (first ∷ words)) || stands_in_story first words) ≡ Short words first
by_length first [] is = one first
by_length first (word ∷ []) is = two first word is
by_length first (word ∷ second ∷ words) is = or_false _ ∙ no_more first word second words is

-- the words behind what is no side have a form exactly where they are read, or stand in a story alone
pub alone_formed : (first : List ℕ) (words : List (List ℕ)) → engine_of first ≡ None
    → (is_some (line_of (first ∷ words)) || stands_in_story first words) ≡ has_form (words_named first forms_alone) first words
alone_formed first words is = by_length first words is ∙ sym (by_count forms_alone first words refl)
