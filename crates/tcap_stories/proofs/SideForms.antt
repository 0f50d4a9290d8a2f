-- The words behind a side have a form exactly where a script reads them.
use Rattle.std.proofs.Common.{◌≡◌, ◌&&◌, ℕ, Bool, true, false, List, [], ◌∷◌, codes, bytes_eq, Option, Some, None, is_some, refl, sym, ◌∙◌, if◌then◌else◌}
use Rattle.std.specs.List.{AllByRecursion}
use Rattle.ber_core.specs.Options.{◌>>=◌}
use Rattle.tcap_model.specs.Words.Address.{Address}
use Rattle.tcap_model.specs.Words.Event.{Event}
use Rattle.tcap_model.specs.Words.Request.{DialogueRequest, Ending, Request}
use Rattle.tcap_play.specs.ScriptLine.{abort_request_of, asked_on, begin_request_of, called_on, cancel_request_of, error_request_of, invoke_request_of, last_request_of, line_of, line_of_five, line_of_four, line_of_nine, line_of_six, line_of_three, line_of_two, more_request_of, portion_request_named, portion_request_of, portion_request_on, reject_request_of}
use Rattle.tcap_play.specs.ScriptWords.{dialogue_of, engine_of, named_address, octets_of, optional_octets_of}
use Rattle.tcap_play.specs.Sides.{Engine, address_of, far}
use Rattle.tcap_lines.specs.Fits.{is_address, is_number_within, is_octets}
use Rattle.tcap_lines.specs.Table.{names_of, words_named}
use Rattle.tcap_lines.proofs.CallerLemmas.{abort_fits, and_true, as_long, asked_fits, by_count, by_name, cancel_fits, error_fits, has_form, invoke_fits, last_fits, more_fits, none_read, octets_fit, reject_fits, then_read}
use Rattle.tcap_stories.specs.StoryTable.{forms_on_side}

-- a word is the letter of an engine, and begins no line of its own
pub record IsSide (side : List ℕ) (engine : Engine) : Type 0 where
  pub is : engine_of side ≡ Some engine
  pub undelivered : bytes_eq side (codes "deliver") ≡ false
  pub unrepeated : bytes_eq side (codes "again") ≡ false
  pub unlost : bytes_eq side (codes "lose") ≡ false
  pub unadvanced : bytes_eq side (codes "advance") ≡ false

-- a request on a dialogue of a side
asked : (side : List ℕ) (engine : Engine) → engine_of side ≡ Some engine → (dialogue : List ℕ) (request : Option Request) (c : Bool) → is_some request ≡ c
    → is_some (request >>= asked_on side dialogue) ≡ (is_number_within 0 4294967295 dialogue && c)
asked side engine is dialogue request c there =
    asked_fits dialogue request (asked_on side dialogue) c (λ r. rw is (then_read (dialogue_of dialogue) _ true (λ d. refl))) there

unasked : (side dialogue : List ℕ) (request : Option Request) → is_some request ≡ false → is_some (request >>= asked_on side dialogue) ≡ false
unasked side dialogue None is = refl
unasked side dialogue (Some request) is = absurd cc

-- they have one among the forms of as many words
abbrev Short : List (List ℕ) → List ℕ → Bool
Short words name = has_form (words_named name (as_long forms_on_side words)) name words

abbrev names_for : List (List ℕ) → List (List ℕ)
names_for words = names_of (as_long forms_on_side words)

two : (side : List ℕ) (engine : Engine) → IsSide side engine → (name : List ℕ) → is_some (line_of_two side name) ≡ Short [] name
two side engine s name = rw (s.undelivered, s.unrepeated, s.unlost, s.unadvanced)
    (by_name (λ n. is_some (if bytes_eq n (codes "new") then called_on side Event.new_dialogue else None) ≡ Short [] n) name (names_for [])
    (rw s.is refl, tt) (λ other. rw other.0 refl))

three : (side : List ℕ) (engine : Engine) → IsSide side engine → (name a : List ℕ) → is_some (line_of_three side name a) ≡ Short (a ∷ []) name
three side engine s name a = by_name (λ n. is_some (line_of_three side n a) ≡ Short (a ∷ []) n) name (names_for (a ∷ [])) (
  asked side engine s.is a (Some (Request.dialogue (DialogueRequest.finish Ending.prearranged None []))) true refl,
  (
    then_read (octets_of a) _ true (λ o. rw s.is refl),
    tt,
  ),
)
    (λ other. rw (other.0, other.1.0) refl)

four : (side : List ℕ) (engine : Engine) → IsSide side engine → (name a b : List ℕ) → is_some (line_of_four side name a b) ≡ Short (a ∷ b ∷ []) name
four side engine s name a b = by_name (λ n. is_some (line_of_four side n a b) ≡ Short (a ∷ b ∷ []) n) name (names_for (a ∷ b ∷ [])) (
  asked side engine s.is a (cancel_request_of b) _ (cancel_fits a b),
  (
    then_read (named_address a) _ _ (λ f. then_read (octets_of b) _ true (λ o. rw s.is refl)),
    tt,
  ),
)
    (λ other. rw (other.0, other.1.0) refl)

-- a request with a context and user information, where there is one of this name
portion : (to : Address) (name context information : List ℕ) → ((c : Option (List ℕ)) (i : List ℕ) → is_some (portion_request_named to name c i) ≡ true)
    → is_some (portion_request_of to name context information) ≡ (is_octets context && (is_octets information && true))
portion to name context information there =
    then_read (optional_octets_of context) _ _ (λ c. then_read (octets_of information) _ true (λ i. then_read (portion_request_named to name c i) _ true (λ r. refl) ∙ (and_true _ ∙ there c i)))
    ∙ rw (octets_fit context) refl

unportioned : (to : Address) (name context information : List ℕ) → ((c : Option (List ℕ)) (i : List ℕ) → portion_request_named to name c i ≡ None)
    → is_some (portion_request_of to name context information) ≡ false
unportioned to name context information none =
    none_read (optional_octets_of context) _ (λ c. none_read (octets_of information) _ (λ i. rw (none c i) refl))

portion_on : (side : List ℕ) (engine : Engine) → engine_of side ≡ Some engine → (name context information : List ℕ) (c : Bool)
    → is_some (portion_request_of (address_of (far engine)) name context information) ≡ c → is_some (portion_request_on side name context information) ≡ c
portion_on side engine is name context information c there = rw is there

five : (side : List ℕ) (engine : Engine) → IsSide side engine → (name a b c : List ℕ) → is_some (line_of_five side name a b c) ≡ Short (a ∷ b ∷ c ∷ []) name
five side engine s name a b c = by_name (λ n. is_some (line_of_five side n a b c) ≡ Short (a ∷ b ∷ c ∷ []) n) name (names_for (a ∷ b ∷ c ∷ [])) (
  named (codes "uni") (λ x i. refl),
  (
    named (codes "begin") (λ x i. refl),
    (
      named (codes "continue") (λ x i. refl),
      (
        named (codes "end") (λ x i. refl),
        (
          asked side engine s.is a (abort_request_of b c) _ (abort_fits a b c),
          tt,
        ),
      ),
    ),
  ),
)
    (λ other. (rw other.1.1.1.1.0 (unasked side a (portion_request_on side name b c)
    (portion_on side engine s.is name b c false (unportioned (address_of (far engine)) name b c (λ x i. rw (other.0, other.1.0, other.1.1.0, other.1.1.1.0) refl))))) ∙ sym (unformed other)) where
      named : (n : List ℕ) → ((x : Option (List ℕ)) (i : List ℕ) → is_some (portion_request_named (address_of (far engine)) n x i) ≡ true)
          → is_some (portion_request_on side n b c >>= asked_on side a) ≡ (is_number_within 0 4294967295 a && (is_octets b && (is_octets c && true)))
      named n there = asked side engine s.is a (portion_request_on side n b c) _
          (portion_on side engine s.is n b c _ (portion (address_of (far engine)) n b c there))

      unformed : AllByRecursion (λ n. bytes_eq name n ≡ false) (names_for (a ∷ b ∷ c ∷ [])) → Short (a ∷ b ∷ c ∷ []) name ≡ false
      unformed other = rw (other.0, other.1.0, other.1.1.0, other.1.1.1.0, other.1.1.1.1.0) refl

-- a request to begin with an address
begun : (to context information : List ℕ) → is_some (begin_request_of to context information) ≡ (is_address to && (is_octets context && (is_octets information && true)))
begun to context information = then_read (named_address to) _ _ (λ t. portion t (codes "begin") context information (λ c i. refl))

six : (side : List ℕ) (engine : Engine) → IsSide side engine → (name a b c d : List ℕ) → is_some (line_of_six side name a b c d) ≡ Short (a ∷ b ∷ c ∷ d ∷ []) name
six side engine s name a b c d = by_name (λ n. is_some (line_of_six side n a b c d) ≡ Short (a ∷ b ∷ c ∷ d ∷ []) n) name (names_for (a ∷ b ∷ c ∷ d ∷ [])) (
  asked side engine s.is a (last_request_of b c d) _ (last_fits a b c d),
  (
    asked side engine s.is a (more_request_of b c d) _ (more_fits a b c d),
    (
      asked side engine s.is a (error_request_of b c d) _ (error_fits a b c d),
      (
        asked side engine s.is a (reject_request_of b c d) _ (reject_fits a b c d),
        (
          asked side engine s.is a (begin_request_of b c d) _ (begun b c d),
          tt,
        ),
      ),
    ),
  ),
)
    (λ other. rw (other.0, other.1.0, other.1.1.0, other.1.1.1.0, other.1.1.1.1.0) refl)

nine : (side : List ℕ) (engine : Engine) → IsSide side engine → (name a b c d e f g : List ℕ)
    → is_some (line_of_nine side name a (invoke_request_of b c d e f g)) ≡ Short (a ∷ b ∷ c ∷ d ∷ e ∷ f ∷ g ∷ []) name
nine side engine s name a b c d e f g =
    by_name (λ n. is_some (line_of_nine side n a (invoke_request_of b c d e f g)) ≡ Short (a ∷ b ∷ c ∷ d ∷ e ∷ f ∷ g ∷ []) n) name (names_for (a ∷ b ∷ c ∷ d ∷ e ∷ f ∷ g ∷ []))
    (asked side engine s.is a (invoke_request_of b c d e f g) _ (invoke_fits a b c d e f g), tt)
    (λ other. rw other.0 refl)

-- the words behind a side by how many there are
by_length : (side : List ℕ) (engine : Engine) → IsSide side engine → (name : List ℕ) (words : List (List ℕ)) → is_some (line_of (side ∷ name ∷ words)) ≡ Short words name
by_length side engine s name [] = two side engine s name
by_length side engine s name (a ∷ []) = three side engine s name a
by_length side engine s name (a ∷ b ∷ []) = four side engine s name a b
by_length side engine s name (a ∷ b ∷ c ∷ []) = five side engine s name a b c
by_length side engine s name (a ∷ b ∷ c ∷ d ∷ []) = six side engine s name a b c d
by_length side engine s name (a ∷ b ∷ c ∷ d ∷ e ∷ []) = refl
by_length side engine s name (a ∷ b ∷ c ∷ d ∷ e ∷ f ∷ []) = refl
by_length side engine s name (a ∷ b ∷ c ∷ d ∷ e ∷ f ∷ g ∷ []) = nine side engine s name a b c d e f g
by_length side engine s name (a ∷ b ∷ c ∷ d ∷ e ∷ f ∷ g ∷ h ∷ words) = refl

-- the words behind a side have a form exactly where they are read
pub side_formed : (side : List ℕ) (engine : Engine) → IsSide side engine → (name : List ℕ) (words : List (List ℕ))
    → is_some (line_of (side ∷ name ∷ words)) ≡ has_form (words_named name forms_on_side) name words
side_formed side engine s name words = by_length side engine s name words ∙ sym (by_count forms_on_side name words refl)
