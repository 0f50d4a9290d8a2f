-- What a dialogue sees of a history tells its clock, its life and its marks.
use Rattle.std.proofs.Common.{◌≡◌, ◌≢◌, ℕ, ℤ, Bool, true, false, cond, if◌then◌else◌, ◌&&◌, ◌||◌, List, [], ◌∷◌, refl, ap, sym, ◌∙◌, inl, inr}
use Rattle.std.proofs.lemmas.Bool.{cases_Bool, or_parts}
use Rattle.tcap_laws.proofs.Births.DrawnDialogues.{unborn-life}
use Rattle.tcap_laws.proofs.Spans.MarksAfterBirth.{noted_at_clock}
use Rattle.tcap_model.specs.Words.Answer.{Answer, is_accepted}
use Rattle.tcap_model.specs.Histories.Birth.{born_of, born_by, is_birth_of, was_born}
use Rattle.tcap_model.specs.Histories.Clock.{clock, clock_after}
use Rattle.tcap_model.specs.Words.Event.{Event}
use Rattle.tcap_model.specs.Invocations.Invocation.{invoked_of, invoked_by}
use Rattle.tcap_model.specs.Histories.Life.{Life, life_at_birth, life_by_event, life_if_named, life_after, touches_as_event, touches, touched, life}
use Rattle.tcap_model.specs.Words.LocalId.{is_that}
use Rattle.tcap_model.specs.Invocations.Marks.{Noted, marks_by_event, marks_after_birth, marks}
use Rattle.tcap_model.specs.Histories.Names.{names}
use Rattle.tcap_model.specs.Statements.Only.{answer_within, pair_within, is_moment, is_seen_by, only}
use Rattle.tcap_model.specs.Histories.Pair.{Pair, Past}
use Rattle.tcap_model.specs.Words.Address.{Address}
use Rattle.tcap_model.specs.Histories.Kept.{kept_address, kept_after, kept_by_event, kept_at_birth}

abbrev pub with_answer : Event → Answer → ℕ → Pair
with_answer event answer idle_ms = record { event = event; answer = answer; idle_ms = idle_ms }

module _ (dialogue : ℕ) where
  -- ---- a pair without the outputs of others

  pub within_accepted : (answer : Answer) → is_accepted (answer_within dialogue answer) ≡ is_accepted answer
  within_accepted (Answer.new_dialogue born) = refl
  within_accepted (Answer.number n) = refl
  within_accepted Answer.done = refl
  within_accepted (Answer.given_up n) = refl
  within_accepted (Answer.outputs outputs) = refl
  within_accepted (Answer.refused fault) = refl

  pub event_within : (event : Event) (answer : Answer) (idle_ms : ℕ)
      → (pair_within dialogue event answer idle_ms).event ≡ event
  event_within Event.new_dialogue answer idle_ms = refl
  event_within (Event.on_dialogue asked request) answer idle_ms = refl
  event_within (Event.received from bytes) answer idle_ms = refl
  event_within (Event.moment now) answer idle_ms = refl

  pub accepted_within : (event : Event) (answer : Answer) (idle_ms : ℕ)
      → is_accepted (pair_within dialogue event answer idle_ms).answer ≡ is_accepted answer
  accepted_within Event.new_dialogue answer idle_ms = refl
  accepted_within (Event.on_dialogue asked request) answer idle_ms = refl
  accepted_within (Event.received from bytes) answer idle_ms = refl
  accepted_within (Event.moment now) answer idle_ms = within_accepted answer

  pub born_within : (event : Event) (answer : Answer) (idle_ms : ℕ)
      → born_by (pair_within dialogue event answer idle_ms) ≡ born_of event answer
  born_within Event.new_dialogue answer idle_ms = refl
  born_within (Event.on_dialogue asked request) answer idle_ms = refl
  born_within (Event.received from bytes) answer idle_ms = refl
  born_within (Event.moment now) answer idle_ms = refl

  pub invoked_within : (event : Event) (answer : Answer) (idle_ms : ℕ)
      → invoked_by (pair_within dialogue event answer idle_ms) ≡ invoked_of event answer
  invoked_within Event.new_dialogue answer idle_ms = refl
  invoked_within (Event.on_dialogue asked request) answer idle_ms = refl
  invoked_within (Event.received from bytes) answer idle_ms = refl
  invoked_within (Event.moment now) answer idle_ms = refl

  clock_within : (before : ℕ) (event : Event) (answer : Answer) (idle_ms : ℕ)
      → clock_after before (pair_within dialogue event answer idle_ms).event
      (is_accepted (pair_within dialogue event answer idle_ms).answer) ≡ clock_after before event (is_accepted answer)
  clock_within before Event.new_dialogue answer idle_ms = refl
  clock_within before (Event.on_dialogue asked request) answer idle_ms = refl
  clock_within before (Event.received from bytes) answer idle_ms = refl
  clock_within before (Event.moment now) answer idle_ms =
      ap (clock_after before (Event.moment now)) (within_accepted answer)

  life_within : (last : ℕ) (before : Life) (event : Event) (answer : Answer) (idle_ms : ℕ)
      → life_after dialogue last before (pair_within dialogue event answer idle_ms)
      ≡ life_after dialogue last before (with_answer event answer idle_ms)
  life_within last before Event.new_dialogue answer idle_ms = refl
  life_within last before (Event.on_dialogue asked request) answer idle_ms = refl
  life_within last before (Event.received from bytes) answer idle_ms = refl
  life_within last Life.unborn (Event.moment now) answer idle_ms = refl
  life_within last (Life.standing state context) (Event.moment now) answer idle_ms =
      ap (life_by_event idle_ms last state context (Event.moment now)) (within_accepted answer)
  life_within last Life.over (Event.moment now) answer idle_ms = refl

  touches_within : (before : Life) (event : Event) (answer : Answer) (idle_ms : ℕ)
      → touches dialogue before (pair_within dialogue event answer idle_ms)
      ≡ touches dialogue before (with_answer event answer idle_ms)
  touches_within before Event.new_dialogue answer idle_ms = refl
  touches_within before (Event.on_dialogue asked request) answer idle_ms = refl
  touches_within before (Event.received from bytes) answer idle_ms = refl
  touches_within Life.unborn (Event.moment now) answer idle_ms = refl
  touches_within (Life.standing state context) (Event.moment now) answer idle_ms = refl
  touches_within Life.over (Event.moment now) answer idle_ms = refl

  kept_within : (before : Life) (kept : Address) (event : Event) (answer : Answer) (idle_ms : ℕ)
      → kept_after dialogue before kept (pair_within dialogue event answer idle_ms)
      ≡ kept_after dialogue before kept (with_answer event answer idle_ms)
  kept_within before kept Event.new_dialogue answer idle_ms = refl
  kept_within before kept (Event.on_dialogue asked request) answer idle_ms = refl
  kept_within before kept (Event.received from bytes) answer idle_ms = refl
  kept_within Life.unborn kept (Event.moment now) answer idle_ms = refl
  kept_within (Life.standing state context) kept (Event.moment now) answer idle_ms = refl
  kept_within Life.over kept (Event.moment now) answer idle_ms = refl

  marks_within : (id : ℤ) (last : ℕ) (before : Life) (event : Event) (answer : Answer) (idle_ms : ℕ)
      → marks_after_birth dialogue id last before (pair_within dialogue event answer idle_ms)
      ≡ marks_after_birth dialogue id last before (with_answer event answer idle_ms)
  marks_within id last before Event.new_dialogue answer idle_ms = refl
  marks_within id last before (Event.on_dialogue asked request) answer idle_ms = refl
  marks_within id last before (Event.received from bytes) answer idle_ms = refl
  marks_within id last Life.unborn (Event.moment now) answer idle_ms = refl
  marks_within id last (Life.standing state context) (Event.moment now) answer idle_ms =
      ap (λ b. marks_by_event id (Life.standing state context)
      (life_by_event idle_ms last state context (Event.moment now) b) (Event.moment now) b) (within_accepted answer)
  marks_within id last Life.over (Event.moment now) answer idle_ms =
      ap (marks_by_event id Life.over Life.over (Event.moment now)) (within_accepted answer)

  -- ---- what isn't seen

  pub record IsUnseen (pair : Pair) (past : Past) : Type 0 where
    pub no_moment : is_moment pair.event ≡ false
    pub no_birth : is_birth_of dialogue pair ≡ false
    pub not_named : was_born dialogue past ≡ true → names pair.event dialogue ≡ false

  and_not : (a b : Bool) → (a && b) ≡ false → a ≡ true → b ≡ false
  and_not true b e q = e
  and_not false b e q = absurd cc

  pub unseen : (pair : Pair) (past : Past) → is_seen_by dialogue pair past ≡ false → IsUnseen pair past
  unseen pair past e =
      let both = or_parts (is_moment pair.event || is_birth_of dialogue pair)
      (was_born dialogue past && names pair.event dialogue) e in
      let first = or_parts (is_moment pair.event) (is_birth_of dialogue pair) both.0 in
      record {
        no_moment = first.0;
        no_birth = first.1;
        not_named =
            and_not (was_born dialogue past) (names pair.event dialogue) both.1;
      }

  pub born_if_alive : (past : Past) → life dialogue past ≢ Life.unborn → was_born dialogue past ≡ true
  born_if_alive past lives =
      elim (cases_Bool (was_born dialogue past)) [
        | inl was ↦ was
        | inr never ↦ absurd (lives (unborn-life dialogue past never))
      ]

  module _ (pair : Pair) (past : Past) (is : IsUnseen pair past) where
    pub unseen_clock : clock (pair ∷ past) ≡ clock past
    unseen_clock = go pair.event is.no_moment
      where
        go : (event : Event) → is_moment event ≡ false
            → clock_after (clock past) event (is_accepted pair.answer) ≡ clock past
        go Event.new_dialogue e = refl
        go (Event.on_dialogue asked request) e = refl
        go (Event.received from bytes) e = refl
        go (Event.moment now) e = absurd cc

    pub unnamed_if : (l : Life) → life dialogue past ≡ l → l ≢ Life.unborn → names pair.event dialogue ≡ false
    unnamed_if l q lives = is.not_named (born_if_alive past (λ unborn. lives (sym q ∙ unborn)))

    unmoved : (l : Life) → life dialogue past ≡ l → life_after dialogue (touched dialogue past) l pair ≡ l
    unmoved Life.unborn q = ap (λ b. life_at_birth b pair.event) is.no_birth
    unmoved (Life.standing state context) q =
        ap (λ b. life_if_named b (touched dialogue past) state context pair)
        (unnamed_if (Life.standing state context) q (λ e. cc))
    unmoved Life.over q = refl

    pub unseen_life : life dialogue (pair ∷ past) ≡ life dialogue past
    unseen_life = unmoved (life dialogue past) refl

    untouched : (l : Life) → life dialogue past ≡ l → touches dialogue l pair ≡ false
    untouched Life.unborn q = refl
    untouched (Life.standing state context) q =
        ap (λ b. b && touches_as_event state context pair.event (is_accepted pair.answer))
        (unnamed_if (Life.standing state context) q (λ e. cc))
    untouched Life.over q = refl

    pub unseen_touched : touched dialogue (pair ∷ past) ≡ touched dialogue past
    unseen_touched =
        ap (λ b. if b then clock past else touched dialogue past) (untouched (life dialogue past) refl)

    still_kept : (l : Life) → life dialogue past ≡ l
        → kept_after dialogue l (kept_address dialogue past) pair ≡ kept_address dialogue past
    still_kept Life.unborn q =
        ap (λ b. if b then kept_at_birth pair.event else kept_address dialogue past) is.no_birth
    still_kept (Life.standing state context) q =
        ap (λ b. if b then kept_by_event (kept_address dialogue past) state context pair.event (is_accepted pair.answer)
        else kept_address dialogue past) (unnamed_if (Life.standing state context) q (λ e. cc))
    still_kept Life.over q = refl

    pub unseen_kept : kept_address dialogue (pair ∷ past) ≡ kept_address dialogue past
    unseen_kept = still_kept (life dialogue past) refl

    pub unseen_marks : (id : ℤ) → marks dialogue id pair past ≡ []
    unseen_marks id = go (life dialogue past) refl
      where
        none : List Noted
        none = []

        go : (l : Life) → life dialogue past ≡ l
            → noted_at_clock (clock past) (marks_after_birth dialogue id (touched dialogue past) l pair) ≡ none
        go Life.unborn q = refl
        go (Life.standing state context) q = rw (unnamed_if (Life.standing state context) q (λ e. cc)) refl
        go Life.over q = rw (unnamed_if Life.over q (λ e. cc)) refl

  -- ---- what is seen tells the clock, the birth and the life

  -- the rest, and with it the pair if it is seen
  abbrev pub seen_or_not : Bool → Pair → Past → Past
  seen_or_not b pair past =
      cond b (pair_within dialogue pair.event pair.answer pair.idle_ms ∷ only dialogue past) (only dialogue past)

  pub only_clock : (past : Past) → clock (only dialogue past) ≡ clock past
  only_clock [] = refl
  only_clock (pair ∷ past) = go (is_seen_by dialogue pair past) refl (only_clock past)
    where
      go : (b : Bool) → is_seen_by dialogue pair past ≡ b → clock (only dialogue past) ≡ clock past
          → clock (seen_or_not b pair past) ≡ clock (pair ∷ past)
      go true e same = clock_within (clock (only dialogue past)) pair.event pair.answer pair.idle_ms
          ∙ ap (λ c. clock_after c pair.event (is_accepted pair.answer)) same
      go false e same = same ∙ sym (unseen_clock pair past (unseen pair past e))

  pub only_born : (past : Past) → was_born dialogue (only dialogue past) ≡ was_born dialogue past
  only_born [] = refl
  only_born (pair ∷ past) = go (is_seen_by dialogue pair past) refl (only_born past)
    where
      go : (b : Bool) → is_seen_by dialogue pair past ≡ b
          → was_born dialogue (only dialogue past) ≡ was_born dialogue past
          → was_born dialogue (seen_or_not b pair past) ≡ was_born dialogue (pair ∷ past)
      go true e same = ap (λ o. is_that dialogue o || was_born dialogue (only dialogue past))
          (born_within pair.event pair.answer pair.idle_ms) ∙ ap (λ b. is_birth_of dialogue pair || b) same
      go false e same = same ∙ ap (λ b. b || was_born dialogue past) (sym (unseen pair past e).no_birth)

  -- the life and the last activity together
  abbrev AreSame : Past → Past → Type 0
  AreSame some all = (life dialogue some ≡ life dialogue all) × (touched dialogue some ≡ touched dialogue all)

  only_course : (past : Past) → AreSame (only dialogue past) past
  only_course [] = (refl, refl)
  only_course (pair ∷ past) = go (is_seen_by dialogue pair past) refl (only_course past)
    where
      seen : Past
      seen = only dialogue past

      go : (b : Bool) → is_seen_by dialogue pair past ≡ b → AreSame seen past
          → AreSame (seen_or_not b pair past) (pair ∷ past)
      go true e same = (
        life_within (touched dialogue seen) (life dialogue seen) pair.event pair.answer pair.idle_ms
            ∙ (ap (λ l. life_after dialogue (touched dialogue seen) l pair) same.0
            ∙ ap (λ last. life_after dialogue last (life dialogue past) pair) same.1),
        ap (λ b. if b then clock seen else touched dialogue seen)
            (touches_within (life dialogue seen) pair.event pair.answer pair.idle_ms
            ∙ ap (λ l. touches dialogue l pair) same.0)
            ∙ (ap (λ c. if touches dialogue (life dialogue past) pair then c else touched dialogue seen)
            (only_clock past)
            ∙ ap (λ last. if touches dialogue (life dialogue past) pair then clock past else last) same.1),
      )
      go false e same =
          let other = unseen pair past e in
          (same.0 ∙ sym (unseen_life pair past other), same.1 ∙ sym (unseen_touched pair past other))

  pub only_life : (past : Past) → life dialogue (only dialogue past) ≡ life dialogue past
  only_life past = (only_course past).0

  pub only_touched : (past : Past) → touched dialogue (only dialogue past) ≡ touched dialogue past
  only_touched past = (only_course past).1

  pub only_kept : (past : Past) → kept_address dialogue (only dialogue past) ≡ kept_address dialogue past
  only_kept [] = refl
  only_kept (pair ∷ past) = go (is_seen_by dialogue pair past) refl (only_kept past)
    where
      seen : Past
      seen = only dialogue past

      go : (b : Bool) → is_seen_by dialogue pair past ≡ b → kept_address dialogue seen ≡ kept_address dialogue past
          → kept_address dialogue (seen_or_not b pair past) ≡ kept_address dialogue (pair ∷ past)
      go true e same =
          kept_within (life dialogue seen) (kept_address dialogue seen) pair.event pair.answer pair.idle_ms
          ∙ (ap (λ l. kept_after dialogue l (kept_address dialogue seen) pair) (only_life past)
          ∙ ap (λ kept. kept_after dialogue (life dialogue past) kept pair) same)
      go false e same = same ∙ sym (unseen_kept pair past (unseen pair past e))

  pub seen_marks : (id : ℤ) (pair : Pair) (past : Past)
      → marks dialogue id (pair_within dialogue pair.event pair.answer pair.idle_ms) (only dialogue past)
      ≡ marks dialogue id pair past
  seen_marks id pair past =
      ap (λ c. noted_at_clock c (marks_after_birth dialogue id (touched dialogue seen) (life dialogue seen)
      (pair_within dialogue pair.event pair.answer pair.idle_ms))) (only_clock past)
      ∙ (ap (noted_at_clock (clock past))
      (marks_within id (touched dialogue seen) (life dialogue seen) pair.event pair.answer pair.idle_ms)
      ∙ (ap (λ l. noted_at_clock (clock past) (marks_after_birth dialogue id (touched dialogue seen) l pair))
      (only_life past)
      ∙ ap (λ last. noted_at_clock (clock past) (marks_after_birth dialogue id last (life dialogue past) pair))
      (only_touched past)))
    where
      seen : Past
      seen = only dialogue past
