-- The engine at a history with one pair more, from the engine before it.
use Rattle.std.proofs.Common.{◌≡◌, ◌<◌, ℕ, zero, suc, ◌+◌, ◌==◌, false, cond, List, [], ◌∷◌, ◌++◌, Option, Some, None}
use Rattle.std.proofs.Common.{filter_map, refl, sym, ap, ◌∙◌, arith}
use Rattle.std.proofs.lemmas.Bool.Decides.{nat_tests}
use Rattle.std.proofs.lemmas.List.{append-nil}
use Rattle.std.specs.Prelude.{is_some, option_to_list}
use Rattle.std.specs.List.{cons_option, range_with_len}
use Rattle.tcap_laws.proofs.Births.DrawnDialogues.{dialogues-drawn}
use Rattle.tcap_model.specs.Histories.Birth.{births, born_by, dialogues, is_birth_of, next_dialogue}
use Rattle.tcap_model.specs.Histories.Clock.{clock}
use Rattle.tcap_model.specs.Histories.History.{History}
use Rattle.tcap_model.specs.Histories.Life.{Life, life, touched, life_after, life_at_birth}
use Rattle.tcap_model.specs.Histories.Pair.{Pair}
use Rattle.tcap_model.specs.Invocations.Invocation.{invoked_by, invokes, next_number}
use Rattle.tcap_model.specs.Replies.Legal.{IsLegal}
use Rattle.tcap_model.specs.Replies.Reply.{reply}
use Rattle.tcap_model.specs.Statements.EngineMoves.{with_pair, moved_at}
use Rattle.tcap_model.specs.Table.Agreement.{due_pair}
use Rattle.tcap_model.specs.Table.Dialogue.{Dialogue}
use Rattle.tcap_model.specs.Table.EngineMove.{EngineMoved}
use Rattle.tcap_model.specs.Table.World.{World, dialogue_at, dialogue_by, world_of}
use Rattle.tcap_model.specs.Words.Answer.{Answer}
use Rattle.tcap_model.specs.Words.Event.{Event}
use Rattle.tcap_model.specs.Words.LocalId.{is_that}

-- ---- lists

pub same-map : {X Y : Type 0} (f g : X → Option Y) → ((x : X) → f x ≡ g x) → (xs : List X)
    → filter_map f xs ≡ filter_map g xs
same-map f g same [] = refl
same-map f g same (x ∷ xs) =
    ap (λ o. cons_option o (filter_map f xs)) (same x) ∙ ap (cons_option (g x)) (same-map f g same xs)

same_range : {Y : Type 0} (f g : ℕ → Option Y) (a n : ℕ) → ((i : ℕ) → i < a + n → f i ≡ g i)
    → filter_map f (range_with_len a n) ≡ filter_map g (range_with_len a n)
same_range f g a zero same = refl
same_range f g a (suc n) same =
    ap (λ o. cons_option o (filter_map f (range_with_len (a + 1) n))) (same a (omega arith))
    ∙ ap (cons_option (g a)) (same_range f g (a + 1) n (λ i lt. same i (omega (arith, lt))))

joined_map : {X Y : Type 0} (f : X → Option Y) (xs ys : List X)
    → filter_map f (xs ++ ys) ≡ filter_map f xs ++ filter_map f ys
joined_map f [] ys = refl
joined_map {Y = Y} f (x ∷ xs) ys = go (f x) (joined_map f xs ys)
  where
    go : (o : Option Y) → filter_map f (xs ++ ys) ≡ filter_map f xs ++ filter_map f ys
        → cons_option o (filter_map f (xs ++ ys)) ≡ cons_option o (filter_map f xs) ++ filter_map f ys
    go None e = e
    go (Some y) e = ap (λ z. y ∷ z) e

module _ (h : History) (event : Event) where
  abbrev pub here : Pair
  here = due_pair h event

  -- the dialogue of an identifier before the event, and after it
  abbrev pub before : ℕ → Option Dialogue
  before = dialogue_at h.start.reject_ms h.start.idle_ms h.pairs

  abbrev pub later : ℕ → Option Dialogue
  later = dialogue_at h.start.reject_ms h.start.idle_ms (here ∷ h.pairs)

  -- ---- one dialogue

  absent_stays : (i : ℕ) → is_birth_of i here ≡ false → before i ≡ None → later i ≡ None
  absent_stays i unborn e = go (life i h.pairs) e
    where
      go : (l : Life) → dialogue_by h.start.reject_ms h.start.idle_ms i h.pairs l ≡ None
          → dialogue_by h.start.reject_ms h.start.idle_ms i (here ∷ h.pairs)
          (life_after i (touched i h.pairs) l here) ≡ None
      go Life.unborn e =
          ap (λ b. dialogue_by h.start.reject_ms h.start.idle_ms i (here ∷ h.pairs) (life_at_birth b event)) unborn
      go (Life.standing state context) e = absurd cc
      go Life.over e = refl

  -- one that isn't born here is as it was, if it is so where it stands
  pub each-stays : (i : ℕ) → is_birth_of i here ≡ false → ((d : Dialogue) → before i ≡ Some d → later i ≡ Some d)
      → later i ≡ before i
  each-stays i unborn stays = go (before i) refl
    where
      go : (o : Option Dialogue) → before i ≡ o → later i ≡ before i
      go None e = absent_stays i unborn e ∙ sym e
      go (Some d) e = stays d e ∙ sym e

  -- ---- the engine

  -- the engine with these counters, this clock and these dialogues
  abbrev pub made : ℕ → ℕ → ℕ → List Dialogue → World
  made next number now ds = record {
    max_dialogues = h.start.max_dialogues;
    reject_ms = h.start.reject_ms;
    idle_ms = h.start.idle_ms;
    next_dialogue = next;
    next_number = number;
    clock = now;
    dialogues = ds;
  }

  pub world-made : (next number now : ℕ) (ds : List Dialogue) → next_dialogue (with_pair h event) ≡ next
      → next_number (with_pair h event) ≡ number
      → clock (here ∷ h.pairs) ≡ now → filter_map later (dialogues (here ∷ h.pairs)) ≡ ds
      → world_of (with_pair h event) ≡ made next number now ds
  world-made next number now ds p q r s =
      let all = filter_map later (dialogues (here ∷ h.pairs)) in
      ap (λ n. made n (next_number (with_pair h event)) (clock (here ∷ h.pairs)) all) p
      ∙ (ap (λ n. made next n (clock (here ∷ h.pairs)) all) q
      ∙ (ap (λ n. made next number n all) r ∙ ap (made next number now) s))

  pub moved-made : (answer : Answer) (after : World) → answer ≡ reply h event → world_of (with_pair h event) ≡ after
      → record { answer = answer; after = after } ≡ moved_at h event
  moved-made answer after p q =
      let moved : Answer → World → EngineMoved = λ a w. record { answer = a; after = w } in
      ap (λ a. moved a after) p ∙ ap (moved (reply h event)) (sym q)

  pub number-kept : invoked_by here ≡ None → next_number (with_pair h event) ≡ next_number h
  number-kept e = ap (λ o. h.start.next_number + cond (is_some o) (invokes h.pairs + 1) (invokes h.pairs)) e

  module _ (none : born_by here ≡ None) where
    pub none-born : (i : ℕ) → is_birth_of i here ≡ false
    none-born i = ap (is_that i) none

    pub next-kept : next_dialogue (with_pair h event) ≡ next_dialogue h
    next-kept = ap (λ o. h.start.next_dialogue + cond (is_some o) (births h.pairs + 1) (births h.pairs)) none

    pub dialogues-kept : dialogues (here ∷ h.pairs) ≡ dialogues h.pairs
    dialogues-kept = ap (λ o. dialogues h.pairs ++ option_to_list o) none ∙ append-nil (dialogues h.pairs)

    -- where nothing changes
    pub world-stays : invoked_by here ≡ None → clock (here ∷ h.pairs) ≡ clock h.pairs
        → ((i : ℕ) (d : Dialogue) → before i ≡ Some d → later i ≡ Some d)
        → world_of (with_pair h event) ≡ world_of h
    world-stays uninvoked still stays =
        world-made (next_dialogue h) (next_number h) (clock h.pairs) (filter_map before (dialogues h.pairs)) next-kept
        (number-kept uninvoked) still
        (ap (filter_map later) dialogues-kept
        ∙ same-map later before (λ i. each-stays i (none-born i) (stays i)) (dialogues h.pairs))

  -- where a dialogue is created
  module _ (legal : IsLegal h) (born : born_by here ≡ Some (next_dialogue h)) where
    earlier : (i : ℕ) → i < next_dialogue h → is_birth_of i here ≡ false
    earlier i lt = ap (is_that i) born ∙ other
      where
        other : (next_dialogue h == i) ≡ false
        other = grind (arith, nat_tests)

    pub world-born : (d : Dialogue) → invoked_by here ≡ None → clock (here ∷ h.pairs) ≡ clock h.pairs
        → later (next_dialogue h) ≡ Some d → ((i : ℕ) (x : Dialogue) → before i ≡ Some x → later i ≡ Some x)
        → world_of (with_pair h event) ≡ made (next_dialogue h + 1) (next_number h) (clock h.pairs)
        (filter_map before (dialogues h.pairs) ++ d ∷ [])
    world-born d uninvoked still new stays =
        world-made (next_dialogue h + 1) (next_number h) (clock h.pairs)
        (filter_map before (dialogues h.pairs) ++ d ∷ [])
        (ap (λ o. h.start.next_dialogue + cond (is_some o) (births h.pairs + 1) (births h.pairs)) born ∙ more)
        (number-kept uninvoked) still
        (ap (λ o. filter_map later (dialogues h.pairs ++ option_to_list o)) born
        ∙ (joined_map later (dialogues h.pairs) (next_dialogue h ∷ [])
        ∙ (ap (λ z. z ++ filter_map later (next_dialogue h ∷ [])) others
        ∙ ap (λ o. filter_map before (dialogues h.pairs) ++ cons_option o []) new)))
      where
        more : h.start.next_dialogue + (births h.pairs + 1) ≡ h.start.next_dialogue + births h.pairs + 1
        more = omega arith

        others : filter_map later (dialogues h.pairs) ≡ filter_map before (dialogues h.pairs)
        others =
            let drawn = dialogues-drawn h.start h.pairs legal.1 in
            ap (filter_map later) drawn
            ∙ (same_range later before h.start.next_dialogue (births h.pairs)
            (λ i lt. each-stays i (earlier i lt) (stays i)) ∙ sym (ap (filter_map before) drawn))
