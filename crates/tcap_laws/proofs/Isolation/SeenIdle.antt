-- A moment tells a dialogue of its own idle end what it would tell it alone.
use Rattle.std.proofs.Common.{◌≡◌, ℕ, ◌==◌, Bool, true, false, cond, if◌then◌else◌, ◌&&◌, List, [], ◌∷◌, ◌++◌, Contains, Option, Some, None, is_none, append-nil, refl, sym, ap, subst, ◌∙◌}
use Rattle.std.proofs.lemmas.Bool.{eqb-true}
use Rattle.std.proofs.lemmas.List.Elements.{filter-append}
use Rattle.std.specs.List.{AllByRecursion, cons_option, flat_map}
use Rattle.std.specs.Prelude.{filter, filter_map, option_to_list}
use Rattle.tcap_laws.proofs.Births.NumbersFound.{invocation_of-found}
use Rattle.tcap_laws.proofs.Isolation.KeyedLists.{filter-in_order}
use Rattle.tcap_laws.proofs.Isolation.OwnInvocations.{is_of_dialogue, only_invocations, own_true}
use Rattle.tcap_laws.proofs.Isolation.SeenInvocations.{found_span}
use Rattle.tcap_laws.proofs.Isolation.SeenLives.{born_within, only_clock, only_life, only_touched, seen_or_not, unseen}
use Rattle.tcap_laws.proofs.Isolation.SeenRequests.{filter_map_own}
use Rattle.tcap_model.specs.Histories.Birth.{born_by, dialogues}
use Rattle.tcap_model.specs.Histories.Clock.{clock}
use Rattle.tcap_model.specs.Histories.History.{Start}
use Rattle.tcap_model.specs.Histories.Life.{Life, life, touched, live_in}
use Rattle.tcap_model.specs.Histories.Pair.{Past}
use Rattle.tcap_model.specs.Invocations.Invocation.{Invocation, invocations}
use Rattle.tcap_model.specs.Invocations.Marks.{Mark, Noted}
use Rattle.tcap_model.specs.Invocations.Outcome.{first_closing}
use Rattle.tcap_model.specs.Invocations.Span.{span}
use Rattle.tcap_model.specs.Replies.Legal.{AreReplies}
use Rattle.tcap_model.specs.Replies.Reply.{is_idle_by, idle_key, idle_dialogues, marks_up_to_moment, ended_at_moment, idle_told}
use Rattle.tcap_model.specs.Statements.Only.{is_output_of, is_seen_by, only}
use Rattle.tcap_model.specs.Words.KeyOrder.{key_before, put, in_order}
use Rattle.tcap_model.specs.Words.LocalId.{is_that}
use Rattle.tcap_model.specs.Words.Output.{Output, Closing, AbortCause, ComponentIndication, DialogueIndication}
use Rattle.tcap_model.specs.Words.Time.{is_idle}

-- ---- lists

filter-all : {X : Type 0} (out : X → Bool) (b : Bool) (ys : List X) → AllByRecursion (λ y. out y ≡ b) ys
    → filter out ys ≡ cond b ys []
filter-all out true [] all = refl
filter-all out false [] all = refl
filter-all out true (y ∷ ys) all = rw all.0 (ap (λ l. y ∷ l) (filter-all out true ys all.1))
filter-all out false (y ∷ ys) all = rw all.0 (filter-all out false ys all.1)

-- what is told entry by entry, of some entries alone
filter-flat : {X Y : Type 0} (own : X → Bool) (out : Y → Bool) (f : X → List Y)
    → ((x : X) → AllByRecursion (λ y. out y ≡ own x) (f x)) → (xs : List X)
    → filter out (flat_map f xs) ≡ flat_map f (filter own xs)
filter-flat own out f all [] = refl
filter-flat {X = X} {Y = Y} own out f all (x ∷ xs) =
    filter-append out (f x) (flat_map f xs)
    ∙ (ap (λ l. l ++ filter out (flat_map f xs)) (filter-all out (own x) (f x) (all x))
    ∙ (ap (λ l. cond (own x) (f x) [] ++ l) (filter-flat own out f all xs) ∙ go (own x)))
  where
    go : (b : Bool) → cond b (f x) [] ++ flat_map f (filter own xs)
        ≡ flat_map f (cond b (x ∷ filter own xs) (filter own xs))
    go true = refl
    go false = refl

-- two tests one after the other, in either order; they need agree on the entries that are kept alone
filter-swap : {X : Type 0} (own p q : X → Bool) → ((x : X) → own x ≡ true → p x ≡ q x) → (xs : List X)
    → filter own (filter p xs) ≡ filter q (filter own xs)
filter-swap own p q same [] = refl
filter-swap {X = X} own p q same (x ∷ xs) = go (own x) (p x) refl refl (filter-swap own p q same xs)
  where
    go : (a b : Bool) → own x ≡ a → p x ≡ b → filter own (filter p xs) ≡ filter q (filter own xs)
        → filter own (cond b (x ∷ filter p xs) (filter p xs)) ≡ filter q (cond a (x ∷ filter own xs) (filter own xs))
    go true true e r ih = rw (e, sym (same x e) ∙ r) (ap (λ l. x ∷ l) ih)
    go true false e r ih = rw (sym (same x e) ∙ r) ih
    go false true e r ih = rw e ih
    go false false e r ih = ih

flat-same : {X Y : Type 0} (own : X → Bool) (f g : X → List Y) → ((x : X) → own x ≡ true → f x ≡ g x)
    → (xs : List X) → flat_map f (filter own xs) ≡ flat_map g (filter own xs)
flat-same own f g same [] = refl
flat-same {X = X} {Y = Y} own f g same (x ∷ xs) = go (own x) refl (flat-same own f g same xs)
  where
    go : (b : Bool) → own x ≡ b → flat_map f (filter own xs) ≡ flat_map g (filter own xs)
        → flat_map f (cond b (x ∷ filter own xs) (filter own xs))
        ≡ flat_map g (cond b (x ∷ filter own xs) (filter own xs))
    go true e ih = ap (λ l. l ++ flat_map f (filter own xs)) (same x e) ∙ ap (λ l. g x ++ l) ih
    go false e ih = ih

-- one number again and again is in order already
put-same : (key : ℕ → List ℕ) (d : ℕ) (ys : List ℕ) → AllByRecursion (λ y. (y == d) ≡ true) ys
    → put key d ys ≡ d ∷ ys
put-same key d [] all = refl
put-same key d (y ∷ ys) all = go (key_before key y d) (put-same key d ys all.1)
  where
    same : y ≡ d
    same = eqb-true y d all.0

    go : (b : Bool) → put key d ys ≡ d ∷ ys → cond b (y ∷ put key d ys) (d ∷ y ∷ ys) ≡ d ∷ y ∷ ys
    go true rest = ap (λ l. y ∷ l) rest ∙ (ap (λ x. x ∷ d ∷ ys) same ∙ ap (λ x. d ∷ x ∷ ys) (sym same))
    go false rest = refl

in_order-same : (key : ℕ → List ℕ) (d : ℕ) (xs : List ℕ) → AllByRecursion (λ y. (y == d) ≡ true) xs
    → in_order key xs ≡ xs
in_order-same key d [] all = refl
in_order-same key d (x ∷ xs) all =
    let same : x ≡ d = eqb-true x d all.0 in
    ap (put key x) (in_order-same key d xs all.1)
    ∙ subst (λ (w : ℕ). put key w xs ≡ w ∷ xs) (sym same) (put-same key d xs all.1)

filter-each : {X : Type 0} (own : X → Bool) (xs : List X) → AllByRecursion (λ x. own x ≡ true) (filter own xs)
filter-each own [] = tt
filter-each {X = X} own (x ∷ xs) = go (own x) refl (filter-each own xs)
  where
    go : (b : Bool) → own x ≡ b → AllByRecursion (λ x. own x ≡ true) (filter own xs)
        → AllByRecursion (λ x. own x ≡ true) (cond b (x ∷ filter own xs) (filter own xs))
    go true e all = (e, all)
    go false e all = all

-- ---- the births that a dialogue sees

module _ (dialogue : ℕ) where
  abbrev pub is_own : ℕ → Bool
  is_own d = d == dialogue

  unborn-here : (o : Option ℕ) → is_that dialogue o ≡ false → filter is_own (option_to_list o) ≡ []
  unborn-here None e = refl
  unborn-here (Some d) e = rw e refl

  own-births : (past : Past) → filter is_own (dialogues (only dialogue past)) ≡ filter is_own (dialogues past)
  own-births [] = refl
  own-births (pair ∷ past) = go (is_seen_by dialogue pair past) refl (own-births past)
    where
      here : List ℕ
      here = option_to_list (born_by pair)

      both : filter is_own (dialogues past ++ here) ≡ filter is_own (dialogues past) ++ filter is_own here
      both = filter-append is_own (dialogues past) here

      go : (b : Bool) → is_seen_by dialogue pair past ≡ b
          → filter is_own (dialogues (only dialogue past)) ≡ filter is_own (dialogues past)
          → filter is_own (dialogues (seen_or_not dialogue b pair past)) ≡ filter is_own (dialogues (pair ∷ past))
      go true e ih =
          ap (λ (o : Option ℕ). filter is_own (dialogues (only dialogue past) ++ option_to_list o))
          (born_within dialogue pair.event pair.answer pair.idle_ms)
          ∙ (filter-append is_own (dialogues (only dialogue past)) here
          ∙ (ap (λ l. l ++ filter is_own here) ih ∙ sym both))
      go false e ih =
          ih ∙ sym (both ∙ (ap (λ l. filter is_own (dialogues past) ++ l)
          (unborn-here (born_by pair) (unseen dialogue pair past e).no_birth) ∙ append-nil (filter is_own (dialogues past))))

-- ---- what is told

told-own : (dialogue d : ℕ) (past : Past) (now : ℕ)
    → AllByRecursion (λ o. is_output_of dialogue o ≡ is_own dialogue d) (idle_told past now d)
told-own dialogue d past now = (refl, each (invocations past))
  where
    one : (i : Invocation) (others : List Output) (test : Bool)
        → AllByRecursion (λ o. is_output_of dialogue o ≡ is_own dialogue d) others
        → AllByRecursion (λ o. is_output_of dialogue o ≡ is_own dialogue d) (cons_option (if test
        then Some (Output.component (ComponentIndication.closed d i.number i.id Closing.ended)) else None) others)
    one i others true all = (refl, all)
    one i others false all = all

    each : (is : List Invocation)
        → AllByRecursion (λ o. is_output_of dialogue o ≡ is_own dialogue d) (filter_map (ended_at_moment d past now) is)
    each [] = tt
    each (i ∷ is) =
        one i (filter_map (ended_at_moment d past now) is)
        ((i.dialogue == d) && is_none (first_closing i.class i.timeout (marks_up_to_moment past now i))) (each is)

module _ (start : Start) (dialogue : ℕ) (past : Past) (legal : AreReplies start past) (idle_ms now : ℕ) where
  abbrev seen : Past
  seen = only dialogue past

  abbrev told_at : Past → Invocation → List Noted → Option Output
  told_at at i ms = if (i.dialogue == dialogue) && is_none (first_closing i.class i.timeout ms)
      then Some (Output.component (ComponentIndication.closed dialogue i.number i.id Closing.ended)) else None

  ended-same : (i : Invocation) → Contains (invocations past) i → is_of_dialogue dialogue i ≡ true
      → ended_at_moment dialogue seen now i ≡ ended_at_moment dialogue past now i
  ended-same i at own =
      ap (λ ms. told_at past i (ms ++ record { clock = clock seen; mark = Mark.moment now } ∷ []))
      (found_span start dialogue past legal i.number i (invocation_of-found start past legal i at)
      (own_true dialogue i own))
      ∙ ap (λ c. told_at past i (span i past ++ record { clock = c; mark = Mark.moment now } ∷ []))
      (only_clock dialogue past)

  told-same : idle_told seen now dialogue ≡ idle_told past now dialogue
  told-same =
      ap (λ os. Output.dialogue (DialogueIndication.p_abort dialogue AbortCause.idle) ∷ os)
      (ap (filter_map (ended_at_moment dialogue seen now)) (only_invocations start dialogue past legal)
      ∙ filter_map_own (is_of_dialogue dialogue) (ended_at_moment dialogue past now)
      (ended_at_moment dialogue seen now) (invocations past) ended-same
      (λ i e. ap (λ b. if b && is_none (first_closing i.class i.timeout (marks_up_to_moment past now i)) then Some
      (Output.component (ComponentIndication.closed dialogue i.number i.id Closing.ended)) else None) e))

  idle-same : (d : ℕ) → is_own dialogue d ≡ true → is_idle_by idle_ms seen now d ≡ is_idle_by idle_ms past now d
  idle-same d own =
      subst (λ (x : ℕ). is_idle_by idle_ms seen now x ≡ is_idle_by idle_ms past now x) (sym (eqb-true d dialogue own))
      (ap (λ (l : Life). live_in l && is_idle idle_ms (touched dialogue seen) now) (only_life dialogue past)
      ∙ ap (λ last. live_in (life dialogue past) && is_idle idle_ms last now) (only_touched dialogue past))

  -- the dialogue itself, as often as it was created and is idle
  abbrev itself : List ℕ
  itself = filter (is_own dialogue) (filter (is_idle_by idle_ms past now) (dialogues past))

  own-seen : filter (is_own dialogue) (filter (is_idle_by idle_ms seen now) (dialogues seen)) ≡ itself
  own-seen =
      filter-swap (is_own dialogue) (is_idle_by idle_ms seen now) (is_idle_by idle_ms past now) idle-same
      (dialogues seen)
      ∙ (ap (filter (is_idle_by idle_ms past now)) (own-births dialogue past)
      ∙ sym (filter-swap (is_own dialogue) (is_idle_by idle_ms past now) (is_idle_by idle_ms past now) (λ d own. refl)
      (dialogues past)))

  own-told : (at : Past) (key : ℕ → List ℕ) (ds : List ℕ) → filter (is_own dialogue) ds ≡ itself
      → filter (is_output_of dialogue) (flat_map (idle_told at now) (in_order key ds)) ≡ flat_map (idle_told at now) itself
  own-told at key ds are =
      filter-flat (is_own dialogue) (is_output_of dialogue) (idle_told at now) (λ d. told-own dialogue d at now)
      (in_order key ds)
      ∙ ap (flat_map (idle_told at now))
      (filter-in_order key (is_own dialogue) ds
      ∙ (in_order-same key dialogue (filter (is_own dialogue) ds) (filter-each (is_own dialogue) ds) ∙ are))

  pub only_idle : filter (is_output_of dialogue) (flat_map (idle_told past now) (idle_dialogues idle_ms past now))
      ≡ filter (is_output_of dialogue) (flat_map (idle_told seen now) (idle_dialogues idle_ms seen now))
  only_idle =
      own-told past (idle_key idle_ms past) (filter (is_idle_by idle_ms past now) (dialogues past)) refl
      ∙ (flat-same (is_own dialogue) (idle_told past now) (idle_told seen now)
      (λ d own. subst (λ (x : ℕ). idle_told past now x ≡ idle_told seen now x) (sym (eqb-true d dialogue own))
      (sym told-same)) (filter (is_idle_by idle_ms past now) (dialogues past))
      ∙ sym (own-told seen (idle_key idle_ms seen) (filter (is_idle_by idle_ms seen now) (dialogues seen)) own-seen))
