-- What the dialogues that were idle too long tell of the number n is what its own dialogue tells.
use Rattle.std.proofs.Common.{◌≡◌, ℕ, ◌==◌, ◌+◌, Bool, true, false, cond, ◌&&◌, ◌||◌, List, [], ◌∷◌, ◌++◌, Option, Some, None, inl, inr, refl, ap, sym, ◌∙◌, arith}
use Rattle.std.proofs.lemmas.Bool.Decides.{nat_tests}
use Rattle.std.proofs.lemmas.List.{append-nil}
use Rattle.std.proofs.lemmas.Grind.{flat_map-append}
use Rattle.std.specs.Prelude.{filter, flat_map, is_none, option_to_list}
use Rattle.std.specs.List.{AllByRecursion}
use Rattle.tcap_laws.proofs.Births.BirthReplies.{IsBornNext}
use Rattle.tcap_laws.proofs.Births.DrawnDialogues.{pair-born, beyond-unborn, unborn-life}
use Rattle.tcap_laws.proofs.Decisions.ToldInvocations.{told_in_order, told_one, gathered_number, told_if_any, told_filter_map}
use Rattle.tcap_laws.proofs.Decisions.ToldOutputs.{told, told-append}
use Rattle.tcap_model.specs.Histories.Birth.{born_by, births, dialogues, was_born}
use Rattle.tcap_model.specs.Histories.History.{Start}
use Rattle.tcap_model.specs.Histories.Life.{born_life, touched, live_in}
use Rattle.tcap_model.specs.Histories.Pair.{Pair, Past}
use Rattle.tcap_model.specs.Invocations.Closings.{Told}
use Rattle.tcap_model.specs.Invocations.Invocation.{Invocation, invocations, invocation_of}
use Rattle.tcap_model.specs.Invocations.Outcome.{first_closing}
use Rattle.tcap_model.specs.Replies.Due.{birth_due}
use Rattle.tcap_model.specs.Replies.Legal.{AreReplies}
use Rattle.tcap_model.specs.Replies.Reply.{is_idle_by, idle_key, idle_dialogues, marks_up_to_moment, ended_at_moment, idle_told}
use Rattle.tcap_model.specs.Words.LocalId.{is_that}
use Rattle.tcap_model.specs.Words.Output.{Output, Closing, ComponentIndication}
use Rattle.tcap_model.specs.Words.Time.{is_idle}

-- ---- lists of dialogues of which at most one tells anything

all_units : (ds : List ℕ) → AllByRecursion (λ d. Unit {0}) ds
all_units [] = tt
all_units (d ∷ ds) = (tt, all_units ds)

abbrev no_told : ℕ → List Told
no_told d = []

none_told : (ds : List ℕ) → flat_map no_told ds ≡ []
none_told [] = refl
none_told (d ∷ ds) = none_told ds

told_kept : (test : ℕ → Bool) (tells : ℕ → List Told) (ds : List ℕ)
    → flat_map tells (filter test ds) ≡ flat_map (λ d. cond (test d) (tells d) []) ds
told_kept test tells [] = refl
told_kept test tells (d ∷ ds) = go (test d) (told_kept test tells ds)
  where
    rest : List Told
    rest = flat_map (λ d. cond (test d) (tells d) []) ds

    go : (b : Bool) → flat_map tells (filter test ds) ≡ rest
        → flat_map tells (cond b (d ∷ filter test ds) (filter test ds)) ≡ cond b (tells d) [] ++ rest
    go true e = ap (λ z. tells d ++ z) e
    go false e = e

module _ (one : ℕ) (tells : ℕ → List Told) (others : (d : ℕ) → (d == one) ≡ false → tells d ≡ []) where
  told_swapped : (x y : ℕ) → tells y ++ tells x ≡ tells x ++ tells y
  told_swapped x y = go (x == one) (y == one) refl refl
    where
      go : (a b : Bool) → (x == one) ≡ a → (y == one) ≡ b → tells y ++ tells x ≡ tells x ++ tells y
      go true true p q =
          let same : x ≡ y = grind (arith, nat_tests) in
          let equal : tells x ≡ tells y = ap tells same in
          ap (λ z. tells y ++ z) equal ∙ ap (λ z. z ++ tells y) (sym equal)
      go true false p q = rw (others y q) (sym (append-nil (tells x)))
      go false b p q = rw (others x p) (append-nil (tells y))

  -- each dialogue that was created is listed once
  listed_step : (start : Start) (pair : Pair) (past : Past) (born : Option ℕ) (was : Bool)
      → AreReplies start (pair ∷ past) → born_by pair ≡ born → was_born one past ≡ was
      → cond was (tells one) [] ++ flat_map tells (option_to_list born) ≡ cond (is_that one born || was) (tells one) []
  listed_step start pair past None was legal p q = append-nil (cond was (tells one) [])
  listed_step start pair past (Some d) was legal p q = go (d == one) was refl q
    where
      go : (same was : Bool) → (d == one) ≡ same → was_born one past ≡ was
          → cond was (tells one) [] ++ (tells d ++ []) ≡ cond (same || was) (tells one) []
      go false was u w = rw (others d u) (append-nil (cond was (tells one) []))
      go true false u w = let is : d ≡ one = grind (arith, nat_tests) in append-nil (tells d) ∙ ap tells is
      go true true u w = new (pair-born start pair past legal)
        where
          new : IsBornNext (start.next_dialogue + births past) (birth_due (record { start = start; pairs = past }))
              (born_by pair) (born_life pair.event)
              → tells one ++ (tells d ++ []) ≡ tells one
          new (inl none) = absurd cc
          new (inr birth) =
              let next : d ≡ start.next_dialogue + births past = let is = sym p ∙ birth.is_next in cc in
              let before : was_born one past ≡ false =
              beyond-unborn start past legal.2 one (let is : d ≡ one = grind (arith, nat_tests) in omega arith) in
              absurd cc

  told_listed : (start : Start) (past : Past) → AreReplies start past
      → flat_map tells (dialogues past) ≡ cond (was_born one past) (tells one) []
  told_listed start [] legal = refl
  told_listed start (pair ∷ past) legal =
      flat_map-append tells (dialogues past) (option_to_list (born_by pair))
      ∙ (ap (λ z. z ++ flat_map tells (option_to_list (born_by pair))) (told_listed start past legal.2)
      ∙ listed_step start pair past (born_by pair) (was_born one past) legal refl refl)

-- ---- a moment

module _ (n : ℕ) (place past : Past) (now : ℕ) where
  -- what a dialogue tells of an invocation, where it was idle too long
  abbrev pub told_by_idle : ℕ → Invocation → List Told
  told_by_idle dialogue i = told_if_any n place (ended_at_moment dialogue past now i)

  ended_others : (dialogue : ℕ) (i : Invocation) → (i.number == n) ≡ false → told_by_idle dialogue i ≡ []
  ended_others dialogue i e = go ((i.dialogue == dialogue)
      && is_none (first_closing i.class i.timeout (marks_up_to_moment past now i)))
    where
      go : (b : Bool) → told_if_any n place (cond b
          (Some (Output.component (ComponentIndication.closed dialogue i.number i.id Closing.ended))) None) ≡ []
      go true = rw e refl
      go false = refl

  ended_elsewhere : (i : Invocation) (dialogue : ℕ) → (dialogue == i.dialogue) ≡ false → told_by_idle dialogue i ≡ []
  ended_elsewhere i dialogue e = let apart : (i.dialogue == dialogue) ≡ false = grind (arith, nat_tests) in rw apart refl

  -- what its own dialogue tells of it, if it was idle too long
  abbrev pub idle_of : ℕ → Invocation → List Told
  idle_of idle_ms i = cond (is_idle_by idle_ms past now i.dialogue) (told_by_idle i.dialogue i) []

  module _ (start : Start) (legal : AreReplies start past) where
    idle_each : (ds : List ℕ) → told n place (flat_map (idle_told past now) ds)
        ≡ flat_map (λ d. told_one (told_by_idle d) (invocation_of n past)) ds
    idle_each [] = refl
    idle_each (d ∷ ds) =
        told-append n place (idle_told past now d) (flat_map (idle_told past now) ds)
        ∙ (ap (λ z. z ++ told n place (flat_map (idle_told past now) ds))
        (told_filter_map n place (ended_at_moment d past now) (invocations past)
        ∙ gathered_number n (told_by_idle d) (ended_others d) start past legal)
        ∙ ap (λ z. told_one (told_by_idle d) (invocation_of n past) ++ z) (idle_each ds))

    module _ (idle_ms : ℕ) (i : Invocation) where
      abbrev test : ℕ → Bool
      test = is_idle_by idle_ms past now

      abbrev kept : ℕ → List Told
      kept d = cond (test d) (told_by_idle d i) []

      kept_elsewhere : (d : ℕ) → (d == i.dialogue) ≡ false → kept d ≡ []
      kept_elsewhere d e = go (test d)
        where
          go : (b : Bool) → cond b (told_by_idle d i) [] ≡ []
          go true = ended_elsewhere i d e
          go false = refl

      -- one that wasn't born isn't live
      if_born : (b : Bool) → was_born i.dialogue past ≡ b → cond b (kept i.dialogue) [] ≡ kept i.dialogue
      if_born true e = refl
      if_born false e =
          let never : test i.dialogue ≡ false =
          ap (λ l. live_in l && is_idle idle_ms (touched i.dialogue past) now) (unborn-life i.dialogue past e) in
          rw never refl

      idle_found : flat_map (λ d. told_by_idle d i) (idle_dialogues idle_ms past now) ≡ idle_of idle_ms i
      idle_found =
          told_in_order (idle_key idle_ms past) (λ d. told_by_idle d i) (λ d. Unit {0})
          (λ x y p q. told_swapped i.dialogue (λ d. told_by_idle d i) (ended_elsewhere i) x y)
          (filter test (dialogues past)) (all_units (filter test (dialogues past)))
          ∙ (told_kept test (λ d. told_by_idle d i) (dialogues past)
          ∙ (told_listed i.dialogue kept kept_elsewhere start past legal
          ∙ if_born (was_born i.dialogue past) refl))

    pub idle_number : (idle_ms : ℕ) → told n place (flat_map (idle_told past now) (idle_dialogues idle_ms past now))
        ≡ told_one (idle_of idle_ms) (invocation_of n past)
    idle_number idle_ms = idle_each (idle_dialogues idle_ms past now) ∙ go (invocation_of n past)
      where
        go : (o : Option Invocation) → flat_map (λ d. told_one (told_by_idle d) o) (idle_dialogues idle_ms past now)
            ≡ told_one (idle_of idle_ms) o
        go None = none_told (idle_dialogues idle_ms past now)
        go (Some i) = idle_found idle_ms i
