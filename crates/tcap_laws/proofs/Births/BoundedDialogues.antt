-- At most as many dialogues stand as may.
use Rattle.std.proofs.Common.{◌≡◌, ◌≢◌, ℕ, suc, ◌+◌, ◌≤◌, Bool, true, false, cond, nat_le, List, [], ◌∷◌, length, filter, Contains, option_to_list, Option, Some, None, refl, ap, inl, inr, arith, length-append}
use Rattle.std.proofs.lemmas.Bool.Decides.{nat_tests}
use Rattle.std.proofs.lemmas.List.Elements.{filter-append}
use Rattle.tcap_model.specs.Histories.Birth.{births, born_by, dialogues}
use Rattle.tcap_model.specs.Replies.Due.{birth_due}
use Rattle.tcap_model.specs.Words.Fault.{Fault}
use Rattle.tcap_model.specs.Histories.History.{Start}
use Rattle.tcap_model.specs.Words.Identifiers.{birth_fault, are_dialogues_spent}
use Rattle.tcap_model.specs.Replies.Legal.{AreReplies}
use Rattle.tcap_model.specs.Histories.Life.{Life, is_standing, life, touched, life_after, born_life, standing_dialogues}
use Rattle.tcap_model.specs.Histories.Pair.{Pair, Past}
use Rattle.tcap_laws.proofs.Births.DrawnDialogues.{listed-was_born, pair-born, was_born-lives}
use Rattle.tcap_laws.proofs.Births.BirthReplies.{IsBornNext}

-- ---- fewer pass a stricter test

contains-more : {X : Type 0} (x y : X) (xs : List X) → Contains xs y → Contains (x ∷ xs) y
contains-more x y xs at = (suc at.0, let within = at.1 in omega (arith, within), at.2)

filter-fewer : {X : Type 0} (p q : X → Bool) (xs : List X) → ((x : X) → Contains xs x → p x ≡ true → q x ≡ true)
    → length (filter p xs) ≤ length (filter q xs)
filter-fewer p q [] stricter = omega arith
filter-fewer p q (x ∷ xs) stricter =
    go (p x) (q x) (stricter x (0, omega arith, refl))
    (filter-fewer p q xs (λ y at. stricter y (contains-more x y xs at)))
  where
    go : (a b : Bool) → (a ≡ true → b ≡ true) → length (filter p xs) ≤ length (filter q xs)
        → length (cond a (x ∷ filter p xs) (filter p xs)) ≤ length (cond b (x ∷ filter q xs) (filter q xs))
    go true true e le = omega (arith, le)
    go false true e le = omega (arith, le)
    go false false e le = le
    go true false e le = let never = e refl in absurd cc

-- ---- a dialogue that was created and stands stood before

stood : (dialogue : ℕ) (pair : Pair) (past : Past) → life dialogue past ≢ Life.unborn
    → is_standing (life dialogue (pair ∷ past)) ≡ true → is_standing (life dialogue past) ≡ true
stood dialogue pair past born stands = go (life dialogue past) born stands
  where
    go : (before : Life) → before ≢ Life.unborn
        → is_standing (life_after dialogue (touched dialogue past) before pair) ≡ true
        → is_standing before ≡ true
    go Life.unborn born e = absurd (born refl)
    go (Life.standing state context) born e = refl
    go Life.over born e = absurd cc

stood-fewer : (start : Start) (pair : Pair) (past : Past) → AreReplies start past
    → length (filter (λ dialogue. is_standing (life dialogue (pair ∷ past))) (dialogues past))
    ≤ length (standing_dialogues past)
stood-fewer start pair past legal =
    filter-fewer (λ dialogue. is_standing (life dialogue (pair ∷ past))) (λ dialogue. is_standing (life dialogue past))
    (dialogues past)
    (λ dialogue at. stood dialogue pair past ((was_born-lives start past legal dialogue).0
    (listed-was_born dialogue past at)))

-- ---- a dialogue is created only where there is room

room : (most standing next : ℕ) → birth_fault most standing next ≡ None → standing + 1 ≤ most
room most standing next e = go (nat_le most standing) refl e
  where
    go : (b : Bool) → nat_le most standing ≡ b → cond b (Some Fault.dialogues_full)
        (cond (are_dialogues_spent next) (Some Fault.dialogue_ids_spent) None) ≡ None → standing + 1 ≤ most
    go true q e = absurd cc
    go false q e = grind (arith, nat_tests)

one_born-more : (test : ℕ → Bool) (n most next : ℕ) (due : Option Fault) (born : Option ℕ) (made : Life)
    → IsBornNext next due born made → n ≤ most → (due ≡ None → n + 1 ≤ most)
    → n + length (filter test (option_to_list born)) ≤ most
one_born-more test n most next due born made (inl none) le fits = rw none (omega (arith, le))
one_born-more test n most next due born made (inr birth) le fits = rw birth.is_next (go (test next))
  where
    empty : List ℕ
    empty = []

    go : (b : Bool) → n + length (cond b (next ∷ empty) empty) ≤ most
    go true = let more = fits birth.is_due in omega (arith, more)
    go false = omega (arith, le)

pub dialogues-bounded : (start : Start) (past : Past) → AreReplies start past
    → length (standing_dialogues past) ≤ start.max_dialogues
dialogues-bounded start [] legal = omega arith
dialogues-bounded start (pair ∷ past) legal =
    let test : ℕ → Bool = λ dialogue. is_standing (life dialogue (pair ∷ past)) in
    let split = ap length (filter-append test (dialogues past) (option_to_list (born_by pair))) in
    let both = length-append (filter test (dialogues past)) (filter test (option_to_list (born_by pair))) in
    let fewer = stood-fewer start pair past legal.2 in
    let more = one_born-more test (length (standing_dialogues past)) start.max_dialogues
    (start.next_dialogue + births past) (birth_due (record { start = start; pairs = past })) (born_by pair)
    (born_life pair.event)
    (pair-born start pair past legal) (dialogues-bounded start past legal.2)
    (room start.max_dialogues (length (standing_dialogues past)) (start.next_dialogue + births past)) in
    omega (arith, split, both, fewer, more)
