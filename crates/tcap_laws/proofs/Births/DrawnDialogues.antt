-- The dialogues of a legal history: drawn from a counter, born once, and living since.
use Rattle.std.proofs.Common.{◌≡◌, ◌≢◌, ℕ, zero, suc, ◌+◌, ◌<◌, ◌≤◌, ◌↔◌, true, false, Bool, ◌||◌, List, [], ◌∷◌, ◌++◌, length, get_or, AllPairs, Contains, option_to_list, is_some, nat_le, Option, Some, None, if◌then◌else◌, refl, sym, ap, subst, ◌∙◌, inl, inr, arith}
use Rattle.std.specs.List.{range_with_len}
use Rattle.std.proofs.lemmas.Bool.{cases_Bool, eq-eqb, ne_eqb, eqb-true, eqb-false, or_cases, or_parts, or_left, or_right, true≢false}
use Rattle.std.proofs.lemmas.List.Elements.{Contains-append_left, Contains-append_right, Contains-append_cases}
use Rattle.tcap_model.specs.Words.Answer.{Answer}
use Rattle.tcap_model.specs.Histories.Birth.{born_of, born_by, births, next_dialogue, dialogues, is_birth_of, was_born}
use Rattle.tcap_model.specs.Replies.Due.{birth_due}
use Rattle.tcap_model.specs.Words.Event.{Event}
use Rattle.tcap_model.specs.Words.Fault.{Fault}
use Rattle.tcap_model.specs.Histories.History.{History, Start}
use Rattle.tcap_model.specs.Words.Identifiers.{last_dialogue, are_dialogues_spent, birth_fault}
use Rattle.tcap_model.specs.Replies.Legal.{AreReplies}
use Rattle.tcap_model.specs.Histories.Life.{Life, life, standing_dialogues, life_at_birth, born_life}
use Rattle.tcap_model.specs.Words.LocalId.{is_that}
use Rattle.tcap_model.specs.Histories.Pair.{Pair, Past}
use Rattle.tcap_model.specs.Replies.Reply.{reply}
use Rattle.tcap_laws.proofs.Births.BirthReplies.{IsBornNext, reply-born}
use Rattle.tcap_laws.proofs.Births.DrawnCounters.{IsDrawnNext, drawn-step, range-rises}
use Rattle.tcap_laws.proofs.Births.Lives.{born-stays}

-- ---- the counter

pub dialogue-next : (h : History) (event : Event) (dialogue : ℕ) → born_of event (reply h event) ≡ Some dialogue
    → dialogue ≡ next_dialogue h
dialogue-next h event dialogue e = next (born_of event (reply h event)) (born_life event) (reply-born h event) e
  where
    next : (born : Option ℕ) (made : Life) → IsBornNext (next_dialogue h) (birth_due h) born made → born ≡ Some dialogue
        → dialogue ≡ next_dialogue h
    next born made (inl none) e = absurd cc
    next born made (inr birth) e = let is = birth.is_next in cc

pub pair-born : (start : Start) (pair : Pair) (past : Past) → AreReplies start (pair ∷ past)
    → IsBornNext (start.next_dialogue + births past) (birth_due (record { start = start; pairs = past })) (born_by pair)
    (born_life pair.event)
pair-born start pair past legal =
    subst (λ (answer : Answer). IsBornNext (start.next_dialogue + births past)
    (birth_due (record { start = start; pairs = past })) (born_of pair.event answer) (born_life pair.event))
    (sym legal.1) (reply-born (record { start = start; pairs = past }) pair.event)

drawn-born : (next : ℕ) (due : Option Fault) (born : Option ℕ) (made : Life) → IsBornNext next due born made
    → IsDrawnNext next born
drawn-born next due born made (inl none) = inl none
drawn-born next due born made (inr birth) = inr birth.is_next

pub dialogues-drawn : (start : Start) (past : Past) → AreReplies start past
    → dialogues past ≡ range_with_len start.next_dialogue (births past)
dialogues-drawn start [] legal = refl
dialogues-drawn start (pair ∷ past) legal =
    ap (λ (ds : List ℕ). ds ++ option_to_list (born_by pair)) (dialogues-drawn start past legal.2)
    ∙ drawn-step start.next_dialogue (births past) (born_by pair) (is_some (born_by pair)) refl
    (drawn-born (start.next_dialogue + births past) (birth_due (record { start = start; pairs = past })) (born_by pair)
    (born_life pair.event) (pair-born start pair past legal))

pub dialogues-rise : (start : Start) (past : Past) → AreReplies start past → AllPairs (λ c d. c < d) (dialogues past)
dialogues-rise start past legal =
    subst (λ (ds : List ℕ). AllPairs (λ c d. c < d) ds) (sym (dialogues-drawn start past legal))
    (range-rises start.next_dialogue (births past))

-- ---- who was created

same-birth : (dialogue : ℕ) (born : Option ℕ) → is_that dialogue born ≡ true → born ≡ Some dialogue
same-birth dialogue None e = absurd (true≢false (sym e))
same-birth dialogue (Some named) e = ap (λ (d : ℕ). Some d) (eqb-true named dialogue e)

-- no identifier from the counter on was created
pub beyond-unborn : (start : Start) (past : Past) → AreReplies start past → (dialogue : ℕ)
    → start.next_dialogue + births past ≤ dialogue → was_born dialogue past ≡ false
beyond-unborn start [] legal dialogue beyond = refl
beyond-unborn start (pair ∷ past) legal dialogue beyond =
    step (birth_due (record { start = start; pairs = past })) (born_by pair) (born_life pair.event) (births past)
    (was_born dialogue past) (pair-born start pair past legal) beyond
    (λ le. beyond-unborn start past legal.2 dialogue le)
  where
    step : (due : Option Fault) (born : Option ℕ) (made : Life) (n : ℕ) (was : Bool)
        → IsBornNext (start.next_dialogue + n) due born made
        → start.next_dialogue + (if is_some born then n + 1 else n) ≤ dialogue
        → (start.next_dialogue + n ≤ dialogue → was ≡ false) → (is_that dialogue born || was) ≡ false
    step due born made n was (inl none) beyond others = rw none (others (rw none at beyond))
    step due born made n was (inr birth) beyond others =
        let below = rw birth.is_next at beyond in
        rw (birth.is_next, ne_eqb (start.next_dialogue + n) dialogue (λ same. omega (arith, below, same)))
        (others (omega (arith, below)))

pub unborn-life : (dialogue : ℕ) (past : Past) → was_born dialogue past ≡ false → life dialogue past ≡ Life.unborn
unborn-life dialogue [] none = refl
unborn-life dialogue (pair ∷ past) none =
    let parts = or_parts (is_birth_of dialogue pair) (was_born dialogue past) none in
    rw (unborn-life dialogue past parts.1) (ap (λ (birth : Bool). life_at_birth birth pair.event) parts.0)

at-birth : (next : ℕ) (due : Option Fault) (dialogue : ℕ) (born : Option ℕ) (made : Life)
    → IsBornNext next due born made → is_that dialogue born ≡ true → made ≢ Life.unborn
at-birth next due dialogue born made (inl none) is = let same = same-birth dialogue born is in absurd cc
at-birth next due dialogue born made (inr birth) is = λ unborn. let stands = birth.is_life in absurd cc

pub born-life : (start : Start) (past : Past) → AreReplies start past → (dialogue : ℕ) → was_born dialogue past ≡ true
    → life dialogue past ≢ Life.unborn
born-life start [] legal dialogue was = absurd (true≢false (sym was))
born-life start (pair ∷ past) legal dialogue was = elim (cases_Bool (was_born dialogue past)) [
  | inl earlier ↦ born-stays dialogue (pair ∷ []) past (born-life start past legal.2 dialogue earlier)
  | inr never ↦ let was = was in
      let here : is_birth_of dialogue pair ≡ true =
      elim (or_cases (is_birth_of dialogue pair) (was_born dialogue past) was)
      [ inl now ↦ now | inr then' ↦ absurd (true≢false (sym then' ∙ never)) ] in
      rw (unborn-life dialogue past never, here) (at-birth (start.next_dialogue + births past)
      (birth_due (record { start = start; pairs = past })) dialogue (born_by pair) (born_life pair.event)
      (pair-born start pair past legal) here)
]

pub was_born-lives : (start : Start) (past : Past) → AreReplies start past → (dialogue : ℕ)
    → (was_born dialogue past ≡ true) ↔ (life dialogue past ≢ Life.unborn)
was_born-lives start past legal dialogue = (
  born-life start past legal dialogue,
  λ lives. elim (cases_Bool (was_born dialogue past))
      [ inl was ↦ was | inr never ↦ absurd (lives (unborn-life dialogue past never)) ],
)

-- ---- the end of the identifiers

unspent : (most standing next : ℕ) → birth_fault most standing next ≡ None → are_dialogues_spent next ≡ false
unspent most standing next e = elim (cases_Bool (nat_le most standing)) [
  | inl full ↦ let e = e in let some = rw full at e in absurd cc
  | inr room ↦ let e = e in elim (cases_Bool (are_dialogues_spent next)) [
    | inl spent ↦ let e = e in let some = rw (room, spent) at e in absurd cc
    | inr left ↦ left
  ]
]

dialogue_counter-below : (a n : ℕ) (due : Option Fault) (born : Option ℕ) (made : Life)
    → IsBornNext (a + n) due born made → (due ≡ None → are_dialogues_spent (a + n) ≡ false) → a + n ≤ last_dialogue
    → a + (if is_some born then n + 1 else n) ≤ last_dialogue
dialogue_counter-below a n due born made (inl none) left within = rw none within
dialogue_counter-below a n due born made (inr birth) left within =
    let apart = eqb-false (a + n) last_dialogue (left birth.is_due) in
    rw birth.is_next (omega arith)

pub dialogues-below : (start : Start) (past : Past) → AreReplies start past → start.next_dialogue ≤ last_dialogue
    → start.next_dialogue + births past ≤ last_dialogue
dialogues-below start [] legal within = omega arith
dialogues-below start (pair ∷ past) legal within =
    let h : History = record { start = start; pairs = past } in
    dialogue_counter-below start.next_dialogue (births past) (birth_due h) (born_by pair) (born_life pair.event)
    (pair-born start pair past legal)
    (unspent start.max_dialogues (length (standing_dialogues past)) (start.next_dialogue + births past))
    (dialogues-below start past legal.2 within)

-- ---- the list

that-listed : (dialogue : ℕ) (born : Option ℕ) → is_that dialogue born ≡ true → Contains (option_to_list born) dialogue
that-listed dialogue None e = absurd (true≢false (sym e))
that-listed dialogue (Some named) e = (0, omega arith, eqb-true named dialogue e)

listed-that : (dialogue : ℕ) (born : Option ℕ) (k : ℕ) → k < length (option_to_list born)
    → get_or (option_to_list born) k dialogue ≡ dialogue → is_that dialogue born ≡ true
listed-that dialogue None k within at = absurd (omega arith)
listed-that dialogue (Some named) zero within at = eq-eqb named dialogue at
listed-that dialogue (Some named) (suc k) within at = absurd (omega arith)

pub was_born-listed : (dialogue : ℕ) (past : Past) → was_born dialogue past ≡ true → Contains (dialogues past) dialogue
was_born-listed dialogue [] was = absurd (true≢false (sym was))
was_born-listed dialogue (pair ∷ past) was = elim (or_cases (is_birth_of dialogue pair) (was_born dialogue past) was) [
  | inl now ↦ Contains-append_right (dialogues past) (option_to_list (born_by pair)) dialogue
      (that-listed dialogue (born_by pair) now)
  | inr earlier ↦ Contains-append_left (dialogues past) (option_to_list (born_by pair)) dialogue
      (was_born-listed dialogue past earlier)
]

pub listed-was_born : (dialogue : ℕ) (past : Past) → Contains (dialogues past) dialogue → was_born dialogue past ≡ true
listed-was_born dialogue [] at = absurd (omega (arith, at.1))
listed-was_born dialogue (pair ∷ past) at =
    elim (Contains-append_cases (dialogues past) (option_to_list (born_by pair)) dialogue at) [
      | inl earlier ↦ or_right (is_birth_of dialogue pair) (was_born dialogue past) (listed-was_born dialogue past earlier)
      | inr now ↦ or_left (is_birth_of dialogue pair) (was_born dialogue past)
          (listed-that dialogue (born_by pair) now.0 now.1 now.2)
    ]
