-- The statements of the headline on worked histories: the premises, and the conclusions.
use Rattle.std.proofs.Common.{◌≡◌, ℕ, ◌≤◌, false, true, List, [], ◌∷◌, length, Option, Some, refl, sym, subst, ◌∙◌, ◌⊎◌, inl, inr, eqb-true, arith}
use Rattle.std.specs.Prelude.{map, ◌==◌}
use Rattle.std.specs.List.{AllByRecursion, filter_map}
use Rattle.std.proofs.lemmas.Bool.{cases_Bool, false≢true}
use Rattle.ber_core.proofs.CallerLemmas.{some_is, by_option}
use Rattle.tcap_model.specs.Words.Answer.{Answer}
use Rattle.tcap_model.specs.Histories.Birth.{is_birth_of}
use Rattle.tcap_model.specs.Words.Event.{Event}
use Rattle.tcap_model.specs.Invocations.Closings.{closings}
use Rattle.tcap_examples.specs.Computing.{computing}
use Rattle.tcap_model.specs.Statements.Headline.{HasOutcome, Counted, Bounded, told_closing, closing_due}
use Rattle.tcap_model.specs.Invocations.Invocation.{Invocation, invocation_of, invocations}
use Rattle.tcap_model.specs.Histories.Names.{names}
use Rattle.tcap_model.specs.Statements.Only.{is_moment}
use Rattle.tcap_model.specs.Invocations.Outcome.{outcome_of}
use Rattle.tcap_model.specs.Histories.Pair.{Pair, Past}
use Rattle.tcap_model.specs.Replies.Queue.{queue, queue_by_event}
use Rattle.tcap_model.specs.Procedures.QueueRules.{Queued, joined, queue_limit}
use Rattle.tcap_model.specs.Table.World.{row_of}
use Rattle.tcap_examples.specs.Statements.HeadlineExamples.{repeated_aare_history, late_result_history, late_result, first, second}

-- ---- outcome

-- What holds of the invocation of a number holds of each that is found for the number.
for_found : (n : ℕ) (past : Past) (k : Invocation) (P : Invocation → Type 0) → invocation_of n past ≡ Some k → P k
    → (i : Invocation) → invocation_of n past ≡ Some i → P i
for_found n past k P found holds i is = subst P (some_is k i (sym found ∙ is)) holds

-- What is stated of the outcome of an invocation.
abbrev TellsOutcome : ℕ → Past → Invocation → Type 0
TellsOutcome n past i = map told_closing (closings n past) ≡ closing_due i (outcome_of (Some i) past)

pub first-outcome : HasOutcome repeated_aare_history 1
unfolding computing
first-outcome = for_found 1 repeated_aare_history.pairs first (TellsOutcome 1 repeated_aare_history.pairs) refl refl

pub second-outcome : HasOutcome repeated_aare_history 2
unfolding computing
second-outcome = for_found 2 repeated_aare_history.pairs second (TellsOutcome 2 repeated_aare_history.pairs) refl refl

pub lapsed-outcome : HasOutcome late_result_history 1
unfolding computing
lapsed-outcome = for_found 1 late_result_history.pairs first (TellsOutcome 1 late_result_history.pairs) refl refl

-- ---- counting

pub second-counted : Counted repeated_aare_history 2
unfolding computing
second-counted = record { most = omega arith; late = λ i t found is past. refl; over = λ i found is. refl }

pub lapsed-counted : Counted late_result_history 1
unfolding computing
lapsed-counted = record { most = omega arith; late = λ i t found is past. refl; over = λ i found is. refl }

-- ---- bound

filter_map-most : {X Y : Type 0} (f : X → Option Y) (xs : List X) → length (filter_map f xs) ≤ length xs
filter_map-most f [] = omega arith
filter_map-most f (x ∷ xs) = let most = filter_map-most f xs in elim (by_option (f x)) [
  | inl none ↦ rw none (omega (arith, most))
  | inr some ↦ rw some.1 (omega (arith, most))
]

-- A pair that neither creates a dialogue nor names it, unless it is a moment.
abbrev IsQuiet : ℕ → Pair → Type 0
IsQuiet dialogue pair =
    (is_birth_of dialogue pair ≡ false) × ((names pair.event dialogue ≡ false) ⊎ (is_moment pair.event ≡ true))

moment_keeps : (dialogue : ℕ) (past : Past) (q : List Queued) (event : Event) (answer : Answer) → is_moment event ≡ true
    → queue_by_event dialogue past q event answer ≡ q
moment_keeps dialogue past q Event.new_dialogue answer is = absurd (false≢true is)
moment_keeps dialogue past q (Event.on_dialogue named request) answer is = absurd (false≢true is)
moment_keeps dialogue past q (Event.received from bytes) answer is = absurd (false≢true is)
moment_keeps dialogue past q (Event.moment now) answer is = refl

quiet_queue : (dialogue : ℕ) (past : Past) → AllByRecursion (IsQuiet dialogue) past → queue dialogue past ≡ []
quiet_queue dialogue [] quiet = refl
quiet_queue dialogue (pair ∷ past) quiet = let others = quiet_queue dialogue past quiet.1 in elim quiet.0.1 [
  | inl unnamed ↦ rw (quiet.0.0, unnamed) others
  | inr moment ↦ elim (cases_Bool (names pair.event dialogue)) [
    | inl named ↦ rw (quiet.0.0, named, moment_keeps dialogue past (queue dialogue past) pair.event pair.answer moment)
        others
    | inr unnamed ↦ rw (quiet.0.0, unnamed) others
  ]
]

late-queue : length (joined (queue 1 late_result.pairs)) ≡ 8
unfolding computing
late-queue = refl

other_queue : (dialogue : ℕ) → (1 == dialogue) ≡ false → queue dialogue late_result.pairs ≡ []
unfolding computing
other_queue dialogue other =
    quiet_queue dialogue late_result.pairs (
      (refl, inl other),
      ((refl, inr refl), ((refl, inr refl), ((refl, inl other), ((refl, inl other), ((other, inl refl), tt))))),
    )

pub late-bounded : Bounded late_result
unfolding computing
late-bounded = record {
  dialogues = omega arith;
  identifiers = λ dialogue. let most =
      filter_map-most (row_of 1000 dialogue late_result.pairs) (invocations late_result.pairs) in omega (arith, most);
  queues = λ dialogue. elim (cases_Bool (1 == dialogue)) [
    | inl own ↦ let is =
        eqb-true 1 dialogue own in subst (λ (d : ℕ). length (joined (queue d late_result.pairs)) ≤ queue_limit) is
        (omega (arith, late-queue))
    | inr other ↦ rw (other_queue dialogue other) (omega arith)
  ];
}

-- What the tests state.
pub ruleset headline_works = (first-outcome, second-outcome, lapsed-outcome, second-counted, lapsed-counted, late-bounded)
