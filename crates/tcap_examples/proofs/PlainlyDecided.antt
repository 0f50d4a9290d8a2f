-- The plain form of what is told of an invocation, on worked histories and on wrong ones.
use Rattle.std.proofs.Common.{◌≡◌, ℕ, List, [], ◌∷◌, ◌++◌, Some, None, refl, sym, ap, subst, ◌∙◌}
use Rattle.std.specs.Prelude.{pos, drop, take, length}
use Rattle.ber_core.proofs.CallerLemmas.{some_is, not_some}
use Rattle.tcap_examples.proofs.Apart.{apart}
use Rattle.tcap_examples.specs.Computing.{computing}
use Rattle.tcap_examples.specs.Statements.HeadlineExamples.{repeated_aare_history, late_result_history}
use Rattle.tcap_examples.specs.Statements.HeadlineExamples.{faulty_second_history, usual_history}
use Rattle.tcap_examples.specs.Values.HistoryWords.{empty_result}
use Rattle.tcap_examples.specs.Wrong.WrongEnds as ends
use Rattle.tcap_examples.specs.Wrong.WrongHistories.{whole}
use Rattle.tcap_model.specs.Histories.History.{History}
use Rattle.tcap_model.specs.Histories.Pair.{Pair, Past}
use Rattle.tcap_model.specs.Invocations.Closings.{Told, closings}
use Rattle.tcap_model.specs.Invocations.Outcome.{outcome}
use Rattle.tcap_model.specs.Statements.Headline.{PlainlyDecided, IsToldOnce}
use Rattle.tcap_model.specs.Words.Output.{Closing}

-- One closing indication of the first dialogue with this identifier, at this place.
abbrev told_here : Past → ℕ → Closing → Told
told_here place id closing = record { place = place; dialogue = 1; id = pos id; closing = closing }

-- ---- where it holds

module _ (h : History) (n : ℕ) where
  by_one : (told : Told) (pair : Pair) (before newer : Past) → closings n h.pairs ≡ told ∷ [] →
      outcome n h.pairs ≡ Some told.closing →
      told.place ≡ pair ∷ before → h.pairs ≡ newer ++ pair ∷ before →
      outcome n (pair ∷ before) ≡ Some told.closing → outcome n before ≡ None → PlainlyDecided h n
  by_one told pair before newer all is place whole there none = record {
    none = λ never. absurd (not_some told.closing (sym never ∙ is));
    one = λ closing so. subst (λ c. IsToldOnce n c h.pairs) (some_is told.closing closing (sym is ∙ so)) (record {
      told = told;
      pair = pair;
      before = before;
      is_all = all;
      is_closing = refl;
      is_place = place;
      stands = record { later = newer; is_past = whole };
      is_decided = record { is_outcome = there; none_before = none };
    });
  }

  by_none : closings n h.pairs ≡ [] → outcome n h.pairs ≡ None → PlainlyDecided h n
  by_none all none = record { none = λ same. all; one = λ closing so. absurd (not_some closing (sym none ∙ so)) }

pub answered : PlainlyDecided repeated_aare_history 1
unfolding computing
answered = let past = repeated_aare_history.pairs in
    by_one repeated_aare_history 1 (told_here (drop 1 past) 1 empty_result) _ (drop 2 past) (take 1 past)
    refl refl refl refl refl refl

pub ended : PlainlyDecided repeated_aare_history 2
unfolding computing
ended = let past = repeated_aare_history.pairs in
    by_one repeated_aare_history 2 (told_here past 2 Closing.ended) _ (drop 1 past) [] refl refl refl refl refl refl

pub lapsed : PlainlyDecided late_result_history 1
unfolding computing
lapsed = let past = late_result_history.pairs in
    by_one late_result_history 1 (told_here (drop 3 past) 1 Closing.lapsed) _ (drop 4 past) (take 3 past)
    refl refl refl refl refl refl

pub not_closed : PlainlyDecided faulty_second_history 2
unfolding computing
not_closed = by_none faulty_second_history 2 refl refl

-- ---- where it fails

pub told_twice : PlainlyDecided (usual_history (whole ends.double_result)) 1 → ⊥
unfolding computing
told_twice plainly =
    let once = plainly.one empty_result refl in apart (λ (all : List Told). length all) once.is_all refl

-- It is told at a place where it was decided before.
late : (n : ℕ) (past : Past) (closing : Closing) (told : Told) → closings n past ≡ told ∷ [] →
    outcome n (drop 1 told.place) ≡ Some closing → IsToldOnce n closing past → ⊥
late n past closing told all before once =
    let same : told ≡ once.told = let both : told ∷ [] ≡ once.told ∷ [] = sym all ∙ once.is_all in cc in
    let place : drop 1 told.place ≡ once.before = ap (λ (t : Told). drop 1 t.place) same ∙ ap (drop 1) once.is_place in
    not_some closing (sym once.is_decided.none_before ∙ (ap (outcome n) (sym place) ∙ before))

pub told_late : PlainlyDecided (usual_history ends.lapse_told_late) 1 → ⊥
unfolding computing
told_late plainly =
    late 1 ends.lapse_told_late Closing.lapsed (told_here ends.lapse_told_late 1 Closing.lapsed)
    refl refl (plainly.one Closing.lapsed refl)

-- What the tests state.
pub ruleset plainly_decided = (answered, ended, lapsed, not_closed, told_twice, told_late)
