-- The rows of a dialogue after an invoke on it.
use Rattle.std.proofs.Common.{◌≡◌, ℕ, ℤ, ◌+◌, ◌==◌, ◌&&◌, Bool, true, false, cond, not, [], ◌∷◌, ◌++◌, Option, Some, None, refl, ap, sym, ◌∙◌, arith}
use Rattle.std.proofs.lemmas.Bool.Decides.{nat_tests}
use Rattle.std.proofs.lemmas.List.{append-nil}
use Rattle.std.proofs.lemmas.List.Elements.{filter_map-append}
use Rattle.std.specs.Prelude.{filter_map, is_some, option_to_list}
use Rattle.std.specs.List.{cons_option}
use Rattle.std.specs.Option.{option_or}
use Rattle.tcap_invocation.specs.declared.stage.Stage.{Stage}
use Rattle.tcap_invocation.specs.declared.stage.Stage.TheVariants.{Queued, Waiting}
use Rattle.tcap_laws.proofs.Spans.DecisionSteps.{undecided}
use Rattle.tcap_laws.proofs.Rows.InvocationsLeft.{same_kept}
use Rattle.tcap_laws.proofs.Spans.LatestInvocations.{has_own_id, id_of, own_number, new_number, new_found, other_number}
use Rattle.tcap_laws.proofs.Rows.RowStages.{stage_more, stage_is, stage_now, stage_then, stage_unless}
use Rattle.tcap_laws.proofs.Spans.SpanSteps.{span_new}
use Rattle.tcap_laws.proofs.Rows.StagesByMarks.{marked_stage}
use Rattle.tcap_laws.proofs.Spans.SupersededInvocations.{latest_found}
use Rattle.tcap_laws.proofs.Decisions.ToldInvocations.{IsFound, each_found}
use Rattle.tcap_model.specs.Histories.Clock.{clock}
use Rattle.tcap_model.specs.Invocations.Closings.{Told}
use Rattle.tcap_model.specs.Invocations.Decision.{decided_of, decided_at, decision}
use Rattle.tcap_model.specs.Replies.Held.{pair_ends_wait, is_waiting, holds_identifier, held_by, held}
use Rattle.tcap_model.specs.Histories.History.{Start}
use Rattle.tcap_model.specs.Invocations.Invocation.{Invocation, invoked_by, invocations, has_id, with_id, latest}
use Rattle.tcap_model.specs.Replies.Legal.{AreReplies}
use Rattle.tcap_model.specs.Invocations.Marks.{marks}
use Rattle.tcap_model.specs.Invocations.Outcome.{outcome_of}
use Rattle.tcap_model.specs.Histories.Pair.{Pair, Past}
use Rattle.tcap_model.specs.Invocations.Span.{is_invoked, span}
use Rattle.tcap_model.specs.Table.World.{stage_by, row, row_by, is_number, row_of, rows_of}

module _ (reject_ms : ℕ) (start : Start) (pair : Pair) (past : Past) (legal : AreReplies start (pair ∷ past))
    (new : Invocation) (invoked : invoked_by pair ≡ Some new)
    (still : clock (pair ∷ past) ≡ clock past) (quiet : (k : ℤ) → marks new.dialogue k pair past ≡ [])
    (no_end : (k : ℤ) (u : ℕ) → pair_ends_wait u new.dialogue k pair ≡ false) where
  -- an older invocation of another identifier
  kept_stage : (i : Invocation) → IsFound past i → i.dialogue ≡ new.dialogue → has_id i.dialogue i.id new ≡ false
      → stage_by reject_ms (pair ∷ past) i (decision i.number (pair ∷ past))
      ≡ stage_by reject_ms past i (decision i.number past)
  kept_stage i found same other =
      stage_unless reject_ms start pair past legal.2 i found (ap (is_invoked (has_id i.dialogue i.id)) invoked ∙ other)
      ∙ (one (decision i.number past) ∙ sym (stage_is reject_ms past i found))
    where
      one : (d : Option Told) → stage_then reject_ms start pair past legal.2 i d
          ≡ stage_more reject_ms past i (clock past) (span i past) d
      one None = ap (λ c. marked_stage (c + reject_ms) i.class i.timeout
          (span i past ++ marks i.dialogue i.id pair past)) still
          ∙ ap (marked_stage (clock past + reject_ms) i.class i.timeout)
          (ap (λ z. span i past ++ z) (ap (λ n. marks n i.id pair past) same ∙ quiet i.id)
          ∙ append-nil (span i past))
      one (Some t) =
          ap (λ b. cond (is_waiting reject_ms i.dialogue i.id past t && not b)
          (Some (Waiting (clock t.place + reject_ms))) None)
          (ap (λ n. pair_ends_wait (clock t.place + reject_ms) n i.id pair) same
          ∙ no_end i.id (clock t.place + reject_ms))
          ∙ go (is_waiting reject_ms i.dialogue i.id past t)
        where
          go : (b : Bool) → cond (b && true) (Some (Waiting (clock t.place + reject_ms))) None
              ≡ cond b (Some (Waiting (clock t.place + reject_ms))) None
          go true = refl
          go false = refl

  -- one of this identifier has no row, since the identifier wasn't in use
  module _ (free : held reject_ms new.dialogue new.id past ≡ false) where
    free_stage : (i : Invocation) → held_by reject_ms i.dialogue i.id past (Some i) ≡ false → (d : Option Told)
        → decision i.number past ≡ d → stage_by reject_ms past i d ≡ None
    free_stage i e None q = let never : true ≡ false =
        sym (ap (holds_identifier reject_ms i.dialogue i.id past) q) ∙ e in absurd cc
    free_stage i e (Some t) q =
        ap (λ b. cond b (Some (Waiting (clock t.place + reject_ms))) None)
        (sym (ap (holds_identifier reject_ms i.dialogue i.id past) q) ∙ e)

    no_row : (i : Invocation) → IsFound past i → new.dialogue ≡ i.dialogue → new.id ≡ i.id
        → row_of reject_ms new.dialogue past i ≡ None
    no_row i found d k = go (i.dialogue == new.dialogue) (is_number i.number (latest i.dialogue i.id past)) refl
      where
        not_held : held reject_ms i.dialogue i.id past ≡ false
        not_held = ap (λ n. held reject_ms n i.id past) (sym d)
            ∙ (ap (λ n. held reject_ms new.dialogue n past) (sym k) ∙ free)

        go : (a b : Bool) → is_number i.number (latest i.dialogue i.id past) ≡ b
            → cond (a && b) (row_by i (stage_by reject_ms past i (decision i.number past))) None ≡ None
        go false b e = refl
        go true false e = refl
        go true true e = ap (row_by i) (free_stage i
            (ap (held_by reject_ms i.dialogue i.id past) (sym (latest_found start past i legal.2 found e)) ∙ not_held)
            (decision i.number past) refl)

    abbrev after : Invocation → Option Stage
    after i = stage_by reject_ms (pair ∷ past) i (decision i.number (pair ∷ past))

    -- the rows of older invocations stay
    old_row : (i : Invocation) → IsFound past i → row_of reject_ms new.dialogue (pair ∷ past) i
        ≡ row_of reject_ms new.dialogue past i
    old_row i found =
        ap (λ o. cond ((i.dialogue == new.dialogue) && is_number i.number
        (option_or (with_id i.dialogue i.id o) (latest i.dialogue i.id past))) (row_by i (after i)) None) invoked
        ∙ go (has_id i.dialogue i.id new) refl
      where
        older : Bool
        older = is_number i.number (latest i.dialogue i.id past)

        no_longer : (a : Bool) → cond (a && (new.number == i.number)) (row_by i (after i)) None ≡ None
        no_longer a = ap (λ b. cond (a && b) (row_by i (after i)) None)
            (other_number start pair past legal new i invoked (ap is_some found)) ∙ none a
          where
            none : (a : Bool) → cond (a && false) (row_by i (after i)) None ≡ None
            none true = refl
            none false = refl

        stays : (a : Bool) → (i.dialogue == new.dialogue) ≡ a → has_id i.dialogue i.id new ≡ false
            → cond (a && is_number i.number (latest i.dialogue i.id past)) (row_by i (after i)) None
            ≡ cond (a && is_number i.number (latest i.dialogue i.id past))
            (row_by i (stage_by reject_ms past i (decision i.number past))) None
        stays false q e = refl
        stays true q e = ap (λ s. cond (is_number i.number (latest i.dialogue i.id past)) (row_by i s) None)
            (kept_stage i found (grind (arith, nat_tests)) e)

        go : (b : Bool) → has_id i.dialogue i.id new ≡ b
            → cond ((i.dialogue == new.dialogue) && is_number i.number
            (option_or (cond b (Some new) None) (latest i.dialogue i.id past))) (row_by i (after i)) None
            ≡ row_of reject_ms new.dialogue past i
        go true e = let same =
            id_of i.dialogue i.id new e in no_longer (i.dialogue == new.dialogue) ∙ sym (no_row i found same.0 same.1)
        go false e = stays (i.dialogue == new.dialogue) refl e

    -- the new one is Queued
    new_stage : after new ≡ Some (Queued new.timeout)
    new_stage =
        ap (λ d. stage_by reject_ms (pair ∷ past) new (option_or d (decided_at new.number (pair ∷ past))))
        (undecided new.number past (ap (λ o. outcome_of o past) (new_number start pair past legal new invoked)))
        ∙ (ap (λ o. stage_by reject_ms (pair ∷ past) new (decided_of (pair ∷ past) o))
        (new_found start pair past legal new invoked)
        ∙ (stage_now reject_ms (pair ∷ past) new (outcome_of (Some new) (pair ∷ past))
        ∙ ap (marked_stage (clock (pair ∷ past) + reject_ms) new.class new.timeout)
        (span_new new pair past (ap is_some (new_number start pair past legal new invoked)))))

    new_row : row_of reject_ms new.dialogue (pair ∷ past) new ≡ Some (row new (Queued new.timeout))
    new_row =
        ap (λ o. cond ((new.dialogue == new.dialogue)
        && is_number new.number (option_or (with_id new.dialogue new.id o) (latest new.dialogue new.id past)))
        (row_by new (after new)) None) invoked
        ∙ (ap (λ b. cond ((new.dialogue == new.dialogue)
        && is_number new.number (option_or (cond b (Some new) None) (latest new.dialogue new.id past)))
        (row_by new (after new)) None) (has_own_id new)
        ∙ (ap (λ b. cond (b && (new.number == new.number)) (row_by new (after new)) None) own_dialogue
        ∙ (ap (λ b. cond b (row_by new (after new)) None) (own_number new)
        ∙ ap (row_by new) new_stage)))
      where
        own_dialogue : (new.dialogue == new.dialogue) ≡ true
        own_dialogue = grind (arith, nat_tests)

    pub rows_invoked : rows_of reject_ms new.dialogue (pair ∷ past)
        ≡ rows_of reject_ms new.dialogue past ++ row new (Queued new.timeout) ∷ []
    rows_invoked =
        ap (λ o. filter_map (row_of reject_ms new.dialogue (pair ∷ past)) (invocations past ++ option_to_list o))
        invoked
        ∙ (filter_map-append (row_of reject_ms new.dialogue (pair ∷ past)) (invocations past) (new ∷ [])
        ∙ (ap (λ o. filter_map (row_of reject_ms new.dialogue (pair ∷ past)) (invocations past) ++ cons_option o [])
        new_row
        ∙ ap (λ z. z ++ row new (Queued new.timeout) ∷ [])
        (same_kept (IsFound past) (row_of reject_ms new.dialogue (pair ∷ past)) (row_of reject_ms new.dialogue past)
        (λ i f. old_row i f) (invocations past) (each_found start past legal.2))))
