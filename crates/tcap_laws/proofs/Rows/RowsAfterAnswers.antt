-- The rows after an answer for an identifier, as an operation on its row.
use Rattle.std.proofs.Common.{◌≡◌, ℕ, ℤ, Bool, true, false, cond, List, Option, Some, None, refl, ap, sym, ◌∙◌, subst}
use Rattle.std.specs.Prelude.{is_some}
use Rattle.std.specs.List.{IsDistinct}
use Rattle.std.specs.Map.{keys_of}
use Rattle.std.specs.Ordering.{int_eq}
use Rattle.tcap_component.specs.declared.problem.Kind.{Kind}
use Rattle.tcap_invocation.specs.declared.invocations.Invocation.{Invocation as Entry}
use Rattle.tcap_invocation.specs.declared.stage.Stage.{Stage}
use Rattle.tcap_invocation.specs.declared.stage.Stage.TheVariants.{Queued, Sent, Waiting}
use Rattle.tcap_invocation.specs.Answers.{after_consequence, rows_after, rejected_number, rejected_for, after_reject}
use Rattle.tcap_invocation.specs.Class.{Received, Consequence, class_rule}
use Rattle.tcap_invocation.specs.Invocations.{Row, InvocationList, entry_at, passing, freed}
use Rattle.tcap_invocation.specs.Stage.{is_sent}
use Rattle.tcap_laws.proofs.Rows.LeftSentByRows.{rejecting, reject_rule}
use Rattle.tcap_model.specs.Procedures.Problems.{is_of_answer}
use Rattle.tcap_laws.proofs.Rows.Restaged.{LeavesStage, on_id, restaged, left_rows, freed_rows, moved_rows}
use Rattle.tcap_laws.proofs.Rows.StagesByMarks.{answered_by, answered_stage}

module _ (rows : List Row) (id : ℤ) (received : Received) (until : ℕ) (distinct : IsDistinct int_eq (keys_of rows))
  where
    abbrev pub answered_rows : List Row
    answered_rows = restaged (on_id id (answered_stage until received)) rows

    -- where the identifier's invocation isn't Sent
    none_rows : entry_at rows id ≡ None → answered_rows ≡ rows
    none_rows at = left_rows id (answered_stage until received) rows distinct
        (subst (λ o. LeavesStage (answered_stage until received) o) (sym at) tt)

    kept_rows : (e : Entry) → entry_at rows id ≡ Some e → answered_stage until received e.class e.stage ≡ Some e.stage
        → answered_rows ≡ rows
    kept_rows e at same =
        left_rows id (answered_stage until received) rows distinct
        (subst (λ o. LeavesStage (answered_stage until received) o) (sym at) same)

    module _ (e : Entry) (at : entry_at rows id ≡ Some e) where
      staged : (s : Stage) → e.stage ≡ s → answered_stage until received e.class e.stage
          ≡ answered_stage until received e.class s
      staged s q = ap (answered_stage until received e.class) q

      by_consequence : (deadline : ℕ) → e.stage ≡ Sent deadline → (k : Consequence) → class_rule e.class received ≡ k
          → after_consequence k rows id e until ≡ answered_rows
      by_consequence deadline q Consequence.result_last w =
          sym (moved_rows id (answered_stage until received) rows e (Waiting until) distinct at
          (staged (Sent deadline) q ∙ ap (answered_by until (Sent deadline)) w))
      by_consequence deadline q Consequence.result_more w =
          sym (kept_rows e at (staged (Sent deadline) q ∙ (ap (answered_by until (Sent deadline)) w ∙ ap Some (sym q))))
      by_consequence deadline q Consequence.error_back w =
          sym (moved_rows id (answered_stage until received) rows e (Waiting until) distinct at
          (staged (Sent deadline) q ∙ ap (answered_by until (Sent deadline)) w))
      by_consequence deadline q Consequence.rejected_result w =
          sym (freed_rows id (answered_stage until received) rows e distinct at
          (staged (Sent deadline) q ∙ ap (answered_by until (Sent deadline)) w))
      by_consequence deadline q Consequence.rejected_error w =
          sym (freed_rows id (answered_stage until received) rows e distinct at
          (staged (Sent deadline) q ∙ ap (answered_by until (Sent deadline)) w))
      by_consequence deadline q Consequence.rejected w =
          sym (freed_rows id (answered_stage until received) rows e distinct at
          (staged (Sent deadline) q ∙ ap (answered_by until (Sent deadline)) w))
      by_consequence deadline q Consequence.not_of_the_invoke w =
          sym (kept_rows e at (staged (Sent deadline) q ∙ (ap (answered_by until (Sent deadline)) w ∙ ap Some (sym q))))

      -- by the invocation's stage
      by_stage : (P : Option Entry → List Row) → P None ≡ rows
          → ((deadline : ℕ) → e.stage ≡ Sent deadline → P (Some e) ≡ answered_rows) → (s : Stage) → e.stage ≡ s
          → P (passing is_sent (Some e)) ≡ answered_rows
      by_stage P idle sent (Queued timeout) q =
          ap (λ s. P (cond (is_sent s) (Some e) None)) q
          ∙ (idle ∙ sym (kept_rows e at (staged (Queued timeout) q ∙ ap Some (sym q))))
      by_stage P idle sent (Sent deadline) q = ap (λ s. P (cond (is_sent s) (Some e) None)) q ∙ sent deadline q
      by_stage P idle sent (Waiting u) q =
          ap (λ s. P (cond (is_sent s) (Some e) None)) q
          ∙ (idle ∙ sym (kept_rows e at (staged (Waiting u) q ∙ ap Some (sym q))))

    by_entry : (P : Option Entry → List Row) → P None ≡ rows
        → ((e : Entry) → entry_at rows id ≡ Some e → (deadline : ℕ) → e.stage ≡ Sent deadline
        → P (Some e) ≡ answered_rows) → P (passing is_sent (entry_at rows id)) ≡ answered_rows
    by_entry P idle sent = go (entry_at rows id) refl
      where
        go : (o : Option Entry) → entry_at rows id ≡ o → P (passing is_sent o) ≡ answered_rows
        go None at = idle ∙ sym (none_rows at)
        go (Some e) at = by_stage e at P idle (sent e at) e.stage refl

    pub answer_moves : rows_after (passing is_sent (entry_at rows id)) received rows id until ≡ answered_rows
    answer_moves = by_entry (λ o. rows_after o received rows id until) refl
        (λ e at deadline q. by_consequence e at deadline q (class_rule e.class received) refl)

module _ (list : InvocationList) (id : ℤ) (k : Kind) (until : ℕ) (distinct : IsDistinct int_eq (keys_of list.rows))
  where
    abbrev rejected_rows : List Row
    rejected_rows = answered_rows list.rows id (Received.reject k) until distinct

    reject_moves_by : (e : Entry) → entry_at list.rows id ≡ Some e → (deadline : ℕ) → e.stage ≡ Sent deadline
        → (of : Bool) → class_rule e.class (Received.reject k) ≡ rejecting of
        → (freed list id (is_some (rejected_number (rejecting of) e.number))).rows ≡ rejected_rows
    reject_moves_by e at deadline q true w =
        by_consequence list.rows id (Received.reject k) until distinct e at deadline q Consequence.not_of_the_invoke w
    reject_moves_by e at deadline q false w =
        by_consequence list.rows id (Received.reject k) until distinct e at deadline q Consequence.rejected w

    pub reject_moves : (after_reject list id k).rows ≡ rejected_rows
    reject_moves = by_entry list.rows id (Received.reject k) until distinct
        (λ o. (freed list id (is_some (rejected_for o k))).rows) refl
        (λ e at deadline q. ap (λ c. (freed list id (is_some (rejected_number c e.number))).rows) (reject_rule e.class k)
        ∙ reject_moves_by e at deadline q (is_of_answer k) (reject_rule e.class k))
