-- What is due by the rows of one dialogue is what lapses there by the marks.
use Rattle.std.proofs.Common.{◌≡◌, ℕ, ◌+◌, ◌==◌, ◌&&◌, Bool, true, false, cond, nat_le, List, [], ◌∷◌, map, refl, sym}
use Rattle.std.proofs.Common.{ap, ◌∙◌}
use Rattle.std.proofs.Common.{Option, Some, None}
use Rattle.std.proofs.lemmas.Bool.{eqb-true, true≢false}
use Rattle.std.specs.Prelude.{is_none, is_some, filter_map, option_map}
use Rattle.std.specs.List.{cons_option}
use Rattle.tcap_invocation.specs.declared.invocations.lapse.Lapse.{Lapse}
use Rattle.tcap_invocation.specs.declared.stage.Stage.TheVariants.{Waiting}
use Rattle.tcap_invocation.specs.Invocations.{Row}
use Rattle.tcap_invocation.specs.Lapses.{due_at, lapse_of, lapse_with}
use Rattle.tcap_laws.proofs.Decisions.CountedHistories.{over_decided}
use Rattle.tcap_laws.proofs.Decisions.OpenReplies.{found_alive}
use Rattle.tcap_laws.proofs.Decisions.ToldInvocations.{IsFound, each_found}
use Rattle.tcap_laws.proofs.Rows.InvocationsLeft.{same_kept}
use Rattle.tcap_laws.proofs.Spans.DecisionSteps.{closing_of_decision, undecided}
use Rattle.tcap_laws.proofs.Spans.LatestInvocations.{own_number}
use Rattle.tcap_laws.proofs.Spans.MarksAfterBirth.{was_alive}
use Rattle.tcap_laws.proofs.Spans.SupersededInvocations.{latest_if_open}
use Rattle.tcap_model.specs.Histories.Clock.{clock}
use Rattle.tcap_model.specs.Histories.History.{Start}
use Rattle.tcap_model.specs.Histories.Life.{Life, is_standing, life}
use Rattle.tcap_model.specs.Histories.Pair.{Past}
use Rattle.tcap_model.specs.Invocations.Closings.{Told}
use Rattle.tcap_model.specs.Invocations.Deadline.{sent_clock, deadline}
use Rattle.tcap_model.specs.Invocations.Decision.{decision}
use Rattle.tcap_model.specs.Invocations.Invocation.{Invocation, invocations, latest}
use Rattle.tcap_model.specs.Invocations.Outcome.{is_sent_in, outcome_of, outcome}
use Rattle.tcap_model.specs.Invocations.Span.{span}
use Rattle.tcap_model.specs.Replies.Held.{is_waiting}
use Rattle.tcap_model.specs.Replies.Legal.{AreReplies}
use Rattle.tcap_model.specs.Replies.Reply.{Lapsing, lapsing_by, lapsing_at}
use Rattle.tcap_model.specs.Table.DueLapses.{DueLapse}
use Rattle.tcap_model.specs.Table.World.{stage_by, row_by, is_number, row_of, rows_of, pending_stage}
use Rattle.tcap_model.specs.Words.Output.{Closing}

-- ---- lists

-- what is due of a row
abbrev pub due_row : ℕ → ℕ → Option Row → Option DueLapse
due_row now d None = None
due_row now d (Some r) = option_map (λ lapse. record { dialogue = d; lapse = lapse }) (lapse_of now r)

rows_due : (now d : ℕ) (row_at : Invocation → Option Row) (is : List Invocation)
    → map (λ (lapse : Lapse). record { dialogue = d; lapse = lapse }) (due_at now (filter_map row_at is)) ≡ filter_map
    (λ i. due_row now d (row_at i)) is
rows_due now d row_at [] = refl
rows_due now d row_at (i ∷ is) = go (row_at i) (rows_due now d row_at is)
  where
    made : Lapse → DueLapse
    made lapse = record { dialogue = d; lapse = lapse }

    rest : List DueLapse
    rest = filter_map (λ i. due_row now d (row_at i)) is

    one : (o : Option Lapse) → map made (due_at now (filter_map row_at is)) ≡ rest
        → map made (cons_option o (due_at now (filter_map row_at is))) ≡ cons_option (option_map made o) rest
    one None e = e
    one (Some lapse) e = ap (λ z. made lapse ∷ z) e

    go : (o : Option Row) → map made (due_at now (filter_map row_at is)) ≡ rest
        → map made (due_at now (cons_option o (filter_map row_at is))) ≡ cons_option (due_row now d o) rest
    go None e = e
    go (Some r) e = one (lapse_of now r) e

-- ---- one invocation

-- a lapse, as it is due in its dialogue
abbrev pub due_of : Lapsing → DueLapse
due_of l = record {
  dialogue = l.invocation.dialogue;
  lapse = record { deadline = l.deadline; number = l.invocation.number; id = l.invocation.id };
}

-- what is due of an invocation, by its marks
abbrev pub due_by_marks : Past → ℕ → Invocation → Option DueLapse
due_by_marks past now i = option_map due_of (lapsing_at past now i)

-- the same, in a dialogue
abbrev pub due_there : Past → ℕ → ℕ → Invocation → Option DueLapse
due_there past now d i = cond (i.dialogue == d) (due_by_marks past now i) None

module _ (start : Start) (past : Past) (legal : AreReplies start past) (now : ℕ) where
  module _ (i : Invocation) (found : IsFound past i) where
    sent_is : (o : Option Closing) → outcome i.number past ≡ o
        → is_sent_in i.class i.timeout (span i past) ≡ (is_some (sent_clock (span i past)) && is_none o)
    sent_is o e =
        ap (λ c. is_some (sent_clock (span i past)) && is_none c) (sym (ap (λ j. outcome_of j past) found) ∙ e)

    unsent : (o : Option ℕ) → lapsing_by now false i o ≡ None
    unsent None = refl
    unsent (Some t) = refl

    and_no : (b : Bool) → (b && false) ≡ false
    and_no true = refl
    and_no false = refl

    -- one that is decided doesn't lapse
    pub decided_stays : (c : Closing) → outcome i.number past ≡ Some c → due_by_marks past now i ≡ None
    decided_stays c e =
        ap (λ b. option_map due_of (lapsing_by now b i (deadline i past)))
        (sent_is (Some c) e ∙ and_no (is_some (sent_clock (span i past))))
        ∙ ap (option_map due_of) (unsent (deadline i past))

    -- in a dialogue that doesn't stand none lapses
    pub fallen_stays : is_standing (life i.dialogue past) ≡ false → due_by_marks past now i ≡ None
    fallen_stays fallen = by_life (life i.dialogue past) refl fallen
      where
        decided : (o : Option Closing) → outcome i.number past ≡ o → life i.dialogue past ≡ Life.over
            → due_by_marks past now i ≡ None
        decided None e over = absurd (over_decided start past i.number i legal found over e)
        decided (Some c) e over = decided_stays c e

        by_life : (l : Life) → life i.dialogue past ≡ l → is_standing l ≡ false → due_by_marks past now i ≡ None
        by_life Life.unborn e f =
            absurd (true≢false (sym (found_alive start past i.number i legal found) ∙ ap was_alive e))
        by_life (Life.standing state context) e f = absurd (true≢false f)
        by_life Life.over e f = decided (outcome i.number past) refl e

    module _ (reject_ms : ℕ) where
      -- one that is decided has no row, or one that waits
      decided_row : (d : Option Told) (c : Closing) → option_map (λ (t : Told). t.closing) d ≡ Some c
          → due_row now i.dialogue (row_by i (stage_by reject_ms past i d)) ≡ None
      decided_row None c e = absurd cc
      decided_row (Some t) c e = go (is_waiting reject_ms i.dialogue i.id past t)
        where
          go : (b : Bool) → due_row now i.dialogue
              (row_by i (cond b (Some (Waiting (clock t.place + reject_ms))) None)) ≡ None
          go true = refl
          go false = refl

      open_row : outcome i.number past ≡ None
          → due_row now i.dialogue (row_by i (Some (pending_stage i (deadline i past)))) ≡ due_by_marks past now i
      open_row e = go (sent_clock (span i past)) refl
        where
          go : (o : Option ℕ) → sent_clock (span i past) ≡ o
              → due_row now i.dialogue (row_by i (Some (pending_stage i (option_map (λ sent. sent + i.timeout) o))))
              ≡ option_map due_of (lapsing_by now (is_sent_in i.class i.timeout (span i past)) i
              (option_map (λ sent. sent + i.timeout) o))
          go None q = refl
          go (Some s) q = due (nat_le (s + i.timeout) now)
              ∙ sym (ap (λ b. option_map due_of (lapsing_by now b i (Some (s + i.timeout))))
              (sent_is None e ∙ ap (λ o. is_some o && true) q))
            where
              due : (b : Bool) → option_map (λ (lapse : Lapse). record { dialogue = i.dialogue; lapse = lapse })
                  (lapse_with i.id i.number (cond b (Some (s + i.timeout)) None)) ≡ option_map due_of
                  (cond b (Some (record { deadline = s + i.timeout; invocation = i })) None)
              due true = refl
              due false = refl

      row_due : (o : Option Closing) → outcome i.number past ≡ o
          → due_row now i.dialogue (cond (is_number i.number (latest i.dialogue i.id past))
          (row_by i (stage_by reject_ms past i (decision i.number past))) None) ≡ due_by_marks past now i
      row_due None e =
          ap (λ b. due_row now i.dialogue (cond b (row_by i (stage_by reject_ms past i (decision i.number past))) None))
          (ap (is_number i.number) (latest_if_open start past i.number i legal found e) ∙ own_number i)
          ∙ (ap (λ d. due_row now i.dialogue (row_by i (stage_by reject_ms past i d))) (undecided i.number past e)
          ∙ open_row e)
      row_due (Some c) e = go (is_number i.number (latest i.dialogue i.id past)) ∙ sym (decided_stays c e)
        where
          go : (b : Bool) → due_row now i.dialogue
              (cond b (row_by i (stage_by reject_ms past i (decision i.number past))) None) ≡ None
          go true = decided_row (decision i.number past) c (closing_of_decision i.number past ∙ e)
          go false = refl

      one_due : (d : ℕ) → due_row now d (row_of reject_ms d past i) ≡ due_there past now d i
      one_due d = go (i.dialogue == d) refl
        where
          at : (k : ℕ) → Option DueLapse
          at k =
              due_row now k (cond (is_number i.number (latest i.dialogue i.id past))
              (row_by i (stage_by reject_ms past i (decision i.number past))) None)

          go : (b : Bool) → (i.dialogue == d) ≡ b
              → due_row now d (cond (b && is_number i.number (latest i.dialogue i.id past))
              (row_by i (stage_by reject_ms past i (decision i.number past))) None) ≡ cond b
              (due_by_marks past now i) None
          go true e = ap at (sym (eqb-true i.dialogue d e)) ∙ row_due (outcome i.number past) refl
          go false e = refl

  -- ---- one dialogue

  -- what is due by its rows
  pub due-by_rows : (reject_ms d : ℕ) → map (λ (lapse : Lapse). record { dialogue = d; lapse = lapse })
      (due_at now (rows_of reject_ms d past)) ≡ filter_map (due_there past now d) (invocations past)
  due-by_rows reject_ms d =
      rows_due now d (row_of reject_ms d past) (invocations past)
      ∙ same_kept (IsFound past) (λ i. due_row now d (row_of reject_ms d past i)) (due_there past now d)
      (λ i found. one_due i found reject_ms d) (invocations past) (each_found start past legal)
