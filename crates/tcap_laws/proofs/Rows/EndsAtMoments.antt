-- The end of a dialogue at a moment, when what is due has lapsed.
use Rattle.std.proofs.Common.{◌≡◌, ℕ, ◌+◌, ◌==◌, ◌&&◌, Bool, true, false, cond, nat_le, nat_lt, List, [], ◌∷◌, Option, Some, None, refl, ap, sym, ◌∙◌, arith}
use Rattle.std.proofs.lemmas.Bool.Decides.{nat_tests}
use Rattle.std.specs.Prelude.{is_none, filter_map, option_map}
use Rattle.std.specs.Option.{option_or}
use Rattle.tcap_invocation.specs.declared.stage.Stage.TheVariants.{Waiting}
use Rattle.tcap_invocation.specs.Invocations.{Row, InvocationList}
use Rattle.tcap_invocation.specs.Lapses.{stays, after_lapse}
use Rattle.tcap_laws.proofs.Decisions.ToldInvocations.{IsFound, each_found}
use Rattle.tcap_laws.proofs.Rows.InvocationsLeft.{row_told, rows_told, same_kept}
use Rattle.tcap_laws.proofs.Rows.Restaged.{if_passing, then_restaged, restaged_listed, passing_rows}
use Rattle.tcap_laws.proofs.Spans.DecisionSteps.{closing_of_decision, undecided, first_closing-append}
use Rattle.tcap_laws.proofs.Spans.LatestInvocations.{own_number}
use Rattle.tcap_laws.proofs.Spans.SupersededInvocations.{latest_if_open}
use Rattle.tcap_model.specs.Histories.Clock.{clock}
use Rattle.tcap_model.specs.Histories.History.{Start}
use Rattle.tcap_model.specs.Histories.Pair.{Past}
use Rattle.tcap_model.specs.Invocations.Closes.{closing_of}
use Rattle.tcap_model.specs.Invocations.Closings.{Told}
use Rattle.tcap_model.specs.Invocations.Deadline.{sent_clock}
use Rattle.tcap_model.specs.Invocations.Decision.{decision}
use Rattle.tcap_model.specs.Invocations.Invocation.{Invocation, invocations, latest}
use Rattle.tcap_model.specs.Invocations.Marks.{Mark, Noted}
use Rattle.tcap_model.specs.Invocations.Outcome.{first_closing, closing_after, outcome_of, outcome}
use Rattle.tcap_model.specs.Invocations.Span.{span}
use Rattle.tcap_model.specs.Replies.Held.{is_waiting}
use Rattle.tcap_model.specs.Replies.Legal.{AreReplies}
use Rattle.tcap_model.specs.Replies.Reply.{marks_up_to_moment, ended_at_moment}
use Rattle.tcap_model.specs.Table.TableMove.{ended_told}
use Rattle.tcap_model.specs.Table.World.{pending_stage, stage_by, row_by, is_number, row_of, rows_of}
use Rattle.tcap_model.specs.Words.Output.{Output, Closing, ComponentIndication}

module _ (reject_ms dialogue now : ℕ) (start : Start) (past : Past) (legal : AreReplies start past) where
  -- a row after the moment, if it is left
  abbrev left : Option Row → Option Row
  left row = then_restaged (if_passing (stays now)) row

  -- ---- one invocation

  module _ (i : Invocation) (found : IsFound past i) where
    abbrev told_here : Option Output
    told_here = Some (Output.component (ComponentIndication.closed dialogue i.number i.id Closing.ended))

    abbrev moment : List Noted
    moment = record { clock = clock past; mark = Mark.moment now } ∷ []

    -- what the moment closes, by whether the invocation is decided and when it was sent
    abbrev closed_by : Option Closing → Option ℕ → Option Closing
    closed_by o s = option_or o (option_or (closing_of i.class i.timeout s (Mark.moment now)) None)

    closing_is : (o : Option Closing) → outcome i.number past ≡ o
        → first_closing i.class i.timeout (marks_up_to_moment past now i) ≡ closed_by o (sent_clock (span i past))
    closing_is o e =
        first_closing-append i.class i.timeout (span i past) moment
        ∙ ap (λ o. option_or o (closing_after i.class i.timeout (span i past) moment))
        (sym (ap (λ o. outcome_of o past) found) ∙ e)

    -- one that is decided has no row, or one that waits
    waiting_row : (t : Told) (b : Bool)
        → row_told dialogue (left (row_by i (cond b (Some (Waiting (clock t.place + reject_ms))) None))) ≡ None
    waiting_row t false = refl
    waiting_row t true = go (stays now (Waiting (clock t.place + reject_ms))) refl
      where
        go : (b : Bool) → stays now (Waiting (clock t.place + reject_ms)) ≡ b
            → row_told dialogue (left (row_by i (Some (Waiting (clock t.place + reject_ms))))) ≡ None
        go true e = rw e refl
        go false e = rw e refl

    decided_row : (d : Option Told) (c : Closing) → option_map (λ (t : Told). t.closing) d ≡ Some c
        → row_told dialogue (left (row_by i (stage_by reject_ms past i d))) ≡ None
    decided_row None c e = absurd cc
    decided_row (Some t) c e = waiting_row t (is_waiting reject_ms i.dialogue i.id past t)

    -- an open one is left unless its deadline is reached
    open_row : (s : Option ℕ)
        → row_told dialogue (left (row_by i (Some (pending_stage i (option_map (λ sent. sent + i.timeout) s)))))
        ≡ cond (is_none (closed_by None s)) told_here None
    open_row None = refl
    open_row (Some k) = go (nat_lt now (k + i.timeout)) (nat_le (k + i.timeout) now) refl refl
      where
        go : (b a : Bool) → nat_lt now (k + i.timeout) ≡ b → nat_le (k + i.timeout) now ≡ a
            → row_told dialogue (left (row_by i (Some (pending_stage i (Some (k + i.timeout))))))
            ≡ cond (is_none (closed_by None (Some k))) told_here None
        go true true p q = absurd (grind (arith, nat_tests))
        go true false p q = rw (p, q) refl
        go false true p q = rw (p, q) refl
        go false false p q = absurd (grind (arith, nat_tests))

    row_tells : (o : Option Closing) → outcome i.number past ≡ o
        → row_told dialogue (left (cond (is_number i.number (latest i.dialogue i.id past))
        (row_by i (stage_by reject_ms past i (decision i.number past))) None))
        ≡ cond (is_none (closed_by o (sent_clock (span i past)))) told_here None
    row_tells None e =
        ap (λ b. row_told dialogue (left (cond b (row_by i (stage_by reject_ms past i (decision i.number past))) None)))
        (ap (is_number i.number) (latest_if_open start past i.number i legal found e) ∙ own_number i)
        ∙ (ap (λ d. row_told dialogue (left (row_by i (stage_by reject_ms past i d)))) (undecided i.number past e)
        ∙ open_row (sent_clock (span i past)))
    row_tells (Some c) e = go (is_number i.number (latest i.dialogue i.id past))
      where
        go : (b : Bool) → row_told dialogue
            (left (cond b (row_by i (stage_by reject_ms past i (decision i.number past))) None)) ≡ None
        go true = decided_row (decision i.number past) c (closing_of_decision i.number past ∙ e)
        go false = refl

    one_told : row_told dialogue (left (row_of reject_ms dialogue past i)) ≡ ended_at_moment dialogue past now i
    one_told = go (i.dialogue == dialogue)
      where
        go : (b : Bool) → row_told dialogue (left (cond (b && is_number i.number (latest i.dialogue i.id past))
            (row_by i (stage_by reject_ms past i (decision i.number past))) None))
            ≡ cond (b && is_none (first_closing i.class i.timeout (marks_up_to_moment past now i))) told_here None
        go true = row_tells (outcome i.number past) refl
            ∙ ap (λ o. cond (is_none o) told_here None) (sym (closing_is (outcome i.number past) refl))
        go false = refl

  -- ---- the end of the dialogue

  abbrev list : InvocationList
  list = record { reject_ms = reject_ms; rows = rows_of reject_ms dialogue past }

  pub ended-at-moment : ended_told dialogue (after_lapse list now)
      ≡ filter_map (ended_at_moment dialogue past now) (invocations past)
  ended-at-moment =
      ap (λ rows. ended_told dialogue (record { reject_ms = reject_ms; rows = rows }))
      (passing_rows (stays now) (rows_of reject_ms dialogue past)
      ∙ restaged_listed (if_passing (stays now)) (row_of reject_ms dialogue past) (invocations past))
      ∙ (rows_told dialogue (λ i. left (row_of reject_ms dialogue past i)) (invocations past)
      ∙ same_kept (IsFound past) (λ i. row_told dialogue (left (row_of reject_ms dialogue past i)))
      (ended_at_moment dialogue past now) (λ i found. one_told i found) (invocations past)
      (each_found start past legal))
