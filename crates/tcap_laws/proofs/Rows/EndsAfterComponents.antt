-- The end of a dialogue after the components of a message, and its rows after the message.
use Rattle.std.proofs.Common.{◌≡◌, ℕ, ℤ, ◌+◌, ◌==◌, ◌&&◌, Bool, true, false, cond, not, List, ◌∷◌, ◌++◌, map, Option, Some, None, refl, ap, sym, ◌∙◌}
use Rattle.std.specs.Prelude.{is_none, option_map}
use Rattle.std.specs.Option.{option_or}
use Rattle.tcap_invocation.specs.declared.stage.Stage.TheVariants.{Waiting}
use Rattle.tcap_laws.proofs.Spans.DecisionSteps.{closing_of_decision, undecided, first_closing-append}
use Rattle.tcap_laws.proofs.Rows.InvocationsLeft.{row_told, rows_told, same_kept}
use Rattle.tcap_laws.proofs.Spans.LatestInvocations.{own_number}
use Rattle.tcap_laws.proofs.Rows.RowStages.{row_if, stage_more, same_stages, stage_pair, stage_after, rows_after}
use Rattle.tcap_laws.proofs.Rows.StagesByMarks.{marked_stage, closed_stage}
use Rattle.tcap_laws.proofs.Spans.SupersededInvocations.{latest_if_open}
use Rattle.tcap_laws.proofs.Decisions.ToldInvocations.{IsFound, each_found}
use Rattle.tcap_model.specs.Histories.Clock.{clock}
use Rattle.tcap_model.specs.Invocations.Closings.{Told}
use Rattle.tcap_model.specs.Procedures.ComponentHandling.{Item}
use Rattle.tcap_model.specs.Invocations.Deadline.{sent_clock}
use Rattle.tcap_model.specs.Invocations.Decision.{decision}
use Rattle.tcap_model.specs.Replies.Held.{is_waiting, is_rejectable, pair_ends_wait}
use Rattle.tcap_model.specs.Histories.History.{Start}
use Rattle.tcap_model.specs.Invocations.Invocation.{Invocation, invoked_by, invocations, latest}
use Rattle.tcap_model.specs.Replies.Legal.{AreReplies}
use Rattle.tcap_model.specs.Invocations.Marks.{Noted, marks, component_marks}
use Rattle.tcap_model.specs.Invocations.Outcome.{closing_after, first_closing, outcome_of, outcome}
use Rattle.tcap_model.specs.Words.Output.{Output, Closing, ComponentIndication}
use Rattle.tcap_model.specs.Histories.Pair.{Pair, Past}
use Rattle.tcap_model.specs.Replies.Reply.{ended_of, ended_in}
use Rattle.tcap_model.specs.Invocations.Span.{span}
use Rattle.tcap_model.specs.Table.TableMove.{ended_told}
use Rattle.tcap_model.specs.Table.World.{stage_by, row_by, is_number, rows_of}
use Rattle.tcap_model.specs.Invocations.SentThere.{marks_up_to}
use Rattle.tcap_laws.proofs.Rows.RowsAfterComponents.{stage_up, rows_up}

module _ (start : Start) (past : Past) (legal : AreReplies start past) (reject_ms dialogue : ℕ) where
  -- ---- the end of a dialogue after some components

  module _ (items : List Item) (i : Invocation) (found : IsFound past i) where
    abbrev told_here : Option Output
    told_here = Some (Output.component (ComponentIndication.closed dialogue i.number i.id Closing.ended))

    abbrev later : List Noted
    later = map (λ mark. record { clock = clock past; mark = mark }) (component_marks i.id items)

    tells_of : (timeout : ℕ) (o : Option Closing) (s : Option ℕ)
        → row_told dialogue (row_by i (closed_stage (clock past + reject_ms) timeout o s)) ≡ cond (is_none o) told_here None
    tells_of timeout None None = refl
    tells_of timeout None (Some k) = refl
    tells_of timeout (Some c) s = go (is_rejectable c)
      where
        go : (b : Bool) → row_told dialogue (row_by i (cond b (Some (Waiting (clock past + reject_ms))) None)) ≡ None
        go true = refl
        go false = refl

    closing_up : first_closing i.class i.timeout (marks_up_to past items i)
        ≡ option_or (outcome i.number past) (closing_after i.class i.timeout (span i past) later)
    closing_up = first_closing-append i.class i.timeout (span i past) later
        ∙ ap (λ o. option_or o (closing_after i.class i.timeout (span i past) later))
        (sym (ap (λ o. outcome_of o past) found))

    decided_tells : (c : Closing) (d : Option Told) → option_map (λ (t : Told). t.closing) d ≡ Some c
        → row_told dialogue (row_by i (stage_more reject_ms past i (clock past) (marks_up_to past items i) d)) ≡ None
    decided_tells c None e = absurd cc
    decided_tells c (Some t) e = go (is_waiting reject_ms i.dialogue i.id past t)
      where
        go : (b : Bool) → row_told dialogue (row_by i (cond b (Some (Waiting (clock t.place + reject_ms))) None)) ≡ None
        go true = refl
        go false = refl

    here_tells : (o : Option Closing) → outcome i.number past ≡ o
        → row_told dialogue (cond (is_number i.number (latest i.dialogue i.id past)) (row_by i (stage_up start past legal reject_ms dialogue items i)) None)
        ≡ cond (is_none (first_closing i.class i.timeout (marks_up_to past items i))) told_here None
    here_tells None e =
        ap (λ b. row_told dialogue (cond b (row_by i (stage_up start past legal reject_ms dialogue items i)) None))
        (ap (is_number i.number) (latest_if_open start past i.number i legal found e) ∙ own_number i)
        ∙ (ap (λ d. row_told dialogue (row_by i (stage_more reject_ms past i (clock past) (marks_up_to past items i)
        d))) (undecided i.number past e)
        ∙ tells_of i.timeout (first_closing i.class i.timeout (marks_up_to past items i))
        (sent_clock (marks_up_to past items i)))
    here_tells (Some c) e =
        go (is_number i.number (latest i.dialogue i.id past))
        ∙ sym (ap (λ o. cond (is_none o) told_here None)
        (closing_up ∙ ap (λ o. option_or o (closing_after i.class i.timeout (span i past) later)) e))
      where
        go : (b : Bool) → row_told dialogue (cond b (row_by i (stage_up start past legal reject_ms dialogue items i)) None) ≡ None
        go true = decided_tells c (decision i.number past) (closing_of_decision i.number past ∙ e)
        go false = refl

    one_told : row_told dialogue (row_if dialogue past (stage_up start past legal reject_ms dialogue items) i) ≡ ended_of dialogue past items i
    one_told = go (i.dialogue == dialogue)
      where
        go : (b : Bool) → row_told dialogue (cond (b && is_number i.number (latest i.dialogue i.id past))
            (row_by i (stage_up start past legal reject_ms dialogue items i)) None) ≡ cond (b
            && is_none (first_closing i.class i.timeout (marks_up_to past items i))) told_here None
        go true = here_tells (outcome i.number past) refl
        go false = refl

  pub ended_after : (items : List Item) → ended_told dialogue (record { reject_ms = reject_ms; rows = rows_up start past legal reject_ms dialogue items })
      ≡ ended_in dialogue past items
  ended_after items =
      rows_told dialogue (row_if dialogue past (stage_up start past legal reject_ms dialogue items)) (invocations past)
      ∙ same_kept (IsFound past) (λ i. row_told dialogue (row_if dialogue past (stage_up start past legal reject_ms dialogue items) i))
      (ended_of dialogue past items) (λ i found. one_told items i found) (invocations past)
      (each_found start past legal)

  -- ---- after the message

  pub rows_message : (items : List Item) (pair : Pair) (none : invoked_by pair ≡ None)
      → clock (pair ∷ past) ≡ clock past
      → ((k : ℤ) → marks dialogue k pair past ≡ map (λ mark. record { clock = clock past; mark = mark })
      (component_marks k items)) → ((k : ℤ) (u : ℕ) → pair_ends_wait u dialogue k pair ≡ false)
      → rows_of reject_ms dialogue (pair ∷ past) ≡ rows_up start past legal reject_ms dialogue items
  rows_message items pair none still marks_are ends =
      rows_after reject_ms start pair past legal none dialogue
      ∙ same_stages dialogue past start legal (λ i.
      stage_by reject_ms (pair ∷ past) i (decision i.number (pair ∷ past))) (stage_up start past legal reject_ms dialogue items)
      (λ i f s. stage_after reject_ms start pair past legal none i f ∙ one i s (decision i.number past))
    where
      one : (i : Invocation) → i.dialogue ≡ dialogue → (d : Option Told)
          → stage_pair reject_ms start pair past legal none i d
          ≡ stage_more reject_ms past i (clock past) (marks_up_to past items i) d
      one i same None = ap (λ c. marked_stage (c + reject_ms) i.class i.timeout
          (span i past ++ marks i.dialogue i.id pair past)) still
          ∙ ap (λ z. marked_stage (clock past + reject_ms) i.class i.timeout (span i past ++ z))
          (ap (λ n. marks n i.id pair past) same ∙ marks_are i.id)
      one i same (Some t) =
          ap (λ b. cond (is_waiting reject_ms i.dialogue i.id past t && not b)
          (Some (Waiting (clock t.place + reject_ms))) None)
          (ap (λ n. pair_ends_wait (clock t.place + reject_ms) n i.id pair) same
          ∙ ends i.id (clock t.place + reject_ms))
          ∙ go (is_waiting reject_ms i.dialogue i.id past t)
        where
          go : (b : Bool) → cond (b && true) (Some (Waiting (clock t.place + reject_ms))) None
              ≡ cond b (Some (Waiting (clock t.place + reject_ms))) None
          go true = refl
          go false = refl
