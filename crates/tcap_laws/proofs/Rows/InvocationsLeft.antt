-- At the end of a dialogue the rows tell of the same invocations as the history.
use Rattle.std.proofs.Common.{◌≡◌, ℕ, ℤ, ◌+◌, ◌==◌, ◌&&◌, Bool, true, false, cond, List, [], ◌∷◌, map, Option, Some, None, refl, ap, sym, ◌∙◌}
use Rattle.std.proofs.lemmas.List.{append-nil}
use Rattle.std.specs.Prelude.{is_none, filter_map, option_map, if◌then◌else◌}
use Rattle.std.specs.List.{AllByRecursion, cons_option}
use Rattle.tcap_invocation.specs.declared.stage.Stage.TheVariants.{Waiting}
use Rattle.tcap_invocation.specs.Closing.{ended_at}
use Rattle.tcap_invocation.specs.Invocations.{Row}
use Rattle.tcap_invocation.specs.Stage.{is_pending}
use Rattle.tcap_laws.proofs.Spans.DecisionSteps.{closing_of_decision, undecided}
use Rattle.tcap_laws.proofs.Spans.LatestInvocations.{own_number}
use Rattle.tcap_laws.proofs.Rows.IdentifiersInRows.{pending_is}
use Rattle.tcap_laws.proofs.Spans.SupersededInvocations.{latest_if_open}
use Rattle.tcap_laws.proofs.Decisions.ToldInvocations.{IsFound, each_found}
use Rattle.tcap_model.specs.Histories.Clock.{clock}
use Rattle.tcap_model.specs.Invocations.Closings.{Told}
use Rattle.tcap_model.specs.Invocations.Deadline.{deadline}
use Rattle.tcap_model.specs.Invocations.Decision.{decision}
use Rattle.tcap_model.specs.Replies.Held.{is_waiting}
use Rattle.tcap_model.specs.Histories.History.{Start}
use Rattle.tcap_model.specs.Invocations.Invocation.{Invocation, invocations, latest}
use Rattle.tcap_model.specs.Replies.Legal.{AreReplies}
use Rattle.tcap_model.specs.Invocations.Outcome.{first_closing, outcome_of, outcome}
use Rattle.tcap_model.specs.Words.Output.{Output, Closing, ComponentIndication}
use Rattle.tcap_model.specs.Histories.Pair.{Past}
use Rattle.tcap_model.specs.Invocations.SentThere.{marks_up_to}
use Rattle.tcap_model.specs.Replies.Reply.{ended_of, ended_in}
use Rattle.tcap_model.specs.Invocations.Span.{span}
use Rattle.tcap_model.specs.Table.TableMove.{ended_told}
use Rattle.tcap_model.specs.Table.World.{pending_stage, stage_by, row_by, is_number, row_of, rows_of}

-- ---- lists

-- what is told of a row
abbrev pub row_told : ℕ → Option Row → Option Output
row_told dialogue None = None
row_told dialogue (Some r) =
    if is_pending r.1.stage then Some (Output.component
    (ComponentIndication.closed dialogue r.1.number r.0 Closing.ended)) else None

pub rows_told : (dialogue : ℕ) (h : Invocation → Option Row) (is : List Invocation)
    → map (λ (e : ℕ × ℤ). Output.component (ComponentIndication.closed dialogue e.0 e.1 Closing.ended))
    (ended_at (filter_map h is)) ≡ filter_map (λ i. row_told dialogue (h i)) is
rows_told dialogue h [] = refl
rows_told dialogue h (i ∷ is) = go (h i) (rows_told dialogue h is)
  where
    told : List Row → List Output
    told rows = map (λ (e : ℕ × ℤ). Output.component (ComponentIndication.closed dialogue e.0 e.1 Closing.ended))
        (ended_at rows)

    rest : List Output
    rest = filter_map (λ i. row_told dialogue (h i)) is

    one : (r : Row) (b : Bool) → told (filter_map h is) ≡ rest
        → map (λ (e : ℕ × ℤ). Output.component (ComponentIndication.closed dialogue e.0 e.1 Closing.ended))
        (cons_option (cond b (Some (r.1.number, r.0)) None) (ended_at (filter_map h is)))
        ≡ cons_option (cond b (Some (Output.component
        (ComponentIndication.closed dialogue r.1.number r.0 Closing.ended))) None) rest
    one r true e = ap (λ z. Output.component (ComponentIndication.closed dialogue r.1.number r.0 Closing.ended) ∷ z) e
    one r false e = e

    go : (o : Option Row) → told (filter_map h is) ≡ rest
        → told (cons_option o (filter_map h is)) ≡ cons_option (row_told dialogue o) rest
    go None e = e
    go (Some r) e = one r (is_pending r.1.stage) e

pub same_kept : {X Y : Type 0} (P : X → Type 0) (f g : X → Option Y) (same : (x : X) → P x → f x ≡ g x) (xs : List X)
    → AllByRecursion P xs → filter_map f xs ≡ filter_map g xs
same_kept P f g same [] a = refl
same_kept P f g same (x ∷ xs) a =
    ap (λ o. cons_option o (filter_map f xs)) (same x a.0) ∙ ap (cons_option (g x)) (same_kept P f g same xs a.1)

-- ---- one invocation

module _ (reject_ms dialogue : ℕ) (start : Start) (past : Past) (legal : AreReplies start past) (i : Invocation)
    (found : IsFound past i) where
  abbrev told_here : Option Output
  told_here = Some (Output.component (ComponentIndication.closed dialogue i.number i.id Closing.ended))

  closing_is : first_closing i.class i.timeout (marks_up_to past [] i) ≡ outcome i.number past
  closing_is = ap (first_closing i.class i.timeout) (append-nil (span i past)) ∙ sym (ap (λ o. outcome_of o past) found)

  -- one that is decided has no row, or one that waits
  decided_row : (d : Option Told) (c : Closing) → option_map (λ (t : Told). t.closing) d ≡ Some c
      → row_told dialogue (row_by i (stage_by reject_ms past i d)) ≡ None
  decided_row None c e = absurd cc
  decided_row (Some t) c e = go (is_waiting reject_ms i.dialogue i.id past t)
    where
      go : (b : Bool) → row_told dialogue (row_by i (cond b (Some (Waiting (clock t.place + reject_ms))) None)) ≡ None
      go true = refl
      go false = refl

  open_row : row_told dialogue (row_by i (Some (pending_stage i (deadline i past)))) ≡ told_here
  open_row = ap (λ b. cond b told_here None) (pending_is i (deadline i past))

  row_tells : (o : Option Closing) → outcome i.number past ≡ o
      → row_told dialogue (cond (is_number i.number (latest i.dialogue i.id past))
      (row_by i (stage_by reject_ms past i (decision i.number past))) None) ≡ cond (is_none o) told_here None
  row_tells None e =
      ap (λ b. row_told dialogue (cond b (row_by i (stage_by reject_ms past i (decision i.number past))) None))
      (ap (is_number i.number) (latest_if_open start past i.number i legal found e) ∙ own_number i)
      ∙ (ap (λ d. row_told dialogue (row_by i (stage_by reject_ms past i d))) (undecided i.number past e)
      ∙ open_row)
  row_tells (Some c) e = go (is_number i.number (latest i.dialogue i.id past))
    where
      go : (b : Bool) → row_told dialogue (cond b (row_by i (stage_by reject_ms past i (decision i.number past))) None)
          ≡ None
      go true = decided_row (decision i.number past) c (closing_of_decision i.number past ∙ e)
      go false = refl

  one_told : row_told dialogue (row_of reject_ms dialogue past i) ≡ ended_of dialogue past [] i
  one_told = go (i.dialogue == dialogue)
    where
      go : (b : Bool) → row_told dialogue (cond (b && is_number i.number (latest i.dialogue i.id past))
          (row_by i (stage_by reject_ms past i (decision i.number past))) None)
          ≡ cond (b && is_none (first_closing i.class i.timeout (marks_up_to past [] i))) told_here None
      go true = row_tells (outcome i.number past) refl ∙ ap (λ o. cond (is_none o) told_here None) (sym closing_is)
      go false = refl

-- ---- the end of a dialogue

pub ended-agrees : (reject_ms dialogue : ℕ) (start : Start) (past : Past) → AreReplies start past
    → ended_told dialogue (record { reject_ms = reject_ms; rows = rows_of reject_ms dialogue past })
    ≡ ended_in dialogue past []
ended-agrees reject_ms dialogue start past legal =
    rows_told dialogue (row_of reject_ms dialogue past) (invocations past)
    ∙ same_kept (IsFound past) (λ i. row_told dialogue (row_of reject_ms dialogue past i)) (ended_of dialogue past [])
    (λ i found. one_told reject_ms dialogue start past legal i found) (invocations past)
    (each_found start past legal)
