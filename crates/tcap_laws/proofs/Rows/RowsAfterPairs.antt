-- The rows of a dialogue after a pair, as an operation on those before it.
use Rattle.std.proofs.Common.{◌≡◌, ℕ, ℤ, ◌+◌, Bool, true, false, cond, not, ◌&&◌, List, [], ◌∷◌, ◌++◌, nat_le, nat_lt, Option, Some, None, refl, ap, sym, ◌∙◌, arith}
use Rattle.std.proofs.lemmas.Bool.Decides.{nat_tests}
use Rattle.std.proofs.lemmas.List.{append-nil}
use Rattle.std.specs.Prelude.{option_map}
use Rattle.tcap_invocation.specs.declared.class.Class.{Class}
use Rattle.tcap_invocation.specs.declared.stage.Stage.{Stage}
use Rattle.tcap_invocation.specs.declared.stage.Stage.TheVariants.{Sent, Waiting}
use Rattle.tcap_invocation.specs.Invocations.{Row, sent_rows}
use Rattle.tcap_invocation.specs.Lapses.{stays}
use Rattle.tcap_invocation.specs.Stage.{sent_stage}
use Rattle.tcap_laws.proofs.Spans.DecisionSteps.{closing_of_decision}
use Rattle.tcap_laws.proofs.Rows.Restaged.{Operation, if_passing, restaged}
use Rattle.tcap_laws.proofs.Rows.RowStages.{stage_more, stage_is, stage_pair, stage_after, stages_moved, rows_after}
use Rattle.tcap_laws.proofs.Rows.StagesByMarks.{open_stage, closed_stage, marked_stage, lapsed_stage, mark_stage, then_stage, waits, mark_steps}
use Rattle.tcap_laws.proofs.Decisions.ToldInvocations.{IsFound}
use Rattle.tcap_model.specs.Histories.Clock.{clock}
use Rattle.tcap_model.specs.Invocations.Closings.{Told}
use Rattle.tcap_model.specs.Invocations.Deadline.{sent_clock}
use Rattle.tcap_model.specs.Invocations.Decision.{decision}
use Rattle.tcap_model.specs.Replies.Held.{pair_ends_wait, is_waiting}
use Rattle.tcap_model.specs.Histories.History.{Start}
use Rattle.tcap_model.specs.Invocations.Invocation.{Invocation, invoked_by}
use Rattle.tcap_model.specs.Replies.Legal.{AreReplies}
use Rattle.tcap_model.specs.Invocations.Marks.{Mark, marks}
use Rattle.tcap_model.specs.Invocations.Outcome.{first_closing, outcome_of, outcome}
use Rattle.tcap_model.specs.Histories.Pair.{Pair, Past}
use Rattle.tcap_model.specs.Invocations.Span.{span}
use Rattle.tcap_model.specs.Table.World.{stage_by, rows_of}

-- ---- the operations of the table

pub sent_all : (clock : ℕ) (rows : List Row)
    → restaged (λ k class s. Some (sent_stage clock s)) rows ≡ sent_rows clock rows
sent_all clock [] = refl
sent_all clock (r ∷ rows) = ap (λ z. (r.0, record r.1 { stage = sent_stage clock r.1.stage }) ∷ z) (sent_all clock rows)

pub all_stay : (rows : List Row) → restaged (λ k class s. Some s) rows ≡ rows
all_stay [] = refl
all_stay (r ∷ rows) = ap (λ z. r ∷ z) (all_stay rows)

module _ (reject_ms : ℕ) (start : Start) (pair : Pair) (past : Past) (legal : AreReplies start past)
    (none : invoked_by pair ≡ None) (dialogue : ℕ) where
  abbrev until : ℕ
  until = clock (pair ∷ past) + reject_ms

  -- what the pair makes of an open invocation, and of a wait
  abbrev pub OpenStep : Operation → Type 0
  OpenStep op = (i : Invocation) → i.dialogue ≡ dialogue → first_closing i.class i.timeout (span i past) ≡ None
      → marked_stage until i.class i.timeout (span i past ++ marks i.dialogue i.id pair past)
      ≡ op i.id i.class (open_stage i.timeout (sent_clock (span i past)))

  abbrev pub WaitStep : Operation → Type 0
  WaitStep op = (i : Invocation) → i.dialogue ≡ dialogue → (u : ℕ)
      → op i.id i.class (Waiting u) ≡ cond (pair_ends_wait u i.dialogue i.id pair) None (Some (Waiting u))

  pub rows_moved : (op : Operation) → OpenStep op → WaitStep op
      → rows_of reject_ms dialogue (pair ∷ past) ≡ restaged op (rows_of reject_ms dialogue past)
  rows_moved op open_step wait_step =
      rows_after reject_ms start pair past legal none dialogue
      ∙ stages_moved dialogue past start legal op (λ i. stage_by reject_ms past i (decision i.number past))
      (λ i. stage_by reject_ms (pair ∷ past) i (decision i.number (pair ∷ past)))
      (λ i found same. stage_after reject_ms start pair past legal none i found
      ∙ (one i found same (decision i.number past) (closing_of_decision i.number past)
      ∙ ap (then_stage (op i.id i.class)) (sym (stage_is reject_ms past i found))))
    where
      one : (i : Invocation) → IsFound past i → i.dialogue ≡ dialogue → (d : Option Told)
          → option_map (λ (t : Told). t.closing) d ≡ outcome i.number past
          → stage_pair reject_ms start pair past legal none i d
          ≡ then_stage (op i.id i.class) (stage_more reject_ms past i (clock past) (span i past) d)
      one i found same None e =
          let still : first_closing i.class i.timeout (span i past) ≡ None =
          ap (λ o. outcome_of o past) (sym found) ∙ sym e in
          open_step i same still ∙ ap (λ o. then_stage (op i.id i.class)
          (closed_stage (clock past + reject_ms) i.timeout o (sent_clock (span i past)))) (sym still)
      one i found same (Some t) e =
          go (is_waiting reject_ms i.dialogue i.id past t)
          (pair_ends_wait (clock t.place + reject_ms) i.dialogue i.id pair)
          (wait_step i same (clock t.place + reject_ms))
        where
          waiting : Option Stage
          waiting = Some (Waiting (clock t.place + reject_ms))

          go : (a b : Bool) → op i.id i.class (Waiting (clock t.place + reject_ms)) ≡ cond b None waiting
              → cond (a && not b) waiting None ≡ then_stage (op i.id i.class) (cond a waiting None)
          go false b w = refl
          go true true w = sym w
          go true false w = sym w

  -- ---- one mark for the identifiers that pass

  module _ (m : Mark) (test : ℤ → Bool) (marks_are : (k : ℤ)
      → marks dialogue k pair past ≡ cond (test k) (record { clock = clock past; mark = m } ∷ []) []) where
    abbrev pub by_mark : Operation
    by_mark k class s = cond (test k) (mark_stage until (clock past) m class s) (Some s)

    pub open_by_mark : OpenStep by_mark
    open_by_mark i same still =
        ap (λ z. marked_stage until i.class i.timeout (span i past ++ z))
        (ap (λ n. marks n i.id pair past) same ∙ marks_are i.id)
        ∙ go (test i.id)
      where
        go : (b : Bool) → marked_stage until i.class i.timeout
            (span i past ++ cond b (record { clock = clock past; mark = m } ∷ []) [])
            ≡ cond b (mark_stage until (clock past) m i.class (open_stage i.timeout (sent_clock (span i past))))
            (Some (open_stage i.timeout (sent_clock (span i past))))
        go true = mark_steps until (clock past) i.timeout i.class (span i past) m
            ∙ ap (λ o. then_stage (mark_stage until (clock past) m i.class)
            (closed_stage until i.timeout o (sent_clock (span i past)))) still
        go false = ap (marked_stage until i.class i.timeout) (append-nil (span i past))
            ∙ ap (λ o. closed_stage until i.timeout o (sent_clock (span i past))) still

    pub rows_marked : ((k : ℤ) (u : ℕ) → pair_ends_wait u dialogue k pair ≡ false)
        → rows_of reject_ms dialogue (pair ∷ past) ≡ restaged by_mark (rows_of reject_ms dialogue past)
    rows_marked ends = rows_moved by_mark open_by_mark
        (λ i same u. go u i.class (test i.id) ∙ sym (ap (λ b. cond b None (Some (Waiting u)))
        (ap (λ n. pair_ends_wait u n i.id pair) same ∙ ends i.id u)))
      where
        go : (u : ℕ) (class : Class) (b : Bool) → cond b (mark_stage until (clock past) m class (Waiting u))
            (Some (Waiting u)) ≡ Some (Waiting u)
        go u class true = waits until (clock past) 0 class m u
        go u class false = refl

  -- no mark and no end of a wait
  pub rows_kept : ((k : ℤ) → marks dialogue k pair past ≡ [])
      → ((k : ℤ) (u : ℕ) → pair_ends_wait u dialogue k pair ≡ false)
      → rows_of reject_ms dialogue (pair ∷ past) ≡ rows_of reject_ms dialogue past
  rows_kept no_marks ends = rows_marked Mark.end (λ k. false) no_marks ends ∙ all_stay (rows_of reject_ms dialogue past)

  -- ---- a moment

  stays_open : (now timeout : ℕ) (o : Option ℕ)
      → lapsed_stage now (open_stage timeout o) ≡ cond (stays now (open_stage timeout o)) (Some (open_stage timeout o))
      None
  stays_open now timeout None = refl
  stays_open now timeout (Some k) = go (nat_le (k + timeout) now) (nat_lt now (k + timeout)) refl refl
    where
      go : (a b : Bool) → nat_le (k + timeout) now ≡ a → nat_lt now (k + timeout) ≡ b
          → cond a None (Some (Sent (k + timeout))) ≡ cond b (Some (Sent (k + timeout))) None
      go true true p q = absurd (grind (arith, nat_tests))
      go true false p q = refl
      go false true p q = refl
      go false false p q = absurd (grind (arith, nat_tests))

  stays_waiting : (now u : ℕ) → cond (stays now (Waiting u)) (Some (Waiting u)) None
      ≡ cond (nat_le u now) None (Some (Waiting u))
  stays_waiting now u = go (nat_lt now u) (nat_le u now) refl refl
    where
      go : (b a : Bool) → nat_lt now u ≡ b → nat_le u now ≡ a
          → cond b (Some (Waiting u)) None ≡ cond a None (Some (Waiting u))
      go true true p q = absurd (grind (arith, nat_tests))
      go false true p q = refl
      go true false p q = refl
      go false false p q = absurd (grind (arith, nat_tests))

  pub rows_lapsed : (now : ℕ) → ((k : ℤ) → marks dialogue k pair past
      ≡ record { clock = clock past; mark = Mark.moment now } ∷ [])
      → ((k : ℤ) (u : ℕ) → pair_ends_wait u dialogue k pair ≡ nat_le u now)
      → rows_of reject_ms dialogue (pair ∷ past) ≡ restaged (if_passing (stays now)) (rows_of reject_ms dialogue past)
  rows_lapsed now marks_are ends = rows_moved (if_passing (stays now))
      (λ i same still. open_by_mark (Mark.moment now) (λ k. true) marks_are i same still
      ∙ stays_open now i.timeout (sent_clock (span i past)))
      (λ i same u. stays_waiting now u ∙ sym (ap (λ b. cond b None (Some (Waiting u)))
      (ap (λ n. pair_ends_wait u n i.id pair) same ∙ ends i.id u)))
