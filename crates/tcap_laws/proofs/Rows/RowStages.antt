-- The rows of a dialogue by the stages of its invocations, and what a pair makes of them.
use Rattle.std.proofs.Common.{◌≡◌, ℕ, ◌+◌, ◌==◌, ◌&&◌, Bool, true, false, cond, not, ◌||◌, List, [], ◌∷◌, ◌++◌, Option, Some, None, refl, ap, sym, ◌∙◌, arith}
use Rattle.std.proofs.lemmas.Bool.Decides.{nat_tests}
use Rattle.std.proofs.lemmas.List.{append-nil}
use Rattle.std.specs.Prelude.{filter_map, option_map, option_to_list}
use Rattle.std.specs.List.{AllByRecursion, list_any}
use Rattle.std.specs.Option.{option_or}
use Rattle.tcap_invocation.specs.declared.stage.Stage.{Stage}
use Rattle.tcap_invocation.specs.declared.stage.Stage.TheVariants.{Waiting}
use Rattle.tcap_invocation.specs.Invocations.{Row}
use Rattle.tcap_laws.proofs.Spans.DecisionSteps.{closing_of_decision, decision_place, decision_stays, invocation_stays, made_found}
use Rattle.tcap_laws.proofs.Spans.EarlierMoments.{since_end}
use Rattle.tcap_laws.proofs.Rows.InvocationsLeft.{same_kept}
use Rattle.tcap_laws.proofs.Rows.Restaged.{Operation, restaged, then_restaged, restaged_listed}
use Rattle.tcap_laws.proofs.Spans.SpanSteps.{reused_step, span_grows}
use Rattle.tcap_laws.proofs.Rows.StagesByMarks.{open_stage, closed_stage, marked_stage, then_stage}
use Rattle.tcap_laws.proofs.Spans.SupersededInvocations.{unused_if_open}
use Rattle.tcap_laws.proofs.Decisions.ToldInvocations.{IsFound, each_found}
use Rattle.tcap_model.specs.Histories.Clock.{clock}
use Rattle.tcap_model.specs.Invocations.Closings.{Told}
use Rattle.tcap_model.specs.Invocations.Deadline.{sent_clock}
use Rattle.tcap_model.specs.Invocations.Decision.{told_outcome, decided_of, decided_at, decision}
use Rattle.tcap_model.specs.Replies.Held.{is_rejectable, pair_ends_wait, since, is_waiting}
use Rattle.tcap_model.specs.Histories.History.{Start}
use Rattle.tcap_model.specs.Invocations.Invocation.{Invocation, invoked_by, invocations, has_id, with_id, latest}
use Rattle.tcap_model.specs.Replies.Legal.{AreReplies}
use Rattle.tcap_model.specs.Invocations.Marks.{Noted, marks}
use Rattle.tcap_model.specs.Invocations.Outcome.{outcome_of, outcome}
use Rattle.tcap_model.specs.Words.Output.{Closing}
use Rattle.tcap_model.specs.Histories.Pair.{Pair, Past}
use Rattle.tcap_model.specs.Invocations.Span.{is_invoked, span}
use Rattle.tcap_model.specs.Table.World.{pending_stage, stage_by, row_by, is_number, rows_of}

-- ---- rows by stages

module _ (dialogue : ℕ) (past : Past) where
  -- an invocation of the dialogue that is the latest of its identifier
  abbrev pub is_here : Invocation → Bool
  is_here i = (i.dialogue == dialogue) && is_number i.number (latest i.dialogue i.id past)

  abbrev pub row_if : (Invocation → Option Stage) → Invocation → Option Row
  row_if stage i = cond (is_here i) (row_by i (stage i)) None

  abbrev pub rows_if : (Invocation → Option Stage) → List Row
  rows_if stage = filter_map (row_if stage) (invocations past)

  same_dialogue : (i : Invocation) (b : Bool) → ((i.dialogue == dialogue) && b) ≡ true → i.dialogue ≡ dialogue
  same_dialogue i b e = go (i.dialogue == dialogue) refl e
    where
      go : (a : Bool) → (i.dialogue == dialogue) ≡ a → (a && b) ≡ true → i.dialogue ≡ dialogue
      go true q w = grind (arith, nat_tests)
      go false q w = absurd cc

  -- rows whose invocations are at the same stages
  pub same_stages : (start : Start) → AreReplies start past → (st more : Invocation → Option Stage)
      → ((i : Invocation) → IsFound past i → i.dialogue ≡ dialogue → st i ≡ more i) → rows_if st ≡ rows_if more
  same_stages start legal st more same =
      same_kept (IsFound past) (row_if st) (row_if more) one (invocations past) (each_found start past legal)
    where
      one : (i : Invocation) → IsFound past i → row_if st i ≡ row_if more i
      one i f = go (is_here i) refl
        where
          go : (b : Bool) → is_here i ≡ b → cond b (row_by i (st i)) None ≡ cond b (row_by i (more i)) None
          go true e = ap (row_by i) (same i f (same_dialogue i (is_number i.number (latest i.dialogue i.id past)) e))
          go false e = refl

  -- an operation on the rows is one on the stages
  then_row : (op : Operation) (i : Invocation) (b : Bool) (o : Option Stage)
      → then_restaged op (cond b (row_by i o) None) ≡ cond b (row_by i (then_stage (op i.id i.class) o)) None
  then_row op i false o = refl
  then_row op i true None = refl
  then_row op i true (Some s) = go (op i.id i.class s) refl
    where
      go : (o : Option Stage) → op i.id i.class s ≡ o
          → then_restaged op (row_by i (Some s)) ≡ row_by i (op i.id i.class s)
      go None e = rw e refl
      go (Some t) e = rw e refl

  pub stages_moved : (start : Start) → AreReplies start past → (op : Operation) (st more : Invocation → Option Stage)
      → ((i : Invocation) → IsFound past i → i.dialogue ≡ dialogue → more i ≡ then_stage (op i.id i.class) (st i))
      → rows_if more ≡ restaged op (rows_if st)
  stages_moved start legal op st more same =
      same_stages start legal more (λ i. then_stage (op i.id i.class) (st i)) same
      ∙ (sym (same_kept (λ i. Unit {0}) (λ i. then_restaged op (row_if st i))
      (row_if (λ i. then_stage (op i.id i.class) (st i))) (λ i u. then_row op i (is_here i) (st i))
      (invocations past) (all (invocations past)))
      ∙ sym (restaged_listed op (row_if st) (invocations past)))
    where
      all : (is : List Invocation) → AllByRecursion (λ i. Unit {0}) is
      all [] = tt
      all (i ∷ is) = (tt, all is)

-- ---- the stage at a place

module _ (reject_ms : ℕ) (past : Past) where
  -- what an invocation is at; after some marks more of the same event
  abbrev pub stage_more : Invocation → ℕ → List Noted → Option Told → Option Stage
  stage_more i c marks None = marked_stage (c + reject_ms) i.class i.timeout marks
  stage_more i c marks (Some told) =
      cond (is_waiting reject_ms i.dialogue i.id past told) (Some (Waiting (clock told.place + reject_ms))) None

  open_is : (i : Invocation) (o : Option ℕ) → pending_stage i (option_map (λ sent. sent + i.timeout) o)
      ≡ open_stage i.timeout o
  open_is i None = refl
  open_is i (Some s) = refl

  pub stage_is : (i : Invocation) → IsFound past i
      → stage_by reject_ms past i (decision i.number past)
      ≡ stage_more i (clock past) (span i past) (decision i.number past)
  stage_is i found = go (decision i.number past) (closing_of_decision i.number past)
    where
      go : (d : Option Told) → option_map (λ (t : Told). t.closing) d ≡ outcome i.number past
          → stage_by reject_ms past i d ≡ stage_more i (clock past) (span i past) d
      go None e =
          ap Some (open_is i (sent_clock (span i past)))
          ∙ ap (λ o. closed_stage (clock past + reject_ms) i.timeout o (sent_clock (span i past)))
          (e ∙ ap (λ o. outcome_of o past) found)
      go (Some t) e = refl

  -- where an outcome is told at this very place
  pub stage_now : (i : Invocation) (o : Option Closing)
      → stage_by reject_ms past i (told_outcome past i o)
      ≡ closed_stage (clock past + reject_ms) i.timeout o (sent_clock (span i past))
  stage_now i None = ap Some (open_is i (sent_clock (span i past)))
  stage_now i (Some c) =
      ap (λ z. cond (is_rejectable c && not (list_any (pair_ends_wait (clock past + reject_ms) i.dialogue i.id) z))
      waiting None) (since_end [] past) ∙ go (is_rejectable c)
    where
      waiting : Option Stage
      waiting = Some (Waiting (clock past + reject_ms))

      go : (b : Bool) → cond (b && true) waiting None ≡ cond b waiting None
      go true = refl
      go false = refl

-- ---- the stage after a pair

module _ (reject_ms : ℕ) (start : Start) (pair : Pair) (past : Past) (legal : AreReplies start past) where
  -- a wait goes on unless the pair ends it; an open invocation is at what its marks say
  abbrev pub stage_then : Invocation → Option Told → Option Stage
  stage_then i None = marked_stage (clock (pair ∷ past) + reject_ms) i.class i.timeout
      (span i past ++ marks i.dialogue i.id pair past)
  stage_then i (Some told) =
      cond (is_waiting reject_ms i.dialogue i.id past told
      && not (pair_ends_wait (clock told.place + reject_ms) i.dialogue i.id pair))
      (Some (Waiting (clock told.place + reject_ms))) None

  still_waits : (i : Invocation) (t : Told) → decision i.number past ≡ Some t
      → is_waiting reject_ms i.dialogue i.id (pair ∷ past) t
      ≡ (is_waiting reject_ms i.dialogue i.id past t
      && not (pair_ends_wait (clock t.place + reject_ms) i.dialogue i.id pair))
  still_waits i t e =
      let d = decision_place i.number past t e in
      let whole : past ≡ d.newer ++ t.place = d.whole ∙ ap (λ z. d.newer ++ z) (sym d.place) in
      let ends : Pair → Bool = pair_ends_wait (clock t.place + reject_ms) i.dialogue i.id in
      ap (λ z. is_rejectable t.closing && not (list_any ends z))
      (ap (λ z. since t.place (pair ∷ z)) whole ∙ since_end (pair ∷ d.newer) t.place)
      ∙ (split (is_rejectable t.closing) (ends pair) (list_any ends d.newer)
      ∙ ap (λ z. (is_rejectable t.closing && not (list_any ends z)) && not (ends pair))
      (sym (ap (since t.place) whole ∙ since_end d.newer t.place)))
    where
      split : (a b c : Bool) → (a && not (b || c)) ≡ ((a && not c) && not b)
      split false b c = refl
      split true true true = refl
      split true true false = refl
      split true false true = refl
      split true false false = refl

  open_after : (i : Invocation) → IsFound past i → is_invoked (has_id i.dialogue i.id) (invoked_by pair) ≡ false
      → outcome i.number past ≡ None → span i (pair ∷ past) ≡ span i past ++ marks i.dialogue i.id pair past
  open_after i found none e =
      let made = made_found i.number past i found in
      let fresh = unused_if_open start past i.number i legal found e in
      span_grows i pair past made (reused_step i pair past made
      ∙ (ap (λ b. b || is_invoked (has_id i.dialogue i.id) (invoked_by pair)) fresh ∙ none))

  pub stage_unless : (i : Invocation) → IsFound past i → is_invoked (has_id i.dialogue i.id) (invoked_by pair) ≡ false
      → stage_by reject_ms (pair ∷ past) i (decision i.number (pair ∷ past)) ≡ stage_then i (decision i.number past)
  stage_unless i found none = go (decision i.number past) refl (closing_of_decision i.number past)
    where
      go : (d : Option Told) → decision i.number past ≡ d
          → option_map (λ (t : Told). t.closing) d ≡ outcome i.number past
          → stage_by reject_ms (pair ∷ past) i (decision i.number (pair ∷ past)) ≡ stage_then i d
      go None q e =
          ap (λ d. stage_by reject_ms (pair ∷ past) i (option_or d (decided_at i.number (pair ∷ past)))) q
          ∙ (ap (λ o. stage_by reject_ms (pair ∷ past) i (decided_of (pair ∷ past) o))
          (invocation_stays i.number pair past i found)
          ∙ (stage_now reject_ms (pair ∷ past) i (outcome_of (Some i) (pair ∷ past))
          ∙ ap (marked_stage (clock (pair ∷ past) + reject_ms) i.class i.timeout) (open_after i found none (sym e))))
      go (Some t) q e =
          ap (stage_by reject_ms (pair ∷ past) i) (decision_stays i.number pair past t q)
          ∙ ap (λ b. cond b (Some (Waiting (clock t.place + reject_ms))) None) (still_waits i t q)

module _ (reject_ms : ℕ) (start : Start) (pair : Pair) (past : Past) (legal : AreReplies start past)
    (none : invoked_by pair ≡ None) where
  abbrev pub stage_pair : Invocation → Option Told → Option Stage
  stage_pair i told = stage_then reject_ms start pair past legal i told

  pub stage_after : (i : Invocation) → IsFound past i
      → stage_by reject_ms (pair ∷ past) i (decision i.number (pair ∷ past)) ≡ stage_pair i (decision i.number past)
  stage_after i found =
      stage_unless reject_ms start pair past legal i found (ap (is_invoked (has_id i.dialogue i.id)) none)

  -- the rows after a pair that invokes nothing
  pub rows_after : (dialogue : ℕ) → rows_of reject_ms dialogue (pair ∷ past)
      ≡ rows_if dialogue past (λ i. stage_by reject_ms (pair ∷ past) i (decision i.number (pair ∷ past)))
  rows_after dialogue =
      ap (λ o. filter_map (λ (i : Invocation). cond
      ((i.dialogue == dialogue) && is_number i.number
      (option_or (with_id i.dialogue i.id o) (latest i.dialogue i.id past))) (row_by i (after i)) None)
      (invocations past ++ option_to_list o)) none
      ∙ ap (filter_map (row_if dialogue past after)) (append-nil (invocations past))
    where
      after : Invocation → Option Stage
      after i = stage_by reject_ms (pair ∷ past) i (decision i.number (pair ∷ past))
