-- Which invocation is Sent for an identifier is the same by the rows of a dialogue and by its history.
use Rattle.std.proofs.Common.{◌≡◌, ℕ, ℤ, ◌+◌, ◌&&◌, Bool, true, false, cond, [], Option, Some, None, refl, ap, sym, ◌∙◌, subst}
use Rattle.std.proofs.lemmas.List.{append-nil}
use Rattle.std.specs.Prelude.{is_none, is_some, option_map}
use Rattle.tcap_invocation.specs.declared.invocations.Invocation.{Invocation as Entry}
use Rattle.tcap_invocation.specs.declared.stage.Stage.{Stage}
use Rattle.tcap_invocation.specs.declared.stage.Stage.TheVariants.{Waiting}
use Rattle.tcap_invocation.specs.Invocations.{passing, entry_at}
use Rattle.tcap_invocation.specs.Closing.{number_of}
use Rattle.tcap_invocation.specs.Stage.{is_sent, is_pending}
use Rattle.tcap_laws.proofs.Spans.DecisionSteps.{closing_of_decision}
use Rattle.tcap_laws.proofs.Spans.LatestInvocations.{latest_is}
use Rattle.tcap_laws.proofs.Rows.IdentifiersInRows.{HasRow, has_row, pending-rows}
use Rattle.tcap_laws.proofs.Spans.SupersededInvocations.{latest_found}
use Rattle.tcap_laws.proofs.Decisions.ToldInvocations.{IsFound, each_found}
use Rattle.tcap_model.specs.Histories.Clock.{clock}
use Rattle.tcap_model.specs.Invocations.Closings.{Told}
use Rattle.tcap_model.specs.Procedures.ComponentHandling.{SentInvocation}
use Rattle.tcap_model.specs.Invocations.Deadline.{sent_clock, deadline}
use Rattle.tcap_model.specs.Invocations.Decision.{decision}
use Rattle.tcap_model.specs.Table.Dialogue.{sent_of, sent_by_rows}
use Rattle.tcap_model.specs.Replies.Held.{is_waiting, if_pending}
use Rattle.tcap_model.specs.Histories.History.{Start}
use Rattle.tcap_model.specs.Invocations.Invocation.{Invocation, invocations, latest}
use Rattle.tcap_model.specs.Replies.Legal.{AreReplies}
use Rattle.tcap_model.specs.Invocations.Outcome.{is_sent_in, outcome_of, outcome}
use Rattle.tcap_model.specs.Words.Output.{Closing}
use Rattle.tcap_model.specs.Histories.Pair.{Past}
use Rattle.tcap_model.specs.Invocations.SentThere.{marks_up_to, if_sent, sent_there}
use Rattle.tcap_model.specs.Invocations.Span.{span}
use Rattle.tcap_model.specs.Table.World.{pending_stage, stage_by, row, row_of, rows_of}
use Rattle.tcap_laws.proofs.BoolLemmas.{and_false, and_true}
use Rattle.tcap_laws.proofs.Rows.LatestRows.{Found, found}

-- whether an invocation is Sent where it has an outcome or none
sent-by_outcome : (past : Past) (i : Invocation) → IsFound past i
    → is_sent_in i.class i.timeout (marks_up_to past [] i)
    ≡ (is_some (sent_clock (span i past)) && is_none (outcome i.number past))
sent-by_outcome past i found =
    ap (is_sent_in i.class i.timeout) (append-nil (span i past))
    ∙ ap (λ o. is_some (sent_clock (span i past)) && is_none o) (sym (ap (λ o. outcome_of o past) found))

pending-sent : (i : Invocation) (o : Option ℕ)
    → is_sent (pending_stage i (option_map (λ sent. sent + i.timeout) o)) ≡ is_some o
pending-sent i None = refl
pending-sent i (Some t) = refl

some_inside : {X : Type 0} (x y : X) → Some x ≡ Some y → x ≡ y
some_inside x y e = cc

stage-sent : (reject_ms : ℕ) (past : Past) (i : Invocation) (s : Stage) (d : Option Told)
    → stage_by reject_ms past i d ≡ Some s
    → is_sent s ≡ (is_some (sent_clock (span i past)) && is_none (option_map (λ (t : Told). t.closing) d))
stage-sent reject_ms past i s None e =
    ap is_sent (sym (some_inside (pending_stage i (deadline i past)) s e))
    ∙ (pending-sent i (sent_clock (span i past)) ∙ sym (and_true (is_some (sent_clock (span i past)))))
stage-sent reject_ms past i s (Some t) e = go (is_waiting reject_ms i.dialogue i.id past t) e
  where
    go : (b : Bool) → cond b (Some (Waiting (clock t.place + reject_ms))) None ≡ Some s
        → is_sent s ≡ (is_some (sent_clock (span i past)) && false)
    go true e = ap is_sent (sym (some_inside (Waiting (clock t.place + reject_ms)) s e))
        ∙ sym (and_false (is_some (sent_clock (span i past))))
    go false e = absurd cc

module _ (start : Start) (past : Past) (legal : AreReplies start past) (reject_ms : ℕ) where
  -- where the identifier has a row
  row-sent : (i : Invocation) (s : Stage) → IsFound past i → latest i.dialogue i.id past ≡ Some i
      → stage_by reject_ms past i (decision i.number past) ≡ Some s
      → sent_of i.dialogue (passing is_sent (Some (row i s).1)) ≡ sent_there i.dialogue past [] (Some i.id)
  row-sent i s found last at =
      ap sent_if (stage-sent reject_ms past i s (decision i.number past) at
      ∙ (ap (λ o. is_some (sent_clock (span i past)) && is_none o) (closing_of_decision i.number past)
      ∙ sym (sent-by_outcome past i found)))
      ∙ (one_if (is_sent_in i.class i.timeout (marks_up_to past [] i)) ∙ ap (if_sent past []) (sym last))
    where
      one : SentInvocation
      one = record { dialogue = i.dialogue; number = i.number; class = i.class }

      sent_if : Bool → Option SentInvocation
      sent_if b = sent_of i.dialogue (cond b (Some (row i s).1) None)

      one_if : (b : Bool) → sent_if b ≡ cond b (Some one) None
      one_if true = refl
      one_if false = refl

  found-sent : (dialogue : ℕ) (id : ℤ) (i : Invocation) (e : Entry) → IsFound past i
      → HasRow reject_ms dialogue id past i e
      → sent_of dialogue (passing is_sent (Some e)) ≡ sent_there dialogue past [] (Some id)
  found-sent dialogue id i e found r =
      let last = latest_found start past i legal found r.is_last in
      let there = row-sent i r.stage found last r.at_stage in
      let named = subst (λ (k : ℤ). sent_of i.dialogue (passing is_sent (Some (row i r.stage).1))
      ≡ sent_there i.dialogue past [] (Some k)) r.id_is there in
      let placed = subst (λ (k : ℕ). sent_of k (passing is_sent (Some (row i r.stage).1))
      ≡ sent_there k past [] (Some id)) r.dialogue_is named in
      subst (λ (y : Option Entry). sent_of dialogue (passing is_sent y) ≡ sent_there dialogue past [] (Some id))
      r.entry_is placed

  -- where it has none, its latest invocation is decided
  none-sent : (dialogue : ℕ) (id : ℤ) (last : Option Invocation) → latest dialogue id past ≡ last
      → None ≡ if_pending past last → None ≡ if_sent past [] last
  none-sent dialogue id None e q = refl
  none-sent dialogue id (Some j) e q = go (outcome j.number past) refl q
    where
      go : (o : Option Closing) → outcome j.number past ≡ o → None ≡ cond (is_none o) (Some j.number) None
          → None ≡ if_sent past [] (Some j)
      go None p q = absurd cc
      go (Some c) p q =
          let found = (latest_is start past dialogue id j legal e).is_found in
          let not_sent : is_sent_in j.class j.timeout (marks_up_to past [] j) ≡ false =
          sent-by_outcome past j found ∙ (ap (λ o. is_some (sent_clock (span j past)) && is_none o) p
          ∙ and_false (is_some (sent_clock (span j past)))) in
          sym (ap (λ b. cond b (Some one) None) not_sent)
        where
          one : SentInvocation
          one = record { dialogue = j.dialogue; number = j.number; class = j.class }

  sent-entry : (dialogue : ℕ) (id : ℤ) (o : Option Entry) → entry_at (rows_of reject_ms dialogue past) id ≡ o
      → Found (IsFound past) id (row_of reject_ms dialogue past) (invocations past) o
      → sent_of dialogue (passing is_sent o) ≡ sent_there dialogue past [] (Some id)
  sent-entry dialogue id None e f =
      none-sent dialogue id (latest dialogue id past) refl
      (sym (ap (λ o. number_of (passing is_pending o)) e) ∙ pending-rows reject_ms dialogue past id)
  sent-entry dialogue id (Some y) e f = found-sent dialogue id f.0 y f.1 (has_row reject_ms dialogue id past f.0 y f.2)

  pub sent-rows : (dialogue : ℕ) (id : ℤ) → sent_by_rows dialogue
      (record { reject_ms = reject_ms; rows = rows_of reject_ms dialogue past }) (Some id)
      ≡ sent_there dialogue past [] (Some id)
  sent-rows dialogue id =
      sent-entry dialogue id (entry_at (rows_of reject_ms dialogue past) id) refl
      (found (IsFound past) id (row_of reject_ms dialogue past) (invocations past) (each_found start past legal))
