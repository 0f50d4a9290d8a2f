-- An event that doesn't name a dialogue that stands leaves it.
use Rattle.std.proofs.Common.{◌≡◌, ℕ, ℤ, ◌+◌, ◌==◌, ◌&&◌, Bool, true, false, cond, not, List, [], ◌∷◌, ◌++◌, Option, Some, None, refl, ap, sym, ◌∙◌, arith}
use Rattle.std.proofs.lemmas.Bool.Decides.{nat_tests}
use Rattle.std.proofs.lemmas.List.{append-nil}
use Rattle.std.proofs.lemmas.List.Elements.{filter_map-append}
use Rattle.std.specs.Prelude.{filter_map, option_to_list}
use Rattle.std.specs.List.{cons_option}
use Rattle.std.specs.Option.{option_or}
use Rattle.std.specs.Ordering.{int_eq}
use Rattle.tcap_invocation.specs.declared.stage.Stage.{Stage}
use Rattle.tcap_invocation.specs.declared.stage.Stage.TheVariants.{Waiting}
use Rattle.tcap_laws.proofs.Rows.InvocationsLeft.{same_kept}
use Rattle.tcap_laws.proofs.Spans.EventMarks.{unnamed_marks}
use Rattle.tcap_laws.proofs.Table.MessagesMovedAlike.{by_life}
use Rattle.tcap_laws.proofs.Rows.RowsAfterPairs.{rows_kept}
use Rattle.tcap_laws.proofs.Table.RequestsJudgedAlike.{standing_dialogue}
use Rattle.tcap_laws.proofs.Rows.RowStages.{stage_more, stage_is, stage_then, stage_unless}
use Rattle.tcap_laws.proofs.Rows.StagesByMarks.{marked_stage}
use Rattle.tcap_laws.proofs.Table.StandingPairs.{life_unnamed, queue_unnamed, touched_unnamed, assembled, kept_unnamed}
use Rattle.tcap_laws.proofs.Decisions.ToldInvocations.{IsFound, each_found}
use Rattle.tcap_model.specs.Table.Agreement.{due_pair}
use Rattle.tcap_model.specs.Words.Answer.{is_accepted}
use Rattle.tcap_model.specs.Histories.Clock.{clock}
use Rattle.tcap_model.specs.Invocations.Closings.{Told}
use Rattle.tcap_model.specs.Invocations.Decision.{decision}
use Rattle.tcap_model.specs.Table.Dialogue.{Dialogue}
use Rattle.tcap_model.specs.Words.Event.{Event}
use Rattle.tcap_model.specs.Replies.Held.{pair_ends_wait, rejects_answer, is_waiting}
use Rattle.tcap_model.specs.Histories.History.{Start, History}
use Rattle.tcap_model.specs.Invocations.Invocation.{Invocation, invoked_by, invoked_under, invocations, has_id, with_id, latest}
use Rattle.tcap_model.specs.Replies.Legal.{AreReplies, IsLegal}
use Rattle.tcap_model.specs.Histories.Life.{Life, life, touched}
use Rattle.tcap_model.specs.Invocations.Marks.{marks}
use Rattle.tcap_model.specs.Histories.Names.{names}
use Rattle.tcap_model.specs.Invocations.Numbers.{number_of}
use Rattle.tcap_model.specs.Histories.Pair.{Pair, Past}
use Rattle.tcap_model.specs.Replies.Queue.{queue}
use Rattle.tcap_model.specs.Replies.Reply.{reply}
use Rattle.tcap_model.specs.Words.Request.{Request, ComponentRequest}
use Rattle.tcap_model.specs.Invocations.Span.{is_invoked, span}
use Rattle.tcap_model.specs.Words.State.{State}
use Rattle.tcap_model.specs.Table.World.{stage_by, row_by, is_number, row_of, rows_of, dialogue_at}
use Rattle.tcap_laws.proofs.BoolLemmas.{and_false}
use Rattle.tcap_model.specs.Histories.Kept.{kept_address}

-- ---- the rows, where an invocation is made in another dialogue

module _ (reject_ms : ℕ) (start : Start) (pair : Pair) (past : Past) (legal : AreReplies start past) (new : Invocation)
    (invoked : invoked_by pair ≡ Some new) (dialogue : ℕ) (other : (new.dialogue == dialogue) ≡ false)
    (still : clock (pair ∷ past) ≡ clock past) (quiet : (k : ℤ) → marks dialogue k pair past ≡ [])
    (no_end : (k : ℤ) (u : ℕ) → pair_ends_wait u dialogue k pair ≡ false) where
  abbrev after : Invocation → Option Stage
  after i = stage_by reject_ms (pair ∷ past) i (decision i.number (pair ∷ past))

  has_not : (i : Invocation) → i.dialogue ≡ dialogue → has_id i.dialogue i.id new ≡ false
  has_not i same = ap (λ n. (new.dialogue == n) && int_eq new.id i.id) same ∙ ap (λ b. b && int_eq new.id i.id) other

  kept_stage : (i : Invocation) → IsFound past i → i.dialogue ≡ dialogue
      → after i ≡ stage_by reject_ms past i (decision i.number past)
  kept_stage i found same =
      stage_unless reject_ms start pair past legal i found
      (ap (is_invoked (has_id i.dialogue i.id)) invoked ∙ has_not i same)
      ∙ (one (decision i.number past) ∙ sym (stage_is reject_ms past i found))
    where
      one : (d : Option Told) → stage_then reject_ms start pair past legal i d
          ≡ stage_more reject_ms past i (clock past) (span i past) d
      one None = ap (λ c. marked_stage (c + reject_ms) i.class i.timeout
          (span i past ++ marks i.dialogue i.id pair past)) still
          ∙ ap (marked_stage (clock past + reject_ms) i.class i.timeout)
          (ap (λ z. span i past ++ z) (ap (λ n. marks n i.id pair past) same ∙ quiet i.id)
          ∙ append-nil (span i past))
      one (Some t) =
          ap (λ b. cond (is_waiting reject_ms i.dialogue i.id past t && not b)
          (Some (Waiting (clock t.place + reject_ms))) None)
          (ap (λ n. pair_ends_wait (clock t.place + reject_ms) n i.id pair) same
          ∙ no_end i.id (clock t.place + reject_ms))
          ∙ go (is_waiting reject_ms i.dialogue i.id past t)
        where
          go : (b : Bool) → cond (b && true) (Some (Waiting (clock t.place + reject_ms))) None
              ≡ cond b (Some (Waiting (clock t.place + reject_ms))) None
          go true = refl
          go false = refl

  kept_row : (i : Invocation) → IsFound past i
      → row_of reject_ms dialogue (pair ∷ past) i ≡ row_of reject_ms dialogue past i
  kept_row i found =
      ap (λ o. cond ((i.dialogue == dialogue) && is_number i.number
      (option_or (with_id i.dialogue i.id o) (latest i.dialogue i.id past))) (row_by i (after i)) None) invoked
      ∙ go (i.dialogue == dialogue) refl
    where
      go : (a : Bool) → (i.dialogue == dialogue) ≡ a
          → cond (a && is_number i.number (option_or (with_id i.dialogue i.id (Some new))
          (latest i.dialogue i.id past))) (row_by i (after i)) None
          ≡ cond (a && is_number i.number (latest i.dialogue i.id past))
          (row_by i (stage_by reject_ms past i (decision i.number past))) None
      go false e = refl
      go true e =
          let same : i.dialogue ≡ dialogue = grind (arith, nat_tests) in
          ap (λ b. cond (is_number i.number (option_or (cond b (Some new) None) (latest i.dialogue i.id past)))
          (row_by i (after i)) None) (has_not i same)
          ∙ ap (λ s. cond (is_number i.number (latest i.dialogue i.id past)) (row_by i s) None)
          (kept_stage i found same)

  no_row : row_of reject_ms dialogue (pair ∷ past) new ≡ None
  no_row = ap (λ b. cond (b && is_number new.number (latest new.dialogue new.id (pair ∷ past))) (row_by new (after new))
      None) other

  pub rows_elsewhere : rows_of reject_ms dialogue (pair ∷ past) ≡ rows_of reject_ms dialogue past
  rows_elsewhere =
      ap (λ o. filter_map (row_of reject_ms dialogue (pair ∷ past)) (invocations past ++ option_to_list o)) invoked
      ∙ (filter_map-append (row_of reject_ms dialogue (pair ∷ past)) (invocations past) (new ∷ [])
      ∙ (ap (λ o. filter_map (row_of reject_ms dialogue (pair ∷ past)) (invocations past) ++ cons_option o []) no_row
      ∙ (append-nil (filter_map (row_of reject_ms dialogue (pair ∷ past)) (invocations past))
      ∙ same_kept (IsFound past) (row_of reject_ms dialogue (pair ∷ past)) (row_of reject_ms dialogue past)
      (λ i f. kept_row i f) (invocations past) (each_found start past legal))))

-- ---- an event that doesn't name the dialogue

-- an invocation is made in the dialogue that the request names
made_there : (asked : ℕ) (request : Request) (o : Option ℕ) (new : Invocation)
    → invoked_under asked request o ≡ Some new → asked ≡ new.dialogue
made_there asked request None new e = absurd cc
made_there asked (Request.component (ComponentRequest.invoke id class code parameter linked timeout)) (Some n) new e =
    let same : record { number = n; dialogue = asked; id = id; class = class; timeout = timeout } ≡ new =
    cc in ap (λ (i : Invocation). i.dialogue) same
made_there asked (Request.component (ComponentRequest.result_last id body)) (Some n) new e = absurd cc
made_there asked (Request.component (ComponentRequest.result_more id body)) (Some n) new e = absurd cc
made_there asked (Request.component (ComponentRequest.error_back id code parameter)) (Some n) new e = absurd cc
made_there asked (Request.component (ComponentRequest.u_reject id problem)) (Some n) new e = absurd cc
made_there asked (Request.component (ComponentRequest.u_cancel id)) (Some n) new e = absurd cc
made_there asked (Request.dialogue primitive) (Some n) new e = absurd cc

module _ (h : History) (dialogue : ℕ) (legal : IsLegal h) where
  rows_unnamed : (event : Event) → names event dialogue ≡ false
      → rows_of h.start.reject_ms dialogue (due_pair h event ∷ h.pairs) ≡ rows_of h.start.reject_ms dialogue h.pairs
  rows_unnamed Event.new_dialogue e =
      rows_kept h.start.reject_ms h.start (due_pair h Event.new_dialogue) h.pairs legal.1 refl dialogue
      (λ k. unnamed_marks dialogue k Event.new_dialogue (reply h Event.new_dialogue) h.start.idle_ms h.pairs e)
      (λ k u. and_false (is_accepted (reply h Event.new_dialogue)))
  rows_unnamed (Event.received from bytes) e =
      rows_kept h.start.reject_ms h.start (due_pair h (Event.received from bytes)) h.pairs legal.1 refl dialogue
      (λ k. unnamed_marks dialogue k (Event.received from bytes)
      (reply h (Event.received from bytes)) h.start.idle_ms h.pairs e)
      (λ k u. and_false (is_accepted (reply h (Event.received from bytes))))
  rows_unnamed (Event.moment now) e = absurd cc
  rows_unnamed (Event.on_dialogue asked request) e = go (invoked_by here) refl
    where
      here : Pair
      here = due_pair h (Event.on_dialogue asked request)

      quiet : (k : ℤ) → marks dialogue k here h.pairs ≡ []
      quiet k = unnamed_marks dialogue k (Event.on_dialogue asked request) (reply h (Event.on_dialogue asked request))
          h.start.idle_ms h.pairs e

      no_end : (k : ℤ) (u : ℕ) → pair_ends_wait u dialogue k here ≡ false
      no_end k u = ap (λ b. is_accepted (reply h (Event.on_dialogue asked request)) && (b && rejects_answer k request))
          e ∙ and_false (is_accepted (reply h (Event.on_dialogue asked request)))

      go : (o : Option Invocation) → invoked_by here ≡ o
          → rows_of h.start.reject_ms dialogue (here ∷ h.pairs) ≡ rows_of h.start.reject_ms dialogue h.pairs
      go None q = rows_kept h.start.reject_ms h.start here h.pairs legal.1 q dialogue quiet no_end
      go (Some new) q = rows_elsewhere h.start.reject_ms h.start here h.pairs legal.1 new q dialogue
          (ap (λ n. n == dialogue) (sym (made_there asked request (number_of here.answer) new q)) ∙ e) refl quiet no_end

  unnamed_stood : (state : State) (context : Option (List ℕ)) → life dialogue h.pairs ≡ Life.standing state context
      → (event : Event) → names event dialogue ≡ false
      → dialogue_at h.start.reject_ms h.start.idle_ms (due_pair h event ∷ h.pairs) dialogue
      ≡ Some (standing_dialogue h dialogue state context)
  unnamed_stood state context stands event e =
      life_unnamed h dialogue legal state context stands event e
      ∙ assembled h dialogue legal state context stands event state context (queue dialogue h.pairs)
      (rows_of h.start.reject_ms dialogue h.pairs) (touched dialogue h.pairs) (kept_address dialogue h.pairs)
      (queue_unnamed h dialogue legal state context stands event e) (rows_unnamed event e)
      (touched_unnamed h dialogue legal state context stands event e)
      (kept_unnamed h dialogue legal state context stands event e)

pub unnamed-stays : (h : History) (dialogue : ℕ) (d : Dialogue) (event : Event) → IsLegal h
    → dialogue_at h.start.reject_ms h.start.idle_ms h.pairs dialogue ≡ Some d → names event dialogue ≡ false
    → dialogue_at h.start.reject_ms h.start.idle_ms (due_pair h event ∷ h.pairs) dialogue ≡ Some d
unnamed-stays h dialogue d event legal e n =
    by_life (λ d. dialogue_at h.start.reject_ms h.start.idle_ms (due_pair h event ∷ h.pairs) dialogue ≡ Some d) h
    dialogue d
    (λ state context q. unnamed_stood h dialogue legal state context q event n) e
