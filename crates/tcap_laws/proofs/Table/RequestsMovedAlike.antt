-- After each request a dialogue that stands is what the history says.
use Rattle.std.proofs.Common.{◌≡◌, ℕ, ℤ, ◌+◌, ◌&&◌, Bool, true, false, cond, List, [], ◌∷◌, ◌++◌, Option, Some, None, refl, ap, sym, ◌∙◌}
use Rattle.std.specs.Prelude.{is_some, option_to_list, unwrap_or}
use Rattle.std.specs.Ordering.{int_eq}
use Rattle.tcap_component.specs.Component.{CodeParts}
use Rattle.tcap_component.specs.Problem.{ProblemParts}
use Rattle.tcap_component.specs.declared.problem.Kind.{Kind}
use Rattle.tcap_component.specs.declared.problem.Kind.TheVariants as kind
use Rattle.tcap_invocation.specs.declared.class.Class.{Class}
use Rattle.tcap_invocation.specs.declared.stage.Stage.TheVariants.{Queued, Waiting}
use Rattle.tcap_invocation.specs.Closing.{given_up_at, after_free_wait}
use Rattle.tcap_invocation.specs.Invocations.{Row, InvocationList, entry_at, freed, sent_rows, without}
use Rattle.tcap_laws.proofs.Spans.MarksAfterBirth.{noted_at_clock}
use Rattle.tcap_laws.proofs.Receptions.NothingDue.{first_that-none}
use Rattle.tcap_laws.proofs.Rows.RowsAfterInvokes.{rows_invoked}
use Rattle.tcap_laws.proofs.Table.MessagesMovedAlike.{by_life}
use Rattle.tcap_laws.proofs.Rows.RowsAfterPairs.{rows_moved, rows_marked}
use Rattle.tcap_laws.proofs.Table.RequestsJudgedAlike.{standing_dialogue, due-agrees}
use Rattle.tcap_laws.proofs.Rows.Restaged.{on_id, restaged}
use Rattle.tcap_laws.proofs.Rows.IdentifiersInRows.{pending-rows}
use Rattle.tcap_model.specs.Table.Agreement.{setting_at, due_pair}
use Rattle.tcap_model.specs.Words.Answer.{Answer}
use Rattle.tcap_model.specs.Histories.Clock.{clock}
use Rattle.tcap_model.specs.Table.Dialogue.{Dialogue}
use Rattle.tcap_model.specs.Replies.Due.{standing_of, situation_of, due, due_by}
use Rattle.tcap_model.specs.Words.Event.{Event}
use Rattle.tcap_model.specs.Words.Fault.{Fault}
use Rattle.tcap_model.specs.Replies.Held.{pair_ends_wait, rejects_answer, held}
use Rattle.tcap_model.specs.Histories.History.{History}
use Rattle.tcap_model.specs.Words.InRange.{InRange}
use Rattle.tcap_model.specs.Invocations.Invocation.{Invocation, invoked_under, next_number}
use Rattle.tcap_model.specs.Replies.Legal.{IsLegal}
use Rattle.tcap_model.specs.Histories.Life.{Life, life, life_by_request}
use Rattle.tcap_model.specs.Invocations.Marks.{Mark, marks, end_if_over, marks_of_request}
use Rattle.tcap_model.specs.Histories.Pair.{Pair}
use Rattle.tcap_model.specs.Replies.Queue.{queue, queue_by_request}
use Rattle.tcap_model.specs.Procedures.QueueRules.{Queued as Component, without_invoke}
use Rattle.tcap_model.specs.Procedures.Refusals.{due_on, holds, faults_of}
use Rattle.tcap_model.specs.Replies.Reply.{reply, accepted_answer, given_up_answer, request_sent}
use Rattle.tcap_model.specs.Words.Request.{Request, ComponentRequest, DialogueRequest}
use Rattle.tcap_model.specs.Words.State.{State, activated}
use Rattle.tcap_model.specs.Table.TableMove.{DialogueEvent, accepted, requested_by, giving_up, freed_by, table_move, left_standing}
use Rattle.tcap_model.specs.Table.World.{dialogue_at, dialogue_by, rows_of}
use Rattle.std.proofs.lemmas.List.{append-nil}
use Rattle.tcap_laws.proofs.Table.RequestPairs.{free_wait, freed_wait, given_up, reply_is, invoked_as, found_by, marks_by, ends_by, rows_quiet, found_of, refused_moves, rows_sent, distinct}
use Rattle.tcap_laws.proofs.Rows.StagesByMarks.{open_stage, closed_stage, marked_stage}
use Rattle.tcap_model.specs.Procedures.ComponentRequest.{queued_for}
use Rattle.tcap_model.specs.Invocations.Deadline.{sent_clock}
use Rattle.tcap_model.specs.Procedures.Problems.{is_of_answer}
use Rattle.tcap_model.specs.Invocations.Span.{span}
use Rattle.tcap_laws.proofs.BoolLemmas.{and_false, and_true}

module _ (h : History) (dialogue : ℕ) (legal : IsLegal h) (state : State) (context : Option (List ℕ))
    (stands : life dialogue h.pairs ≡ Life.standing state context) where
  abbrev stood : Dialogue
  stood = standing_dialogue h dialogue state context

  abbrev waiting : List Component
  waiting = queue dialogue h.pairs

  abbrev rows : List Row
  rows = rows_of h.start.reject_ms dialogue h.pairs

  abbrev found_after : Request → Option Dialogue
  found_after request =
      dialogue_at h.start.reject_ms h.start.idle_ms (due_pair h (Event.on_dialogue dialogue request) ∷ h.pairs) dialogue

  abbrev moved : Request → Option Dialogue
  moved request = left_standing (accepted (setting_at h) stood request)

  abbrev pair_of : Request → Pair
  pair_of request = due_pair h (Event.on_dialogue dialogue request)

  -- ---- components

  -- the dialogue with this queue and these invocations
  abbrev with_parts : List Component → InvocationList → Dialogue
  with_parts q list =
      record stood {
        standing = record { identifier = dialogue; state = state; context = context; queue = q };
        invocations = list;
      }

  abbrev with_component : ComponentRequest → List Component
  with_component asked = waiting ++ option_to_list (queued_for 0 (Request.component asked))

  -- a component is queued, and nothing else changes
  queued_moves : (asked : ComponentRequest)
      (is : reply h (Event.on_dialogue dialogue (Request.component asked)) ≡ Answer.done)
      → life_by_request state context (Request.component asked) ≡ Life.standing state context
      → queue_by_request waiting (Request.component asked) Answer.done ≡ with_component asked
      → invoked_under dialogue (Request.component asked) None ≡ None
      → ((k : ℤ) → unwrap_or (marks_of_request k (Request.component asked))
      (end_if_over (Life.standing state context) (life_by_request state context (Request.component asked))) ≡ [])
      → ((k : ℤ) → rejects_answer k (Request.component asked) ≡ false)
      → found_after (Request.component asked) ≡ Some (with_parts (with_component asked) stood.invocations)
  queued_moves asked is l e none marked ends =
      found_of h dialogue legal state context stands (Request.component asked) Answer.done is state context
      (with_component asked) rows stood.touched stood.kept l e
      (rows_quiet h dialogue legal state context stands (Request.component asked) Answer.done is none marked ends) refl
      refl

  -- ---- a Reject

  module _ (id : ℤ) (problem : ProblemParts) (is : reply h
      (Event.on_dialogue dialogue (Request.component (ComponentRequest.u_reject (Some id) problem))) ≡ Answer.done)
    where
      abbrev asked_reject : ComponentRequest
      asked_reject = ComponentRequest.u_reject (Some id) problem

      abbrev rejecting : Request
      rejecting = Request.component asked_reject

      abbrev rejected_with : InvocationList → Dialogue
      rejected_with list = with_parts (with_component asked_reject) list

      no_marks : (k : ℤ) → marks dialogue k (pair_of rejecting) h.pairs ≡ []
      no_marks k = marks_by h dialogue legal state context stands rejecting Answer.done is k

      wait_freed : is_of_answer problem.kind ≡ true
          → rows_of h.start.reject_ms dialogue (pair_of rejecting ∷ h.pairs) ≡ restaged (on_id id free_wait) rows
      wait_freed e = rows_moved h.start.reject_ms h.start (pair_of rejecting) h.pairs legal.1
          (invoked_as h dialogue legal state context stands rejecting Answer.done is) dialogue (on_id id free_wait)
          (λ i same still.
          ap (λ z. marked_stage (clock (pair_of rejecting ∷ h.pairs) + h.start.reject_ms) i.class i.timeout
          (span i h.pairs ++ z)) (ap (λ n. marks n i.id (pair_of rejecting) h.pairs) same ∙ no_marks i.id)
          ∙ (ap (marked_stage (clock (pair_of rejecting ∷ h.pairs) + h.start.reject_ms) i.class i.timeout)
          (append-nil (span i h.pairs))
          ∙ (ap (λ o. closed_stage (clock (pair_of rejecting ∷ h.pairs) + h.start.reject_ms) i.timeout o
          (sent_clock (span i h.pairs))) still
          ∙ open_stays i.class i.timeout (int_eq id i.id) (sent_clock (span i h.pairs)))))
          (λ i same u. sym (ap (λ b. cond b None (Some (Waiting u)))
          (ap (λ n. pair_ends_wait u n i.id (pair_of rejecting)) same
          ∙ (ends_by h dialogue legal state context stands rejecting Answer.done is i.id u
          ∙ (ap (λ b. int_eq id i.id && b) e ∙ and_true (int_eq id i.id))))))
        where
          open_stays : (class : Class) (timeout : ℕ) (b : Bool) (o : Option ℕ)
              → Some (open_stage timeout o) ≡ cond b (free_wait class (open_stage timeout o))
              (Some (open_stage timeout o))
          open_stays class timeout true None = refl
          open_stays class timeout true (Some k) = refl
          open_stays class timeout false o = refl

      kept_reject : is_of_answer problem.kind ≡ false → found_after rejecting ≡ Some (rejected_with stood.invocations)
      kept_reject e = queued_moves asked_reject is refl refl refl (λ k. refl)
          (λ k. ap (λ b. int_eq id k && b) e ∙ and_false (int_eq id k))

      freeing_reject : is_of_answer problem.kind ≡ true
          → found_after rejecting ≡ Some (rejected_with (after_free_wait stood.invocations id))
      freeing_reject e =
          found_of h dialogue legal state context stands rejecting Answer.done is state context
          (with_component asked_reject) (restaged (on_id id free_wait) rows) stood.touched stood.kept refl refl
          (wait_freed e) refl refl
          ∙ ap (λ l. Some (rejected_with l)) (sym (freed_wait stood.invocations id
          (distinct h dialogue legal state context stands rejecting) (entry_at rows id) refl))

      reject_moves : (k : Kind) → problem.kind ≡ k
          → found_after rejecting ≡ Some (rejected_with (freed_by stood.invocations (Some id) k))
      reject_moves kind.General e = kept_reject (ap is_of_answer e)
      reject_moves kind.Invoke e = kept_reject (ap is_of_answer e)
      reject_moves kind.Result e = freeing_reject (ap is_of_answer e)
      reject_moves kind.Error e = freeing_reject (ap is_of_answer e)

  -- ---- an invocation that is given up

  module _ (id : ℤ) where
    abbrev cancelling : Request
    cancelling = Request.component (ComponentRequest.u_cancel id)

    cancel_by : (o : Option ℕ) → given_up_at rows id ≡ o
        → reply h (Event.on_dialogue dialogue cancelling) ≡ given_up_answer o
        → found_after cancelling ≡ left_standing (giving_up stood id o)
    cancel_by None e is = refused_moves h dialogue legal state context stands cancelling Fault.no_such_invocation is
    cancel_by (Some n) e is =
        found_of h dialogue legal state context stands cancelling (Answer.given_up n) is state context
        (without_invoke n waiting) (without rows id) stood.touched stood.kept refl refl
        (rows_marked h.start.reject_ms h.start (pair_of cancelling) h.pairs legal.1
        (invoked_as h dialogue legal state context stands cancelling (Answer.given_up n) is) dialogue Mark.given_up
        (int_eq id)
        (λ k. marks_by h dialogue legal state context stands cancelling (Answer.given_up n) is k ∙ noted (int_eq id k))
        (λ k u. ends_by h dialogue legal state context stands cancelling (Answer.given_up n) is k u)
        ∙ given_up stood.invocations id (distinct h dialogue legal state context stands cancelling) n (entry_at rows id)
        refl e) refl refl
        ∙ ap (λ o. Some (with_parts (without_invoke n waiting) (freed stood.invocations id (is_some o)))) (sym e)
      where
        noted : (b : Bool) → noted_at_clock (clock h.pairs) (cond b (Mark.given_up ∷ []) [])
            ≡ cond b (record { clock = clock h.pairs; mark = Mark.given_up } ∷ []) []
        noted true = refl
        noted false = refl

  -- ---- an invoke

  module _ (id : ℤ) (class : Class) (code : CodeParts) (parameter : Option (List ℕ)) (linked : Option ℤ) (timeout : ℕ)
    where
      abbrev invoking : Request
      invoking = Request.component (ComponentRequest.invoke id class code parameter linked timeout)

      abbrev new : Invocation
      new = record { number = next_number h; dialogue = dialogue; id = id; class = class; timeout = timeout }

      free_by : due h dialogue invoking ≡ None → held h.start.reject_ms dialogue id h.pairs ≡ false
      free_by e =
          let none : due_on (situation_of h dialogue (standing_of dialogue h.pairs state context) invoking) invoking
          ≡ None = ap (due_by h dialogue invoking) (sym stands) ∙ e in
          (first_that-none (holds (situation_of h dialogue (standing_of dialogue h.pairs state context) invoking)
          invoking) (faults_of invoking) none).1.1.1.1.0

      invoke_moves : InRange (Event.on_dialogue dialogue invoking) → due h dialogue invoking ≡ None
          → reply h (Event.on_dialogue dialogue invoking) ≡ Answer.number (next_number h)
          → found_after invoking ≡ moved invoking
      invoke_moves within e is =
          found_of h dialogue legal state context stands invoking (Answer.number (next_number h)) is state context
          (waiting ++ option_to_list (queued_for (next_number h) invoking))
          (rows ++ (id, record { number = next_number h; class = class; stage = Queued timeout }) ∷ []) stood.touched
          stood.kept refl refl
          (rows_invoked h.start.reject_ms h.start (pair_of invoking) h.pairs
          (record { in_range = within; is_limited = refl }, refl, legal.1) new
          (invoked_as h dialogue legal state context stands invoking (Answer.number (next_number h)) is) refl
          (λ k. marks_by h dialogue legal state context stands invoking (Answer.number (next_number h)) is k)
          (λ k u. ends_by h dialogue legal state context stands invoking (Answer.number (next_number h)) is k u)
          (free_by e)) refl refl

  -- ---- all requests

  accepted_moves : (request : Request) → InRange (Event.on_dialogue dialogue request) → due h dialogue request ≡ None
      → reply h (Event.on_dialogue dialogue request)
      ≡ accepted_answer h (standing_of dialogue h.pairs state context) request → found_after request ≡ moved request
  accepted_moves (Request.component (ComponentRequest.invoke id class code parameter linked timeout)) within e is =
      invoke_moves id class code parameter linked timeout within e is
  accepted_moves (Request.component (ComponentRequest.result_last id body)) within e is =
      queued_moves (ComponentRequest.result_last id body) is refl refl refl (λ k. refl) (λ k. refl)
  accepted_moves (Request.component (ComponentRequest.result_more id body)) within e is =
      queued_moves (ComponentRequest.result_more id body) is refl refl refl (λ k. refl) (λ k. refl)
  accepted_moves (Request.component (ComponentRequest.error_back id code parameter)) within e is =
      queued_moves (ComponentRequest.error_back id code parameter) is refl refl refl (λ k. refl) (λ k. refl)
  accepted_moves (Request.component (ComponentRequest.u_reject None problem)) within e is =
      queued_moves (ComponentRequest.u_reject None problem) is refl refl refl (λ k. refl) (λ k. refl)
  accepted_moves (Request.component (ComponentRequest.u_reject (Some id) problem)) within e is =
      reject_moves id problem is problem.kind refl
  accepted_moves (Request.component (ComponentRequest.u_cancel id)) within e is =
      cancel_by id (given_up_at rows id) refl (is ∙ ap given_up_answer
      (sym (pending-rows h.start.reject_ms dialogue h.pairs id)))
  accepted_moves (Request.dialogue (DialogueRequest.uni to given info)) within e is =
      found_by h dialogue legal state context stands (Request.dialogue (DialogueRequest.uni to given info))
      (accepted_answer h (standing_of dialogue h.pairs state context)
      (Request.dialogue (DialogueRequest.uni to given info))) is Life.over refl
  accepted_moves (Request.dialogue (DialogueRequest.begin to given info)) within e is =
      found_of h dialogue legal state context stands (Request.dialogue (DialogueRequest.begin to given info))
      (accepted_answer h (standing_of dialogue h.pairs state context)
      (Request.dialogue (DialogueRequest.begin to given info))) is State.sent given [] (sent_rows (clock h.pairs) rows)
      (clock h.pairs) to refl refl
      (rows_sent h dialogue legal state context stands (Request.dialogue (DialogueRequest.begin to given info))
      (request_sent h.pairs (standing_of dialogue h.pairs state context)
      (Request.dialogue (DialogueRequest.begin to given info))) is refl (λ k. refl) (λ k. refl)) refl refl
  accepted_moves (Request.dialogue (DialogueRequest.go_on given info)) within e is =
      found_of h dialogue legal state context stands (Request.dialogue (DialogueRequest.go_on given info))
      (accepted_answer h (standing_of dialogue h.pairs state context)
      (Request.dialogue (DialogueRequest.go_on given info))) is (activated state) context []
      (sent_rows (clock h.pairs) rows) (clock h.pairs) stood.kept refl refl
      (rows_sent h dialogue legal state context stands (Request.dialogue (DialogueRequest.go_on given info))
      (request_sent h.pairs (standing_of dialogue h.pairs state context)
      (Request.dialogue (DialogueRequest.go_on given info))) is refl (λ k. refl) (λ k. refl)) refl refl
  accepted_moves (Request.dialogue (DialogueRequest.finish end_if_over given info)) within e is =
      found_by h dialogue legal state context stands (Request.dialogue (DialogueRequest.finish end_if_over given info))
      (accepted_answer h (standing_of dialogue h.pairs state context)
      (Request.dialogue (DialogueRequest.finish end_if_over given info))) is Life.over refl
  accepted_moves (Request.dialogue (DialogueRequest.u_abort why info)) within e is =
      found_by h dialogue legal state context stands (Request.dialogue (DialogueRequest.u_abort why info))
      (accepted_answer h (standing_of dialogue h.pairs state context)
      (Request.dialogue (DialogueRequest.u_abort why info))) is Life.over refl

  request_by : (request : Request) → InRange (Event.on_dialogue dialogue request) → (f : Option Fault)
      → due h dialogue request ≡ f → found_after request ≡ left_standing (requested_by (setting_at h) stood request f)
  request_by request within None e =
      accepted_moves request within e (reply_is h dialogue legal state context stands request None e)
  request_by request within (Some f) e =
      refused_moves h dialogue legal state context stands request f
      (reply_is h dialogue legal state context stands request (Some f) e)

  pub request_stood : (request : Request) → InRange (Event.on_dialogue dialogue request)
      → found_after request ≡ left_standing (table_move (setting_at h) stood (DialogueEvent.request request))
  unfolding table_move
  request_stood request within =
      request_by request within (due h dialogue request) refl
      ∙ ap (λ f. left_standing (requested_by (setting_at h) stood request f))
      (sym (due-agrees h dialogue stood request
      (ap (dialogue_by h.start.reject_ms h.start.idle_ms dialogue h.pairs) stands)))

pub request-moves : (h : History) (dialogue : ℕ) (d : Dialogue) (request : Request) → IsLegal h
    → InRange (Event.on_dialogue dialogue request)
    → dialogue_at h.start.reject_ms h.start.idle_ms h.pairs dialogue ≡ Some d
    → dialogue_at h.start.reject_ms h.start.idle_ms (due_pair h (Event.on_dialogue dialogue request) ∷ h.pairs) dialogue
    ≡ left_standing (table_move (setting_at h) d (DialogueEvent.request request))
request-moves h dialogue d request legal within e =
    by_life (λ d. dialogue_at h.start.reject_ms h.start.idle_ms
    (due_pair h (Event.on_dialogue dialogue request) ∷ h.pairs) dialogue ≡ left_standing (table_move (setting_at h) d (DialogueEvent.request request))) h dialogue d
    (λ state context q. request_stood h dialogue legal state context q request within) e
