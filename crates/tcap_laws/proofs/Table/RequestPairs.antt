-- After a request a dialogue that stands is what the history says.
use Rattle.std.proofs.Common.{◌≡◌, ℕ, ℤ, ◌==◌, ◌&&◌, true, false, cond, List, [], ◌∷◌, Option, Some, None, refl, ap, sym, ◌∙◌, arith, subst}
use Rattle.std.proofs.lemmas.Bool.Decides.{nat_tests}
use Rattle.std.specs.Prelude.{is_some, unwrap_or}
use Rattle.std.specs.List.{IsDistinct}
use Rattle.std.specs.Map.{keys_of}
use Rattle.std.specs.Ordering.{int_eq}
use Rattle.tcap_invocation.specs.declared.class.Class.{Class}
use Rattle.tcap_invocation.specs.declared.invocations.Invocation.{Invocation as Entry}
use Rattle.tcap_invocation.specs.declared.stage.Stage.{Stage}
use Rattle.tcap_invocation.specs.declared.stage.Stage.TheVariants.{Queued, Sent, Waiting}
use Rattle.tcap_invocation.specs.Closing.{number_of as numbered}
use Rattle.tcap_invocation.specs.Invocations.{Row, InvocationList, entry_at, passing, freed, sent_rows, without}
use Rattle.tcap_invocation.specs.Stage.{is_waiting, is_pending}
use Rattle.tcap_laws.proofs.Spans.MarksAfterBirth.{noted_at_clock}
use Rattle.tcap_laws.proofs.Spans.EventMarks.{standing_marks}
use Rattle.tcap_laws.proofs.Rows.RowsAfterPairs.{rows_marked, rows_kept, sent_all}
use Rattle.tcap_laws.proofs.Table.RequestsJudgedAlike.{standing_dialogue}
use Rattle.tcap_laws.proofs.Rows.Restaged.{on_id, restaged, LeavesStage, left_rows, freed_rows}
use Rattle.tcap_laws.proofs.Rows.DistinctRows.{rows_distinct}
use Rattle.tcap_laws.proofs.Rows.StagesByMarks.{dropped_stage}
use Rattle.tcap_laws.proofs.Table.StandingPairs.{life_named, queue_named, touched_named, assembled, kept_named}
use Rattle.tcap_model.specs.Table.Agreement.{due_pair}
use Rattle.tcap_model.specs.Words.Answer.{Answer, is_accepted}
use Rattle.tcap_model.specs.Histories.Clock.{clock}
use Rattle.tcap_model.specs.Table.Dialogue.{Dialogue}
use Rattle.tcap_model.specs.Replies.Due.{due}
use Rattle.tcap_model.specs.Words.Event.{Event}
use Rattle.tcap_model.specs.Words.Fault.{Fault}
use Rattle.tcap_model.specs.Replies.Held.{pair_ends_wait, rejects_answer}
use Rattle.tcap_model.specs.Histories.History.{History}
use Rattle.tcap_model.specs.Invocations.Invocation.{invoked_by, invoked_under}
use Rattle.tcap_model.specs.Replies.Legal.{IsLegal}
use Rattle.tcap_model.specs.Histories.Life.{Life, life, touched, life_by_request, life_if_accepted, touches_as_request}
use Rattle.tcap_model.specs.Invocations.Marks.{Mark, marks, marks_of_request, end_if_over, marks_by_event}
use Rattle.tcap_model.specs.Words.Output.{Output}
use Rattle.tcap_model.specs.Invocations.Numbers.{number_of}
use Rattle.tcap_model.specs.Replies.Queue.{queue, queue_if_accepted}
use Rattle.tcap_model.specs.Procedures.QueueRules.{Queued as Component}
use Rattle.tcap_model.specs.Replies.Reply.{reply, request_answer}
use Rattle.tcap_model.specs.Words.Request.{Request}
use Rattle.tcap_model.specs.Words.State.{State}
use Rattle.tcap_model.specs.Table.World.{dialogue_at, dialogue_by, rows_of}
use Rattle.tcap_model.specs.Words.Address.{Address}
use Rattle.tcap_model.specs.Histories.Kept.{kept_address, kept_by_request}

-- ---- the rows of the table

-- a wait that the user's Reject ends
abbrev pub free_wait : Class → Stage → Option Stage
free_wait class (Queued timeout) = Some (Queued timeout)
free_wait class (Sent deadline) = Some (Sent deadline)
free_wait class (Waiting u) = None

abbrev pub dropped : Class → Stage → Option Stage
dropped class s = dropped_stage s

module _ (list : InvocationList) (id : ℤ) (distinct : IsDistinct int_eq (keys_of list.rows)) where
  pub freed_wait : (o : Option Entry) → entry_at list.rows id ≡ o
      → (freed list id (is_some (passing is_waiting o)))
      ≡ record { reject_ms = list.reject_ms; rows = restaged (on_id id free_wait) list.rows }
  freed_wait None at =
      ap (λ z. record { reject_ms = list.reject_ms; rows = z })
      (sym (left_rows id free_wait list.rows distinct (subst (λ o. LeavesStage free_wait o) (sym at) tt)))
  freed_wait (Some e) at = go e.stage refl
    where
      go : (s : Stage) → e.stage ≡ s → freed list id (is_some (cond (is_waiting e.stage) (Some e) None))
          ≡ record { reject_ms = list.reject_ms; rows = restaged (on_id id free_wait) list.rows }
      go (Waiting u) q =
          ap (λ s. freed list id (is_some (cond (is_waiting s) (Some e) None))) q
          ∙ ap (λ z. record { reject_ms = list.reject_ms; rows = z })
          (sym (freed_rows id free_wait list.rows e distinct at (ap (free_wait e.class) q)))
      go (Queued timeout) q =
          ap (λ s. freed list id (is_some (cond (is_waiting s) (Some e) None))) q
          ∙ ap (λ z. record { reject_ms = list.reject_ms; rows = z })
          (sym (left_rows id free_wait list.rows distinct
          (subst (λ o. LeavesStage free_wait o) (sym at) (ap (free_wait e.class) q ∙ ap Some (sym q)))))
      go (Sent deadline) q =
          ap (λ s. freed list id (is_some (cond (is_waiting s) (Some e) None))) q
          ∙ ap (λ z. record { reject_ms = list.reject_ms; rows = z })
          (sym (left_rows id free_wait list.rows distinct
          (subst (λ o. LeavesStage free_wait o) (sym at) (ap (free_wait e.class) q ∙ ap Some (sym q)))))

  pub given_up : (n : ℕ) (o : Option Entry) → entry_at list.rows id ≡ o → numbered (passing is_pending o) ≡ Some n
      → restaged (on_id id dropped) list.rows ≡ without list.rows id
  given_up n None at e = absurd cc
  given_up n (Some y) at e = go y.stage refl e
    where
      go : (s : Stage) → y.stage ≡ s → numbered (cond (is_pending y.stage) (Some y) None) ≡ Some n
          → restaged (on_id id dropped) list.rows ≡ without list.rows id
      go (Queued timeout) q e = freed_rows id dropped list.rows y distinct at (ap dropped_stage q)
      go (Sent deadline) q e = freed_rows id dropped list.rows y distinct at (ap dropped_stage q)
      go (Waiting u) q e =
          let never : None ≡ Some n = sym (ap (λ s. numbered (cond (is_pending s) (Some y) None)) q) ∙ e in absurd cc

module _ (h : History) (dialogue : ℕ) (legal : IsLegal h) (state : State) (context : Option (List ℕ))
    (stands : life dialogue h.pairs ≡ Life.standing state context) (request : Request) where
  abbrev pub d : Dialogue
  d = standing_dialogue h dialogue state context

  abbrev pub event : Event
  event = Event.on_dialogue dialogue request

  abbrev pub rows : List Row
  rows = rows_of h.start.reject_ms dialogue h.pairs

  abbrev pub found_at : Option Dialogue
  found_at = dialogue_at h.start.reject_ms h.start.idle_ms (due_pair h event ∷ h.pairs) dialogue

  own : (dialogue == dialogue) ≡ true
  own = grind (arith, nat_tests)

  pub distinct : IsDistinct int_eq (keys_of rows)
  distinct = rows_distinct h.start h.pairs legal.1 h.start.reject_ms dialogue

  pub reply_is : (f : Option Fault) → due h dialogue request ≡ f
      → reply h event ≡ request_answer h dialogue request (Life.standing state context) f
  reply_is f e = ap (λ l. request_answer h dialogue request l (due h dialogue request)) stands
      ∙ ap (request_answer h dialogue request (Life.standing state context)) e

  -- ---- a request with this answer

  module _ (a : Answer) (is : reply h event ≡ a) where
    pub invoked_as : invoked_by (due_pair h event) ≡ invoked_under dialogue request (number_of a)
    invoked_as = ap (λ a. invoked_under dialogue request (number_of a)) is

    pub found_by : (l : Life) → life_if_accepted (is_accepted a) state context request ≡ l
        → found_at ≡ dialogue_by h.start.reject_ms h.start.idle_ms dialogue (due_pair h event ∷ h.pairs) l
    found_by l e = life_named h dialogue legal state context stands event own l
        (ap (λ a. life_if_accepted (is_accepted a) state context request) is ∙ e)

    pub queue_by : queue dialogue (due_pair h event ∷ h.pairs)
        ≡ queue_if_accepted (is_accepted a) (queue dialogue h.pairs) request a
    queue_by = queue_named h dialogue legal state context stands event own
        ∙ ap (λ a. queue_if_accepted (is_accepted a) (queue dialogue h.pairs) request a) is

    pub marks_by : (k : ℤ) → marks dialogue k (due_pair h event) h.pairs
        ≡ noted_at_clock (clock h.pairs) (marks_by_event k (Life.standing state context)
        (life_if_accepted (is_accepted a) state context request) event (is_accepted a))
    marks_by k = standing_marks dialogue k event (reply h event) h.start.idle_ms h.pairs state context stands own
        ∙ ap (λ a. noted_at_clock (clock h.pairs) (marks_by_event k (Life.standing state context)
        (life_if_accepted (is_accepted a) state context request) event (is_accepted a))) is

    pub ends_by : (k : ℤ) (u : ℕ) → pair_ends_wait u dialogue k (due_pair h event)
        ≡ (is_accepted a && rejects_answer k request)
    ends_by k u = ap (λ b. is_accepted (reply h event) && (b && rejects_answer k request)) own
        ∙ ap (λ a. is_accepted a && rejects_answer k request) is

    pub rows_quiet : invoked_under dialogue request (number_of a) ≡ None
        → ((k : ℤ) → marks_by_event k (Life.standing state context)
        (life_if_accepted (is_accepted a) state context request) event (is_accepted a) ≡ [])
        → ((k : ℤ) → (is_accepted a && rejects_answer k request) ≡ false)
        → rows_of h.start.reject_ms dialogue (due_pair h event ∷ h.pairs) ≡ rows
    rows_quiet none no_marks ends =
        rows_kept h.start.reject_ms h.start (due_pair h event) h.pairs legal.1 (invoked_as ∙ none) dialogue
        (λ k. marks_by k ∙ ap (noted_at_clock (clock h.pairs)) (no_marks k)) (λ k u. ends_by k u ∙ ends k)

    -- the clock at the last activity of the dialogue, by whether the request is one
    pub touched_by : touched dialogue (due_pair h event ∷ h.pairs)
        ≡ cond (is_accepted a && touches_as_request request) (clock h.pairs) (touched dialogue h.pairs)
    touched_by = touched_named h dialogue legal state context stands event own
        (is_accepted a && touches_as_request request) (ap (λ a. is_accepted a && touches_as_request request) is)

    -- the address of its peer, by the request
    pub kept_by : kept_address dialogue (due_pair h event ∷ h.pairs)
        ≡ cond (is_accepted a) (kept_by_request (kept_address dialogue h.pairs) request) (kept_address dialogue h.pairs)
    kept_by = kept_named h dialogue legal state context stands event own
        ∙ ap (λ a. cond (is_accepted a) (kept_by_request (kept_address dialogue h.pairs) request)
        (kept_address dialogue h.pairs)) is

    -- the dialogue of these parts
    pub found_of : (s : State) (c : Option (List ℕ)) (q : List Component) (after : List Row) (t : ℕ)
        (address : Address)
        → life_if_accepted (is_accepted a) state context request ≡ Life.standing s c
        → queue_if_accepted (is_accepted a) (queue dialogue h.pairs) request a ≡ q
        → rows_of h.start.reject_ms dialogue (due_pair h event ∷ h.pairs) ≡ after
        → cond (is_accepted a && touches_as_request request) (clock h.pairs) (touched dialogue h.pairs) ≡ t
        → cond (is_accepted a) (kept_by_request (kept_address dialogue h.pairs) request) (kept_address dialogue h.pairs)
        ≡ address
        → found_at ≡ Some (record {
          standing =
              record { identifier = dialogue; state = s; context = c; queue = q };
          invocations =
              record { reject_ms = h.start.reject_ms; rows = after };
          idle_ms = h.start.idle_ms;
          touched = t;
          kept = address;
        })
    found_of s c q after t address e w v u z =
        found_by (Life.standing s c) e ∙ assembled h dialogue legal state context stands event s c q after t
        address (queue_by ∙ w) v (touched_by ∙ u) (kept_by ∙ z)

  pub refused_moves : (f : Fault) → reply h event ≡ Answer.refused f → found_at ≡ Some d
  refused_moves f is =
      found_of (Answer.refused f) is state context (queue dialogue h.pairs) rows (touched dialogue h.pairs)
      (kept_address dialogue h.pairs) refl refl
      (rows_quiet (Answer.refused f) is refl (λ k. refl) (λ k. refl)) refl refl

  -- a message that takes the queue
  pub rows_sent : (outputs : List Output) (is : reply h event ≡ Answer.outputs outputs)
      → invoked_under dialogue request None ≡ None
      → ((k : ℤ) → unwrap_or (marks_of_request k request)
      (end_if_over (Life.standing state context) (life_by_request state context request)) ≡ Mark.sent ∷ [])
      → ((k : ℤ) → rejects_answer k request ≡ false)
      → rows_of h.start.reject_ms dialogue (due_pair h event ∷ h.pairs) ≡ sent_rows (clock h.pairs) rows
  rows_sent outputs is none marked ends =
      rows_marked h.start.reject_ms h.start (due_pair h event) h.pairs legal.1
      (invoked_as (Answer.outputs outputs) is ∙ none) dialogue Mark.sent (λ k. true)
      (λ k. marks_by (Answer.outputs outputs) is k ∙ ap (noted_at_clock (clock h.pairs)) (marked k))
      (λ k u. ends_by (Answer.outputs outputs) is k u ∙ ends k)
      ∙ sent_all (clock h.pairs) rows
