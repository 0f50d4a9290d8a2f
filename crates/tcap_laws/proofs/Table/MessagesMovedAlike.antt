-- After a message and after a moment a dialogue that stands is what the history says.
use Rattle.std.proofs.Common.{◌≡◌, ℕ, ℤ, Bool, true, false, nat_le, cond, List, [], ◌∷◌, ◌&&◌, length, Option, Some, None, Ok, Err, Result, refl, ap, sym, ◌∙◌}
use Rattle.std.specs.Prelude.{filter, unwrap_or}
use Rattle.tcap_component.specs.ComponentReading.{components_of}
use Rattle.tcap_invocation.specs.Invocations.{Row}
use Rattle.tcap_invocation.specs.Lapses.{stays}
use Rattle.tcap_laws.proofs.Spans.MarksAfterBirth.{noted_at_clock}
use Rattle.tcap_laws.proofs.Table.LastAnswersAlike.{components-rejected}
use Rattle.tcap_laws.proofs.Table.LivesThen.{accepted_by, left_by_moment, answered_is}
use Rattle.tcap_laws.proofs.Spans.EventMarks.{standing_marks}
use Rattle.tcap_laws.proofs.Rows.RowsAfterPairs.{rows_kept, rows_lapsed}
use Rattle.tcap_laws.proofs.Table.RequestsJudgedAlike.{standing_dialogue, at_life}
use Rattle.tcap_laws.proofs.Rows.Restaged.{passing_rows}
use Rattle.tcap_laws.proofs.Table.StandingPairs.{here, life_named, queue_named, touched_named, assembled, kept_named}
use Rattle.tcap_laws.proofs.Rows.ComponentsAlike.{fault_last}
use Rattle.tcap_laws.proofs.Rows.RowsAfterComponents.{walk_at, rows_up}
use Rattle.tcap_model.specs.Table.Agreement.{setting_at, due_pair}
use Rattle.tcap_model.specs.Words.Answer.{is_accepted}
use Rattle.tcap_model.specs.Histories.Clock.{clock}
use Rattle.tcap_model.specs.Table.Dialogue.{Dialogue, is_idle_at}
use Rattle.tcap_model.specs.Words.Event.{Event}
use Rattle.tcap_model.specs.Replies.Held.{pair_ends_wait}
use Rattle.tcap_model.specs.Histories.History.{History}
use Rattle.tcap_model.specs.Replies.Legal.{IsLegal}
use Rattle.tcap_model.specs.Histories.Life.{Life, life, touched, life_by_verdict, life_by_message, life_if_live, life_by_moment, life_by_event}
use Rattle.tcap_model.specs.Histories.Life.{is_normal, touches_as_message}
use Rattle.tcap_model.specs.Invocations.Marks.{Mark, marks, end_if_over, if_normal, component_marks, marks_of_message, marks_by_event, marks_if_live}
use Rattle.tcap_model.specs.Procedures.PortionRules.{PortionVerdict, portion_verdict}
use Rattle.tcap_model.specs.Replies.Queue.{queue, handled_in, queue_by_verdict, queue_by_message, queue_by_bytes}
use Rattle.tcap_model.specs.Procedures.QueueRules.{queue_limit, queue_each}
use Rattle.tcap_model.specs.Replies.Reply.{reply}
use Rattle.tcap_model.specs.Words.State.{State, is_live, peer_by, address_by}
use Rattle.tcap_model.specs.Table.TableMove.{DialogueEvent, Walked, walked_in, continued_by, ended_by, idled, lapsed, table_move, left_standing}
use Rattle.tcap_model.specs.Words.Time.{moment_fault, is_idle}
use Rattle.tcap_model.specs.Table.World.{dialogue_at, dialogue_by, rows_of}
use Rattle.tcap_pdu.specs.declared.fault.FrameFault.{FrameFault}
use Rattle.tcap_pdu.specs.FrameReading.{frame_at}
use Rattle.tcap_pdu.specs.FrameSpelling.{Message}
use Rattle.tcap_laws.proofs.BoolLemmas.{and_false}
use Rattle.tcap_laws.proofs.Rows.EndsAfterComponents.{rows_message}
use Rattle.tcap_model.specs.Words.Address.{Address}
use Rattle.tcap_laws.proofs.Receptions.BytesNames.{names_in}
use Rattle.tcap_model.specs.Histories.Kept.{kept_address, kept_by_message}

-- ---- a dialogue that stands

module _ (h : History) (dialogue : ℕ) (legal : IsLegal h) (state : State) (context : Option (List ℕ))
    (stands : life dialogue h.pairs ≡ Life.standing state context) where
  abbrev d : Dialogue
  d = standing_dialogue h dialogue state context

  abbrev found_at : Event → Option Dialogue
  found_at event = dialogue_at h.start.reject_ms h.start.idle_ms (due_pair h event ∷ h.pairs) dialogue

  stands_at : dialogue_at h.start.reject_ms h.start.idle_ms h.pairs dialogue ≡ Some d
  stands_at = ap (dialogue_by h.start.reject_ms h.start.idle_ms dialogue h.pairs) stands

  -- ---- a moment

  abbrev last : ℕ
  last = touched dialogue h.pairs

  module _ (now : ℕ) (timely : moment_fault now ≡ None) where
    accepted : is_accepted (reply h (Event.moment now)) ≡ true
    accepted = accepted_by h now (moment_fault now) timely

    life_then : (idle : Bool) → is_idle_at now d ≡ idle
        → life_by_event h.start.idle_ms last state context (Event.moment now) (is_accepted (reply h (Event.moment now)))
        ≡ cond idle Life.over (Life.standing state context)
    life_then idle e =
        ap (λ b. life_by_moment (b && is_idle h.start.idle_ms last now) state context) accepted
        ∙ (left_by_moment (is_idle h.start.idle_ms last now) state context
        ∙ ap (λ b. cond b Life.over (Life.standing state context)) e)

    lapsed_marks : is_idle_at now d ≡ false → (k : ℤ) → marks dialogue k (due_pair h (Event.moment now)) h.pairs
        ≡ record { clock = clock h.pairs; mark = Mark.moment now } ∷ []
    lapsed_marks e k =
        standing_marks dialogue k (Event.moment now) (reply h (Event.moment now)) h.start.idle_ms h.pairs state context
        stands refl
        ∙ (ap (λ l. noted_at_clock (clock h.pairs) (marks_by_event k (Life.standing state context) l (Event.moment now)
        (is_accepted (reply h (Event.moment now))))) (life_then false e)
        ∙ ap (λ b. noted_at_clock (clock h.pairs) (marks_by_event k (Life.standing state context)
        (Life.standing state context) (Event.moment now) b)) accepted)

    moment_by : (idle : Bool) → is_idle_at now d ≡ idle
        → found_at (Event.moment now) ≡ left_standing (cond idle (idled d now) (lapsed d now))
    moment_by true e =
        life_named h dialogue legal state context stands (Event.moment now) refl Life.over (life_then true e)
    moment_by false e =
        let rows : List Row = rows_of h.start.reject_ms dialogue h.pairs in
        life_named h dialogue legal state context stands (Event.moment now) refl (Life.standing state context)
        (life_then false e)
        ∙ assembled h dialogue legal state context stands (Event.moment now) state context (queue dialogue h.pairs)
        (filter (λ r. stays now r.1.stage) rows) last (kept_address dialogue h.pairs)
        (queue_named h dialogue legal state context stands (Event.moment now) refl)
        (rows_lapsed h.start.reject_ms h.start (due_pair h (Event.moment now)) h.pairs legal.1 refl dialogue now
        (lapsed_marks e) (λ k u. ap (λ b. b && nat_le u now) accepted)
        ∙ sym (passing_rows (stays now) rows))
        (touched_named h dialogue legal state context stands (Event.moment now) refl false refl)
        (kept_named h dialogue legal state context stands (Event.moment now) refl)

    moment-moves : found_at (Event.moment now)
        ≡ left_standing (table_move (setting_at h) d (DialogueEvent.moment now))
    unfolding table_move
    moment-moves = moment_by (is_idle_at now d) refl

  -- ---- a message

  module _ (from : Address) (bytes : List ℕ) (named : names_in bytes dialogue ≡ true)
      (live : is_live state ≡ true) where
    abbrev event : Event
    event = Event.received from bytes

    module _ (read : Result Message FrameFault) (frame : frame_at bytes ≡ read) where
      life_read : life_by_event h.start.idle_ms last state context event (is_accepted (reply h event))
          ≡ life_by_message state context read
      life_read = ap (λ b. life_if_live b state context bytes) live ∙ ap (life_by_message state context) frame

      found_read : (l : Life) → life_by_message state context read ≡ l
          → found_at event ≡ dialogue_by h.start.reject_ms h.start.idle_ms dialogue
          (here h dialogue legal state context stands event ∷ h.pairs) l
      found_read l e = life_named h dialogue legal state context stands event named l (life_read ∙ e)

      marks_read : (k : ℤ) → marks dialogue k (due_pair h event) h.pairs
          ≡ noted_at_clock (clock h.pairs) (unwrap_or (marks_of_message k state context read)
          (end_if_over (Life.standing state context) (life_by_message state context read)))
      marks_read k =
          standing_marks dialogue k event (reply h event) h.start.idle_ms h.pairs state context stands named
          ∙ (ap (λ b. noted_at_clock (clock h.pairs) (unwrap_or (marks_if_live b k state context bytes)
          (end_if_over (Life.standing state context) (life_if_live b state context bytes)))) live
          ∙ ap (λ f. noted_at_clock (clock h.pairs) (unwrap_or (marks_of_message k state context f)
          (end_if_over (Life.standing state context) (life_by_message state context f)))) frame)

      queue_read : queue dialogue (due_pair h event ∷ h.pairs)
          ≡ queue_by_message dialogue h.pairs (Life.standing state context) (queue dialogue h.pairs) read
      queue_read =
          queue_named h dialogue legal state context stands event named
          ∙ (ap (λ l. queue_by_bytes dialogue h.pairs l (queue dialogue h.pairs) bytes) stands
          ∙ (ap (λ b. cond b (queue_by_message dialogue h.pairs (Life.standing state context) (queue dialogue h.pairs)
          (frame_at bytes)) (queue dialogue h.pairs)) live
          ∙ ap (queue_by_message dialogue h.pairs (Life.standing state context) (queue dialogue h.pairs)) frame))

      touched_read : touched dialogue (due_pair h event ∷ h.pairs)
          ≡ cond (touches_as_message state context read) (clock h.pairs) last
      touched_read =
          touched_named h dialogue legal state context stands event named (touches_as_message state context read)
          (ap (λ b. b && touches_as_message state context (frame_at bytes)) live
          ∙ ap (touches_as_message state context) frame)

      kept_read : kept_address dialogue (due_pair h event ∷ h.pairs)
          ≡ kept_by_message (kept_address dialogue h.pairs) from state context read
      kept_read =
          kept_named h dialogue legal state context stands event named
          ∙ (ap (λ b. cond b (kept_by_message (kept_address dialogue h.pairs) from state context (frame_at bytes))
          (kept_address dialogue h.pairs)) live
          ∙ ap (kept_by_message (kept_address dialogue h.pairs) from state context) frame)

      no_end : (k : ℤ) (u : ℕ) → pair_ends_wait u dialogue k (due_pair h event) ≡ false
      no_end k u = and_false (is_accepted (reply h event))

      -- a message that is to no dialogue
      message_kept : life_by_message state context read ≡ Life.standing state context
          → ((k : ℤ) (other : List Mark) → unwrap_or (marks_of_message k state context read) other ≡ other)
          → queue_by_message dialogue h.pairs (Life.standing state context) (queue dialogue h.pairs) read
          ≡ queue dialogue h.pairs → touches_as_message state context read ≡ false
          → kept_by_message (kept_address dialogue h.pairs) from state context read ≡ kept_address dialogue h.pairs
          → found_at event ≡ Some d
      message_kept same none kept untouched address =
          found_read (Life.standing state context) same
          ∙ assembled h dialogue legal state context stands event state context (queue dialogue h.pairs)
          (rows_of h.start.reject_ms dialogue h.pairs) last (kept_address dialogue h.pairs) (queue_read ∙ kept)
          (rows_kept h.start.reject_ms h.start (due_pair h event) h.pairs legal.1 refl dialogue
          (λ k. marks_read k ∙ (ap (noted_at_clock (clock h.pairs))
          (none k (end_if_over (Life.standing state context) (life_by_message state context read)))
          ∙ ap (λ l. noted_at_clock (clock h.pairs) (end_if_over (Life.standing state context) l)) same))
          no_end) (touched_read ∙ ap (λ b. cond b (clock h.pairs) last) untouched) (kept_read ∙ address)

    -- a Continue
    module _ (origin to : List ℕ) (portion : Option (List ℕ)) (components : List ℕ)
        (frame : frame_at bytes ≡ Ok (Message.go_on origin to portion components)) where
      abbrev read_as : Result Message FrameFault
      read_as = Ok (Message.go_on origin to portion components)

      abbrev walk : Walked
      walk = walked_in (clock h.pairs) d components

      continue-moves : (v : PortionVerdict) → portion_verdict state context portion ≡ v
          → found_at event ≡ left_standing (continued_by (setting_at h) d from origin v walk)
      continue-moves PortionVerdict.abnormal e =
          found_read read_as frame Life.over (ap (life_by_verdict state context origin) e)
      continue-moves (PortionVerdict.normal told info) e =
          found_read read_as frame (Life.standing (State.active (peer_by state origin)) context)
          (ap (life_by_verdict state context origin) e
          ∙ ap (λ s. Life.standing s context) (answered_is state origin live))
          ∙ (assembled h dialogue legal state context stands event (State.active (peer_by state origin)) context
          (queue_each queue_limit (queue dialogue h.pairs) walk.rejects)
          (rows_up h.start h.pairs legal.1 h.start.reject_ms dialogue (components_of components)) (clock h.pairs)
          (address_by state (kept_address dialogue h.pairs) from)
          (queue_read read_as frame ∙ (ap (λ v. queue_by_verdict v (queue dialogue h.pairs)
          (handled_in dialogue h.pairs components)) e ∙ ap (queue_each queue_limit (queue dialogue h.pairs))
          (sym (components-rejected h dialogue legal d components stands_at))))
          (rows_message h.start h.pairs legal.1 h.start.reject_ms dialogue (components_of components) (due_pair h event)
          refl refl
          (λ k. marks_read read_as frame k ∙ ap (λ v. noted_at_clock (clock h.pairs)
          (unwrap_or (if_normal v (component_marks k (components_of components)))
          (end_if_over (Life.standing state context) (life_by_verdict state context origin
          (portion_verdict state context portion))))) e)
          (no_end read_as frame))
          (touched_read read_as frame ∙ ap (λ v. cond (is_normal v) (clock h.pairs) last) e)
          (kept_read read_as frame ∙ ap (λ v. cond (is_normal v) (address_by state (kept_address dialogue h.pairs) from)
          (kept_address dialogue h.pairs)) e)
          ∙ ap (λ l. Some (record {
            standing =
                record {
                  identifier = dialogue;
                  state = State.active (peer_by state origin);
                  context = context;
                  queue =
                      queue_each queue_limit (queue dialogue h.pairs) walk.rejects;
                };
            invocations = l;
            idle_ms = h.start.idle_ms;
            touched = clock h.pairs;
            kept = address_by state (kept_address dialogue h.pairs) from;
          }))
          (sym (walk_at h.start h.pairs legal.1 h.start.reject_ms dialogue (components_of components)
          (fault_last (length components) components))))

    ended_none : (v : PortionVerdict) (w : Walked) → None ≡ left_standing (ended_by d v w)
    ended_none (PortionVerdict.normal told info) w = refl
    ended_none PortionVerdict.abnormal w = refl

    message-moves : (m : Message) → frame_at bytes ≡ Ok m
        → found_at event ≡ left_standing (table_move (setting_at h) d (DialogueEvent.frame from m))
    unfolding table_move
    message-moves (Message.go_on origin to portion components) e =
        continue-moves origin to portion components e (portion_verdict state context portion) refl
    message-moves (Message.end to portion components) e =
        found_read (Ok (Message.end to portion components)) e Life.over refl
        ∙ ended_none (portion_verdict state context portion) (walked_in (clock h.pairs) d components)
    message-moves (Message.abort to reason) e = found_read (Ok (Message.abort to reason)) e Life.over refl
    message-moves (Message.unidirectional portion components) e =
        message_kept (Ok (Message.unidirectional portion components)) e refl (λ k other. refl) refl refl refl
    message-moves (Message.begin origin portion components) e =
        message_kept (Ok (Message.begin origin portion components)) e refl (λ k other. refl) refl refl refl

    fault-moves : (f : FrameFault) (cause : ℕ) → frame_at bytes ≡ Err f
        → found_at event ≡ left_standing (table_move (setting_at h) d (DialogueEvent.fault cause))
    unfolding table_move
    fault-moves f cause e = found_read (Err f) e Life.over refl

-- ---- a dialogue that is found

pub by_life : (P : Dialogue → Type 0) (h : History) (dialogue : ℕ) (d : Dialogue)
    → ((state : State) (context : Option (List ℕ)) → life dialogue h.pairs ≡ Life.standing state context
    → P (standing_dialogue h dialogue state context))
    → dialogue_at h.start.reject_ms h.start.idle_ms h.pairs dialogue ≡ Some d → P d
by_life P h dialogue d standing e =
    at_life (λ l d. life dialogue h.pairs ≡ l → P d) h dialogue d (λ state context q. standing state context q)
    (life dialogue h.pairs) e refl

pub taken-moves : (h : History) (dialogue : ℕ) (d : Dialogue) (from : Address) (bytes : List ℕ) (m : Message)
    → IsLegal h → dialogue_at h.start.reject_ms h.start.idle_ms h.pairs dialogue ≡ Some d
    → names_in bytes dialogue ≡ true → is_live d.standing.state ≡ true → frame_at bytes ≡ Ok m
    → dialogue_at h.start.reject_ms h.start.idle_ms (due_pair h (Event.received from bytes) ∷ h.pairs) dialogue
    ≡ left_standing (table_move (setting_at h) d (DialogueEvent.frame from m))
taken-moves h dialogue d from bytes m legal e named live frame =
    by_life (λ d. is_live d.standing.state ≡ true
    → dialogue_at h.start.reject_ms h.start.idle_ms (due_pair h (Event.received from bytes) ∷ h.pairs) dialogue
    ≡ left_standing (table_move (setting_at h) d (DialogueEvent.frame from m))) h dialogue d
    (λ state context q live. message-moves h dialogue legal state context q from bytes named live m frame) e live

pub broken-moves : (h : History) (dialogue : ℕ) (d : Dialogue) (from : Address) (bytes : List ℕ) (fault : FrameFault)
    (cause : ℕ) → IsLegal h → dialogue_at h.start.reject_ms h.start.idle_ms h.pairs dialogue ≡ Some d
    → names_in bytes dialogue ≡ true → is_live d.standing.state ≡ true → frame_at bytes ≡ Err fault
    → dialogue_at h.start.reject_ms h.start.idle_ms (due_pair h (Event.received from bytes) ∷ h.pairs) dialogue
    ≡ left_standing (table_move (setting_at h) d (DialogueEvent.fault cause))
broken-moves h dialogue d from bytes fault cause legal e named live frame =
    by_life (λ d. is_live d.standing.state ≡ true
    → dialogue_at h.start.reject_ms h.start.idle_ms (due_pair h (Event.received from bytes) ∷ h.pairs) dialogue
    ≡ left_standing (table_move (setting_at h) d (DialogueEvent.fault cause))) h dialogue d
    (λ state context q live.
    fault-moves h dialogue legal state context q from bytes named live fault cause frame) e live

pub lapsed-moves : (h : History) (dialogue : ℕ) (d : Dialogue) (now : ℕ) → IsLegal h
    → dialogue_at h.start.reject_ms h.start.idle_ms h.pairs dialogue ≡ Some d → moment_fault now ≡ None
    → dialogue_at h.start.reject_ms h.start.idle_ms (due_pair h (Event.moment now) ∷ h.pairs) dialogue
    ≡ left_standing (table_move (setting_at h) d (DialogueEvent.moment now))
lapsed-moves h dialogue d now legal e f =
    by_life (λ d. dialogue_at h.start.reject_ms h.start.idle_ms (due_pair h (Event.moment now) ∷ h.pairs) dialogue
    ≡ left_standing (table_move (setting_at h) d (DialogueEvent.moment now))) h dialogue d
    (λ state context q. moment-moves h dialogue legal state context q now f) e
