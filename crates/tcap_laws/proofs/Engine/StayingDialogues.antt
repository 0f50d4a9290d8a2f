-- Which dialogues stay as they are, though an event names them: those that aren't live where bytes are
-- received, and all where a moment is refused or below the clock.
use Rattle.std.proofs.Common.{◌≡◌, ◌<◌, ℕ, ◌==◌, ◌&&◌, Bool, true, false, cond, nat_le, nat_lt, List, [], ◌∷◌, Option}
use Rattle.std.proofs.Common.{Some, None, refl, ap, ◌∙◌, arith}
use Rattle.std.specs.Prelude.{◌+◌, filter_map, unwrap_or}
use Rattle.tcap_invocation.specs.declared.stage.Stage.TheVariants.{Waiting}
use Rattle.tcap_laws.proofs.BoolLemmas.{and_false}
use Rattle.tcap_laws.proofs.Decisions.ToldInvocations.{IsFound, each_found}
use Rattle.tcap_laws.proofs.Rows.InvocationsLeft.{same_kept}
use Rattle.tcap_laws.proofs.Rows.RowsAfterPairs.{rows_kept}
use Rattle.tcap_laws.proofs.Spans.DecisionSteps.{made_found}
use Rattle.tcap_laws.proofs.Spans.EarlierMoments.{invocations_still, decision_still, deadline_still, waiting_still}
use Rattle.tcap_laws.proofs.Spans.EventMarks.{standing_marks}
use Rattle.tcap_laws.proofs.Spans.IdleMoments.{legal-limited, not-idle-yet}
use Rattle.tcap_laws.proofs.Spans.MarksAfterBirth.{noted_at_clock}
use Rattle.tcap_laws.proofs.Spans.SentClocks.{at_moment}
use Rattle.tcap_laws.proofs.Table.MessagesMovedAlike.{by_life}
use Rattle.tcap_laws.proofs.Table.RequestsJudgedAlike.{standing_dialogue}
use Rattle.tcap_laws.proofs.Table.StandingPairs.{life_named, queue_named, touched_named, assembled, kept_named}
use Rattle.tcap_model.specs.Histories.Clock.{clock}
use Rattle.tcap_model.specs.Histories.History.{History, Start}
use Rattle.tcap_model.specs.Histories.Life.{Life, life, touched, life_by_event, life_by_moment, life_if_live, touches_as_event}
use Rattle.tcap_model.specs.Histories.Life.{touches_as_message}
use Rattle.tcap_model.specs.Histories.Names.{names}
use Rattle.tcap_model.specs.Histories.Pair.{Pair, Past, AreLimited}
use Rattle.tcap_model.specs.Invocations.Closings.{Told}
use Rattle.tcap_model.specs.Invocations.Decision.{decision}
use Rattle.tcap_model.specs.Invocations.Invocation.{Invocation, invocations, latest}
use Rattle.tcap_model.specs.Invocations.Marks.{end_if_over, marks_by_event, marks_if_live}
use Rattle.tcap_model.specs.Replies.Legal.{AreReplies, IsLegal}
use Rattle.tcap_model.specs.Replies.Queue.{queue, queue_by_event, queue_by_bytes, queue_by_message}
use Rattle.tcap_model.specs.Replies.Reply.{moment_answer, moment_outputs, reply}
use Rattle.tcap_model.specs.Table.Agreement.{due_pair}
use Rattle.tcap_model.specs.Table.Dialogue.{Dialogue}
use Rattle.tcap_model.specs.Table.World.{pending_stage, stage_by, row_by, is_number, row_of, rows_of, dialogue_at}
use Rattle.tcap_model.specs.Words.Answer.{Answer, is_accepted}
use Rattle.tcap_model.specs.Words.Event.{Event}
use Rattle.tcap_model.specs.Words.Fault.{Fault}
use Rattle.tcap_model.specs.Words.State.{State, is_live}
use Rattle.tcap_model.specs.Words.Time.{moment_fault, is_idle}
use Rattle.tcap_pdu.specs.FrameReading.{frame_at}
use Rattle.tcap_model.specs.Words.Address.{Address}
use Rattle.tcap_laws.proofs.Receptions.BytesNames.{names_in}
use Rattle.tcap_model.specs.Histories.Kept.{kept_address, kept_by_event, kept_by_message}

-- ---- the rows, where a moment is below the clock

module _ (start : Start) (past : Past) (legal : AreReplies start past) (now : ℕ) (answer : Answer)
    (accepted : is_accepted answer ≡ true) (early : now < clock past) (reject_ms : ℕ) where
  abbrev here : Pair
  here = at_moment now answer start.idle_ms

  limited : AreLimited start.idle_ms past
  limited = legal-limited start past legal

  stage_still : (i : Invocation) → IsFound past i → (d : Option Told) → decision i.number past ≡ d
      → stage_by reject_ms (here ∷ past) i d ≡ stage_by reject_ms past i d
  stage_still i found None e =
      ap (λ t. Some (pending_stage i t))
      (deadline_still start.idle_ms past limited now answer accepted early i (made_found i.number past i found))
  stage_still i found (Some t) e =
      ap (λ b. cond b (Some (Waiting (clock t.place + reject_ms))) None)
      (waiting_still start.idle_ms past limited now answer accepted early i.number reject_ms i.dialogue i.id t e)

  row_still : (dialogue : ℕ) (i : Invocation) → IsFound past i
      → row_of reject_ms dialogue (here ∷ past) i ≡ row_of reject_ms dialogue past i
  row_still dialogue i found =
      ap (λ s. cond ((i.dialogue == dialogue) && is_number i.number (latest i.dialogue i.id past)) (row_by i s) None)
      (ap (stage_by reject_ms (here ∷ past) i)
      (decision_still start.idle_ms past limited now answer accepted early i.number)
      ∙ stage_still i found (decision i.number past) refl)

  rows_still : (dialogue : ℕ) → rows_of reject_ms dialogue (here ∷ past)
      ≡ rows_of reject_ms dialogue past
  rows_still dialogue =
      ap (filter_map (row_of reject_ms dialogue (here ∷ past)))
      (invocations_still start.idle_ms past limited now answer accepted early)
      ∙ same_kept (IsFound past) (row_of reject_ms dialogue (here ∷ past))
      (row_of reject_ms dialogue past) (row_still dialogue) (invocations past) (each_found start past legal)

-- ---- a dialogue that stands

module _ (h : History) (dialogue : ℕ) (legal : IsLegal h) (state : State) (context : Option (List ℕ))
    (stands : life dialogue h.pairs ≡ Life.standing state context) where
  abbrev Stays : Event → Type 0
  Stays event =
      dialogue_at h.start.reject_ms h.start.idle_ms (due_pair h event ∷ h.pairs) dialogue ≡ Some
      (standing_dialogue h dialogue state context)

  stays_named : (event : Event) → names event dialogue ≡ true
      → life_by_event h.start.idle_ms (touched dialogue h.pairs) state context event (is_accepted (reply h event))
      ≡ Life.standing state context
      → queue_by_event dialogue h.pairs (queue dialogue h.pairs) event (reply h event) ≡ queue dialogue h.pairs
      → rows_of h.start.reject_ms dialogue (due_pair h event ∷ h.pairs) ≡ rows_of h.start.reject_ms dialogue h.pairs
      → touches_as_event state context event (is_accepted (reply h event)) ≡ false
      → kept_by_event (kept_address dialogue h.pairs) state context event (is_accepted (reply h event))
      ≡ kept_address dialogue h.pairs → Stays event
  stays_named event named same queued rows untouched kept =
      life_named h dialogue legal state context stands event named (Life.standing state context) same
      ∙ assembled h dialogue legal state context stands event state context (queue dialogue h.pairs)
      (rows_of h.start.reject_ms dialogue h.pairs) (touched dialogue h.pairs) (kept_address dialogue h.pairs)
      (queue_named h dialogue legal state context stands event named ∙ queued) rows
      (touched_named h dialogue legal state context stands event named false untouched)
      (kept_named h dialogue legal state context stands event named ∙ kept)

  -- ---- bytes to a dialogue that isn't live

  deaf_stays : (from : Address) (bytes : List ℕ) → names_in bytes dialogue ≡ true → is_live state ≡ false
      → Stays (Event.received from bytes)
  deaf_stays from bytes named deaf =
      stays_named (Event.received from bytes) named (ap (λ b. life_if_live b state context bytes) deaf)
      (ap (λ l. queue_by_bytes dialogue h.pairs l (queue dialogue h.pairs) bytes) stands
      ∙ ap (λ b. cond b (queue_by_message dialogue h.pairs (Life.standing state context) (queue dialogue h.pairs)
      (frame_at bytes)) (queue dialogue h.pairs)) deaf)
      (rows_kept h.start.reject_ms h.start (due_pair h (Event.received from bytes)) h.pairs legal.1 refl dialogue
      (λ k. standing_marks dialogue k (Event.received from bytes)
      (reply h (Event.received from bytes)) h.start.idle_ms h.pairs state context stands named
      ∙ ap (λ b. noted_at_clock (clock h.pairs) (unwrap_or (marks_if_live b k state context bytes)
      (end_if_over (Life.standing state context) (life_if_live b state context bytes)))) deaf)
      (λ k u. and_false (is_accepted (reply h (Event.received from bytes)))))
      (ap (λ b. b && touches_as_message state context (frame_at bytes)) deaf)
      (ap (λ b. cond b (kept_by_message (kept_address dialogue h.pairs) from state context (frame_at bytes))
      (kept_address dialogue h.pairs)) deaf)

  -- ---- moments

  refused_stays : (now : ℕ) (fault : Fault) → moment_fault now ≡ Some fault → Stays (Event.moment now)
  refused_stays now fault e =
      let refused : is_accepted (reply h (Event.moment now)) ≡ false =
      ap (λ f. is_accepted (moment_answer h.start.idle_ms h.pairs now f)) e in
      let same : life_by_event h.start.idle_ms (touched dialogue h.pairs) state context (Event.moment now)
      (is_accepted (reply h (Event.moment now))) ≡ Life.standing state context =
      ap (λ b. life_by_moment (b && is_idle h.start.idle_ms (touched dialogue h.pairs) now) state context) refused in
      stays_named (Event.moment now) refl same refl
      (rows_kept h.start.reject_ms h.start (due_pair h (Event.moment now)) h.pairs legal.1 refl dialogue
      (λ k. standing_marks dialogue k (Event.moment now) (reply h (Event.moment now)) h.start.idle_ms h.pairs state
      context stands refl
      ∙ (ap (λ l. noted_at_clock (clock h.pairs) (marks_by_event k (Life.standing state context) l (Event.moment now)
      (is_accepted (reply h (Event.moment now))))) same
      ∙ ap (λ b. noted_at_clock (clock h.pairs)
      (marks_by_event k (Life.standing state context) (Life.standing state context) (Event.moment now) b)) refused))
      (λ k u. ap (λ b. b && nat_le u now) refused)) refl refl

  early_stays : (now : ℕ) → moment_fault now ≡ None → now < clock h.pairs → Stays (Event.moment now)
  early_stays now e early =
      stays_named (Event.moment now) refl
      (ap (λ b. life_by_moment (b && is_idle h.start.idle_ms (touched dialogue h.pairs) now) state context) accepted
      ∙ same_life (is_live state) refl) refl
      (rows_still h.start h.pairs legal.1 now (reply h (Event.moment now)) accepted early h.start.reject_ms dialogue)
      refl refl
    where
      -- it hasn't been idle too long
      same_life : (b : Bool) → is_live state ≡ b
          → life_by_moment (is_idle h.start.idle_ms (touched dialogue h.pairs) now) state context
          ≡ Life.standing state context
      same_life true live =
          ap (λ b. life_by_moment b state context) (not-idle-yet h.start.idle_ms dialogue now h.pairs state context
          (legal-limited h.start h.pairs legal.1) stands live (omega (arith, early)))
      same_life false dead = go (is_idle h.start.idle_ms (touched dialogue h.pairs) now)
        where
          go : (b : Bool) → life_by_moment b state context ≡ Life.standing state context
          go true = ap (λ b. cond b Life.over (Life.standing state context)) dead
          go false = refl

      accepted : is_accepted (reply h (Event.moment now)) ≡ true
      accepted = ap (λ f. is_accepted (moment_answer h.start.idle_ms h.pairs now f)) e ∙ go (nat_lt now (clock h.pairs))
        where
          go : (b : Bool) → is_accepted (cond b (Answer.outputs [])
              (Answer.outputs (moment_outputs h.start.idle_ms h.pairs now))) ≡ true
          go true = refl
          go false = refl

-- ---- a dialogue that is found

pub deaf-stays : (h : History) (dialogue : ℕ) (d : Dialogue) (from : Address) (bytes : List ℕ) → IsLegal h
    → dialogue_at h.start.reject_ms h.start.idle_ms h.pairs dialogue ≡ Some d
    → names_in bytes dialogue ≡ true → is_live d.standing.state ≡ false
    → dialogue_at h.start.reject_ms h.start.idle_ms (due_pair h (Event.received from bytes) ∷ h.pairs) dialogue ≡ Some d
deaf-stays h dialogue d from bytes legal e named =
    by_life (λ d. is_live d.standing.state ≡ false
    → dialogue_at h.start.reject_ms h.start.idle_ms (due_pair h (Event.received from bytes) ∷ h.pairs) dialogue
    ≡ Some d) h
    dialogue d
    (λ state context q deaf. deaf_stays h dialogue legal state context q from bytes named deaf) e

pub refused-stays : (h : History) (dialogue : ℕ) (d : Dialogue) (now : ℕ) (fault : Fault) → IsLegal h
    → dialogue_at h.start.reject_ms h.start.idle_ms h.pairs dialogue ≡ Some d → moment_fault now ≡ Some fault
    → dialogue_at h.start.reject_ms h.start.idle_ms (due_pair h (Event.moment now) ∷ h.pairs) dialogue ≡ Some d
refused-stays h dialogue d now fault legal e f =
    by_life (λ d. dialogue_at h.start.reject_ms h.start.idle_ms (due_pair h (Event.moment now) ∷ h.pairs) dialogue
    ≡ Some d) h dialogue d
    (λ state context q. refused_stays h dialogue legal state context q now fault f) e

pub early-stays : (h : History) (dialogue : ℕ) (d : Dialogue) (now : ℕ) → IsLegal h
    → dialogue_at h.start.reject_ms h.start.idle_ms h.pairs dialogue ≡ Some d → moment_fault now ≡ None
    → now < clock h.pairs
    → dialogue_at h.start.reject_ms h.start.idle_ms (due_pair h (Event.moment now) ∷ h.pairs) dialogue ≡ Some d
early-stays h dialogue d now legal e f early =
    by_life (λ d. dialogue_at h.start.reject_ms h.start.idle_ms (due_pair h (Event.moment now) ∷ h.pairs) dialogue
    ≡ Some d) h dialogue d
    (λ state context q. early_stays h dialogue legal state context q now f early) e
