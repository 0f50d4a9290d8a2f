-- A dialogue that is created by a Begin is what the history says.
use Rattle.std.proofs.Common.{◌≡◌, ℕ, ◌==◌, Bool, true, false, cond, List, [], ◌∷◌, length, nat_lt, Option, Some, Ok, refl, ap, sym, ◌∙◌, arith}
use Rattle.std.proofs.lemmas.Bool.Decides.{nat_tests}
use Rattle.std.specs.Prelude.{is_some}
use Rattle.tcap_component.specs.ComponentReading.{components_of}
use Rattle.tcap_invocation.specs.Invocations.{InvocationList}
use Rattle.tcap_laws.proofs.Rows.NoRowsAtBirth.{next_unborn, next_untouched, none_listed, rows_born}
use Rattle.tcap_laws.proofs.Rows.DistinctRows.{rows_distinct}
use Rattle.tcap_laws.proofs.Rows.SentInRows.{sent-rows}
use Rattle.tcap_laws.proofs.Rows.ComponentsAlike.{IsLike, fault_last, walk_tells, walk_rejects}
use Rattle.tcap_laws.proofs.Rows.RowsAfterComponents.{walk_at, stage_up}
use Rattle.tcap_model.specs.Table.Agreement.{setting_at, due_pair}
use Rattle.tcap_model.specs.Words.Answer.{Answer}
use Rattle.tcap_model.specs.Histories.Birth.{is_birth_of, born_of, next_dialogue}
use Rattle.tcap_model.specs.Histories.Clock.{clock}
use Rattle.tcap_model.specs.Procedures.ComponentHandling.{told_of}
use Rattle.tcap_model.specs.Invocations.Decision.{decision}
use Rattle.tcap_model.specs.Table.Dialogue.{Dialogue, fresh_dialogue}
use Rattle.tcap_model.specs.Replies.Due.{birth_due}
use Rattle.tcap_model.specs.Words.Event.{Event}
use Rattle.tcap_model.specs.Histories.History.{History}
use Rattle.tcap_model.specs.Invocations.Invocation.{latest}
use Rattle.tcap_model.specs.Replies.Legal.{IsLegal}
use Rattle.tcap_model.specs.Histories.Life.{life, touched, live_in, life_after, life_at_birth, begin_context, begun_life}
use Rattle.tcap_model.specs.Words.LocalId.{is_that}
use Rattle.tcap_model.specs.Procedures.AbortRules.{abort_with, resource_limitation}
use Rattle.tcap_model.specs.Words.Output.{Output, DropCause, DialogueIndication}
use Rattle.tcap_model.specs.Histories.Pair.{Pair}
use Rattle.tcap_model.specs.Procedures.PortionRules.{BeginVerdict, begin_verdict}
use Rattle.tcap_model.specs.Replies.Queue.{queue, queue_by_event, queue_born, queue_at_birth, handled_in, rejects_of}
use Rattle.tcap_model.specs.Procedures.QueueRules.{Queued, queue_limit, queue_each}
use Rattle.tcap_model.specs.Procedures.Reception.{Reception, begin_by, message_by, reading_by, reception}
use Rattle.tcap_model.specs.Replies.Reply.{reply, reception_outputs}
use Rattle.tcap_model.specs.Words.State.{State}
use Rattle.tcap_model.specs.Table.TableMove.{Walked, walked, walked_in, born, left_standing}
use Rattle.tcap_model.specs.Table.World.{row_by, stage_by, is_number, rows_of, dialogue_at, dialogue_by}
use Rattle.tcap_pdu.specs.FrameReading.{frame_at}
use Rattle.tcap_pdu.specs.FrameSpelling.{Message}
use Rattle.tcap_pdu.specs.FrameWritten.{message_limit}
use Rattle.tcap_model.specs.Words.Address.{Address}
use Rattle.tcap_laws.proofs.Receptions.BytesNames.{names_in}
use Rattle.tcap_model.specs.Histories.Kept.{kept_address, kept_after}

-- ---- the application context of an accepted Begin

by_verdict : (v : BeginVerdict) (origin components : List ℕ) (context : Option (List ℕ)) (info : List ℕ)
    → begin_by v origin components ≡ Reception.begun origin context info components → begin_context v ≡ context
by_verdict BeginVerdict.plain origin components context info e = cc
by_verdict (BeginVerdict.with_context given told) origin components context info e = cc
by_verdict (BeginVerdict.wrong_version given) origin components context info e = absurd cc
by_verdict BeginVerdict.abnormal origin components context info e = absurd cc

context_is : (live : ℕ → Bool) (full : Bool) (bytes origin : List ℕ) (portion context : Option (List ℕ))
    (info components : List ℕ) → frame_at bytes ≡ Ok (Message.begin origin portion components)
    → reception live full bytes ≡ Reception.begun origin context info components
    → begin_context (begin_verdict portion) ≡ context
context_is live full bytes origin portion context info components frame e =
    long (nat_lt message_limit (length bytes)) (ap
    (λ r. cond (nat_lt message_limit (length bytes)) (Reception.dropped DropCause.too_long)
    (reading_by live full bytes r)) (sym frame) ∙ e)
  where
    whole : (b : Bool) → cond b (Reception.aborted (abort_with resource_limitation origin))
        (begin_by (begin_verdict portion) origin components) ≡ Reception.begun origin context info components
        → begin_context (begin_verdict portion) ≡ context
    whole true e = absurd cc
    whole false e = by_verdict (begin_verdict portion) origin components context info e

    long : (b : Bool) → cond b (Reception.dropped DropCause.too_long)
        (message_by live full (Message.begin origin portion components))
        ≡ Reception.begun origin context info components → begin_context (begin_verdict portion) ≡ context
    long true e = absurd cc
    long false e = whole full e

-- ---- the components of the Begin

module _ (h : History) (legal : IsLegal h) where
  abbrev fresh : Dialogue
  fresh = fresh_dialogue (next_dialogue h) h.start.reject_ms h.start.idle_ms

  abbrev standing_list : InvocationList
  standing_list = record { reject_ms = h.start.reject_ms; rows = rows_of h.start.reject_ms (next_dialogue h) h.pairs }

  no_rows : fresh.invocations ≡ standing_list
  no_rows = ap (λ z. record { reject_ms = h.start.reject_ms; rows = z })
      (sym (none_listed h.start h.pairs legal.1 (next_dialogue h) (next_unborn h legal)
      (λ i. is_number i.number (latest i.dialogue i.id h.pairs))
      (λ i. row_by i (stage_by h.start.reject_ms h.pairs i (decision i.number h.pairs)))))

  like : IsLike (next_dialogue h) h.pairs (rows_of h.start.reject_ms (next_dialogue h) h.pairs) []
  like = record {
    distinct = rows_distinct h.start h.pairs legal.1 h.start.reject_ms (next_dialogue h);
    sent =
        λ id. sent-rows h.start h.pairs legal.1 h.start.reject_ms (next_dialogue h) id;
  }

  module _ (components : List ℕ) where
    abbrev walk : Walked
    walk = walked_in (clock h.pairs) fresh components

    walk_is : walk ≡ walked (next_dialogue h) (clock h.pairs) standing_list (components_of components)
    walk_is = ap (λ l. walked (next_dialogue h) (clock h.pairs) l (components_of components)) no_rows

    told_is : walk.told ≡ told_of (handled_in (next_dialogue h) h.pairs components)
    told_is = ap (λ (w : Walked). w.told) walk_is
        ∙ sym (walk_tells (next_dialogue h) h.pairs (components_of components)
        (fault_last (length components) components) standing_list [] tt like)

    rejects_is : rejects_of (handled_in (next_dialogue h) h.pairs components) ≡ walk.rejects
    rejects_is = walk_rejects (next_dialogue h) h.pairs (components_of components)
        (fault_last (length components) components) standing_list [] tt like
        ∙ ap (λ (w : Walked). w.rejects) (sym walk_is)

    left_is : record { reject_ms = h.start.reject_ms; rows = [] } ≡ walk.invocations
    left_is =
        ap (λ z. record { reject_ms = h.start.reject_ms; rows = z })
        (sym (none_listed h.start h.pairs legal.1 (next_dialogue h) (next_unborn h legal)
        (λ i. is_number i.number (latest i.dialogue i.id h.pairs))
        (λ i. row_by i (stage_up h.start h.pairs legal.1 h.start.reject_ms (next_dialogue h)
        (components_of components) i))))
        ∙ (sym (walk_at h.start h.pairs legal.1 h.start.reject_ms (next_dialogue h) (components_of components)
        (fault_last (length components) components)) ∙ ap (λ (w : Walked). w.invocations) (sym walk_is))

  -- ---- the answer and the dialogue

  module _ (from : Address) (bytes origin : List ℕ) (context : Option (List ℕ)) (info components : List ℕ)
      (accepted : reception (λ dialogue. live_in (life dialogue h.pairs)) (is_some (birth_due h)) bytes
      ≡ Reception.begun origin context info components) where
    reply_is : reply h (Event.received from bytes) ≡ Answer.outputs
        (Output.dialogue (DialogueIndication.begin (next_dialogue h) context info)
        ∷ told_of (handled_in (next_dialogue h) h.pairs components))
    reply_is = ap (λ r. Answer.outputs (reception_outputs h from r)) accepted

    pub begun-answered :
        (born (setting_at h) (next_dialogue h) h.start.reject_ms h.start.idle_ms from origin context info
        components).answer
        ≡ reply h (Event.received from bytes)
    begun-answered = ap (λ z. Answer.outputs (Output.dialogue (DialogueIndication.begin (next_dialogue h) context info)
        ∷ z)) (told_is components) ∙ sym reply_is

    abbrev here : Pair
    here = due_pair h (Event.received from bytes)

    birth : is_birth_of (next_dialogue h) here ≡ true
    birth = ap (λ a. is_that (next_dialogue h) (born_of (Event.received from bytes) a)) reply_is ∙ own
      where
        own : (next_dialogue h == next_dialogue h) ≡ true
        own = grind (arith, nat_tests)

    abbrev made : Option (List ℕ) → List Queued → InvocationList → ℕ → Address → Option Dialogue
    made c q list t address = Some (record {
      standing =
          record { identifier = next_dialogue h; state = State.received origin; context = c; queue = q };
      invocations =
          list;
      idle_ms = h.start.idle_ms;
      touched = t;
      kept = address;
    })

    abbrev last : ℕ
    last = touched (next_dialogue h) (here ∷ h.pairs)

    abbrev kept_then : Address
    kept_then = kept_address (next_dialogue h) (here ∷ h.pairs)

    pub begun-born : (portion : Option (List ℕ)) → frame_at bytes ≡ Ok (Message.begin origin portion components)
        → dialogue_at h.start.reject_ms h.start.idle_ms (here ∷ h.pairs) (next_dialogue h)
        ≡ left_standing
        (born (setting_at h) (next_dialogue h) h.start.reject_ms h.start.idle_ms from origin context info
        components)
    begun-born portion frame =
        ap (λ l. dialogue_by h.start.reject_ms h.start.idle_ms (next_dialogue h) (here ∷ h.pairs)
        (life_after (next_dialogue h) (touched (next_dialogue h) h.pairs) l here))
        (next_unborn h legal)
        ∙ (ap (λ b. dialogue_by h.start.reject_ms h.start.idle_ms (next_dialogue h) (here ∷ h.pairs)
        (life_at_birth b (Event.received from bytes))) birth
        ∙ (ap (λ r. dialogue_by h.start.reject_ms h.start.idle_ms (next_dialogue h) (here ∷ h.pairs) (begun_life r))
        frame
        ∙ (ap (λ c. made c (queue (next_dialogue h) (here ∷ h.pairs))
        (record {
          reject_ms = h.start.reject_ms;
          rows =
              rows_of h.start.reject_ms (next_dialogue h) (here ∷ h.pairs);
        }) last kept_then)
        (context_is (λ dialogue. live_in (life dialogue h.pairs)) (is_some (birth_due h)) bytes origin portion context
        info components frame accepted)
        ∙ (ap (λ q. made context q (record {
          reject_ms = h.start.reject_ms;
          rows =
              rows_of h.start.reject_ms (next_dialogue h) (here ∷ h.pairs);
        }) last kept_then) queue_is
        ∙ (ap (λ z. made context (queue_each queue_limit [] (walk components).rejects)
        (record { reject_ms = h.start.reject_ms; rows = z }) last kept_then)
        (rows_born h.start.reject_ms h.start here h.pairs legal.1 refl (next_dialogue h) (next_unborn h legal))
        ∙ (ap (λ l. made context (queue_each queue_limit [] (walk components).rejects) l last kept_then)
        (left_is components)
        ∙ (ap (λ t. made context (queue_each queue_limit [] (walk components).rejects) (walk components).invocations t
        kept_then) (next_untouched h legal (Event.received from bytes))
        ∙ ap (made context (queue_each queue_limit [] (walk components).rejects) (walk components).invocations 0)
        kept_is)))))))
      where
        kept_is : kept_then ≡ from
        kept_is =
            ap (λ l. kept_after (next_dialogue h) l (kept_address (next_dialogue h) h.pairs) here) (next_unborn h legal)
            ∙ ap (λ b. cond b from (kept_address (next_dialogue h) h.pairs)) birth

        queue_is : queue (next_dialogue h) (here ∷ h.pairs) ≡ queue_each queue_limit [] (walk components).rejects
        queue_is =
            ap (λ b. cond b (queue_born (next_dialogue h) h.pairs (Event.received from bytes))
            (cond (names_in bytes (next_dialogue h))
            (queue_by_event (next_dialogue h) h.pairs (queue (next_dialogue h) h.pairs) (Event.received from bytes)
            here.answer) (queue (next_dialogue h) h.pairs))) birth
            ∙ (ap (queue_at_birth (next_dialogue h) h.pairs) frame
            ∙ ap (queue_each queue_limit []) (rejects_is components))
