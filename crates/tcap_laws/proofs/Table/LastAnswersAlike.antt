-- What ends a dialogue is answered alike by what the dialogue keeps and by the history.
use Rattle.std.proofs.Common.{◌≡◌, ℕ, List, [], ◌∷◌, ◌++◌, Option, Some, None, refl, ap, ◌∙◌, sym, length}
use Rattle.tcap_laws.proofs.Rows.InvocationsLeft.{ended-agrees}
use Rattle.tcap_component.specs.ComponentReading.{components_of}
use Rattle.tcap_laws.proofs.Table.RequestsJudgedAlike.{standing_dialogue, at_life, due-agrees, accepted-agrees}
use Rattle.tcap_laws.proofs.Rows.DistinctRows.{rows_distinct}
use Rattle.tcap_laws.proofs.Rows.SentInRows.{sent-rows}
use Rattle.tcap_laws.proofs.Rows.ComponentsAlike.{IsLike, fault_last, walk_tells, walk_rejects}
use Rattle.tcap_model.specs.Procedures.AbortRules.{abort_told, abnormal_abort, message_sent}
use Rattle.tcap_model.specs.Table.Agreement.{setting_at}
use Rattle.tcap_model.specs.Words.Answer.{Answer}
use Rattle.tcap_model.specs.Histories.Clock.{clock}
use Rattle.tcap_model.specs.Procedures.ComponentHandling.{told_of}
use Rattle.tcap_model.specs.Table.Dialogue.{Dialogue}
use Rattle.tcap_model.specs.Replies.Due.{standing_of, due_by}
use Rattle.tcap_model.specs.Words.Event.{Event}
use Rattle.tcap_model.specs.Words.Fault.{Fault}
use Rattle.tcap_model.specs.Histories.History.{History}
use Rattle.tcap_model.specs.Replies.Legal.{IsLegal}
use Rattle.tcap_model.specs.Histories.Life.{Life, life}
use Rattle.tcap_model.specs.Words.Output.{Output, AbortCause, DialogueIndication}
use Rattle.tcap_model.specs.Procedures.PortionRules.{PortionVerdict, portion_verdict}
use Rattle.tcap_model.specs.Replies.Queue.{handled_in, rejects_of}
use Rattle.tcap_model.specs.Replies.Reply.{reply, request_answer, accepted_answer, taken_outputs, continue_outputs, end_outputs, ended_in, request_sent}
use Rattle.tcap_model.specs.Words.Request.{Request, ComponentRequest, DialogueRequest}
use Rattle.tcap_model.specs.Words.State.{State, peer_by, address_by}
use Rattle.tcap_model.specs.Table.TableMove.{DialogueEvent, accepted, requested_by, over_with, walked_in, continued_by, ended_by, table_move}
use Rattle.tcap_model.specs.Table.World.{dialogue_at, rows_of}
use Rattle.tcap_pdu.specs.FrameSpelling.{Message, Reason}
use Rattle.tcap_model.specs.Words.Address.{Address}
use Rattle.tcap_model.specs.Histories.Kept.{kept_address}

module _ (h : History) (dialogue : ℕ) (legal : IsLegal h) where
  abbrev pub dialogue_in : State → Option (List ℕ) → Dialogue
  dialogue_in state context = standing_dialogue h dialogue state context

  pub over-answer : (state : State) (context : Option (List ℕ)) (first : List Output)
      → (over_with (dialogue_in state context) first (dialogue_in state context).invocations).answer
      ≡ Answer.outputs (first ++ ended_in dialogue h.pairs [])
  over-answer state context first =
      ap (λ z. Answer.outputs (first ++ z)) (ended-agrees h.start.reject_ms dialogue h.start h.pairs legal.1)

  -- ---- requests

  all-accepted : (state : State) (context : Option (List ℕ)) (request : Request)
      → (accepted (setting_at h) (dialogue_in state context) request).answer
      ≡ accepted_answer h (standing_of dialogue h.pairs state context) request
  all-accepted state context (Request.component (ComponentRequest.invoke id class code parameter linked timeout)) = refl
  all-accepted state context (Request.component (ComponentRequest.result_last id body)) = refl
  all-accepted state context (Request.component (ComponentRequest.result_more id body)) = refl
  all-accepted state context (Request.component (ComponentRequest.error_back id code parameter)) = refl
  all-accepted state context (Request.component (ComponentRequest.u_reject id problem)) = refl
  all-accepted state context (Request.component (ComponentRequest.u_cancel id)) =
      accepted-agrees h dialogue state context (Request.component (ComponentRequest.u_cancel id)) refl
  all-accepted state context (Request.dialogue (DialogueRequest.uni to given info)) =
      over-answer state context (request_sent h.pairs (standing_of dialogue h.pairs state context)
      (Request.dialogue (DialogueRequest.uni to given info)))
  all-accepted state context (Request.dialogue (DialogueRequest.begin to given info)) = refl
  all-accepted state context (Request.dialogue (DialogueRequest.go_on given info)) = refl
  all-accepted state context (Request.dialogue (DialogueRequest.finish ending given info)) =
      over-answer state context (request_sent h.pairs (standing_of dialogue h.pairs state context)
      (Request.dialogue (DialogueRequest.finish ending given info)))
  all-accepted state context (Request.dialogue (DialogueRequest.u_abort why info)) =
      over-answer state context (request_sent h.pairs (standing_of dialogue h.pairs state context)
      (Request.dialogue (DialogueRequest.u_abort why info)))

  all-requested : (state : State) (context : Option (List ℕ)) (request : Request) (fault : Option Fault)
      → (requested_by (setting_at h) (dialogue_in state context) request fault).answer
      ≡ request_answer h dialogue request (Life.standing state context) fault
  all-requested state context request None = all-accepted state context request
  all-requested state context request (Some fault) = refl

  pub request-agrees : (d : Dialogue) (request : Request)
      → dialogue_at h.start.reject_ms h.start.idle_ms h.pairs dialogue ≡ Some d
      → (table_move (setting_at h) d (DialogueEvent.request request)).answer
      ≡ reply h (Event.on_dialogue dialogue request)
  unfolding table_move
  request-agrees d request e =
      ap (λ f. (requested_by (setting_at h) d request f).answer) (due-agrees h dialogue d request e)
      ∙ at_life (λ l d. (requested_by (setting_at h) d request (due_by h dialogue request l)).answer
      ≡ request_answer h dialogue request l (due_by h dialogue request l)) h dialogue d
      (λ state context. all-requested state context request (due_by h dialogue request (Life.standing state context)))
      (life dialogue h.pairs) e

  -- ---- messages and faults

  pub fault-agrees : (d : Dialogue) (cause : ℕ)
      → dialogue_at h.start.reject_ms h.start.idle_ms h.pairs dialogue ≡ Some d
      → (table_move (setting_at h) d (DialogueEvent.fault cause)).answer
      ≡ Answer.outputs (Output.dialogue (DialogueIndication.p_abort dialogue (AbortCause.cause cause))
      ∷ ended_in dialogue h.pairs [])
  unfolding table_move
  fault-agrees d cause e =
      at_life (λ l d. (table_move (setting_at h) d (DialogueEvent.fault cause)).answer
      ≡ Answer.outputs (Output.dialogue (DialogueIndication.p_abort dialogue (AbortCause.cause cause))
      ∷ ended_in dialogue h.pairs [])) h dialogue d
      (λ state context. over-answer state context (Output.dialogue
      (DialogueIndication.p_abort dialogue (AbortCause.cause cause)) ∷ [])) (life dialogue h.pairs) e

  pub abort-agrees : (d : Dialogue) (from : Address) (to : List ℕ) (reason : Reason)
      → dialogue_at h.start.reject_ms h.start.idle_ms h.pairs dialogue ≡ Some d
      → (table_move (setting_at h) d (DialogueEvent.frame from (Message.abort to reason))).answer
      ≡ Answer.outputs (taken_outputs dialogue h.pairs (life dialogue h.pairs) from (Message.abort to reason))
  unfolding table_move
  abort-agrees d from to reason e =
      at_life (λ l d. (table_move (setting_at h) d (DialogueEvent.frame from (Message.abort to reason))).answer
      ≡ Answer.outputs (taken_outputs dialogue h.pairs l from (Message.abort to reason))) h dialogue d
      (λ state context. over-answer state context (abort_told dialogue reason ∷ [])) (life dialogue h.pairs) e

  -- the rows and the history are alike before the first component
  like-standing : IsLike dialogue h.pairs (rows_of h.start.reject_ms dialogue h.pairs) []
  like-standing = record {
    distinct = rows_distinct h.start h.pairs legal.1 h.start.reject_ms dialogue;
    sent =
        λ id. sent-rows h.start h.pairs legal.1 h.start.reject_ms dialogue id;
  }

  pub components-told : (state : State) (context : Option (List ℕ)) (components : List ℕ)
      → (walked_in (clock h.pairs) (dialogue_in state context) components).told
      ≡ told_of (handled_in dialogue h.pairs components)
  components-told state context components =
      sym (walk_tells dialogue h.pairs (components_of components) (fault_last (length components) components)
      (dialogue_in state context).invocations [] tt like-standing)

  pub components-rejected : (d : Dialogue) (components : List ℕ)
      → dialogue_at h.start.reject_ms h.start.idle_ms h.pairs dialogue ≡ Some d
      → (walked_in (clock h.pairs) d components).rejects ≡ rejects_of (handled_in dialogue h.pairs components)
  components-rejected d components e =
      at_life (λ l d. (walked_in (clock h.pairs) d components).rejects
      ≡ rejects_of (handled_in dialogue h.pairs components)) h dialogue d
      (λ state context. sym (walk_rejects dialogue h.pairs (components_of components)
      (fault_last (length components) components) (dialogue_in state context).invocations [] tt like-standing))
      (life dialogue h.pairs) e

  any-continue : (state : State) (context : Option (List ℕ)) (from : Address) (origin components : List ℕ)
      (verdict : PortionVerdict)
      → (continued_by (setting_at h) (dialogue_in state context) from origin verdict
      (walked_in (clock h.pairs) (dialogue_in state context) components)).answer
      ≡ Answer.outputs (continue_outputs dialogue h.pairs state from origin components verdict)
  any-continue state context from origin components PortionVerdict.abnormal =
      over-answer state context (message_sent (address_by state (kept_address dialogue h.pairs) from)
      (abnormal_abort (peer_by state origin))
      ∷ Output.dialogue (DialogueIndication.p_abort dialogue AbortCause.abnormal) ∷ [])
  any-continue state context from origin components (PortionVerdict.normal told info) =
      ap (λ z. Answer.outputs (Output.dialogue (DialogueIndication.go_on dialogue told info) ∷ z))
      (components-told state context components)

  pub continue-agrees : (d : Dialogue) (from : Address) (origin to : List ℕ) (portion : Option (List ℕ))
      (components : List ℕ)
      → dialogue_at h.start.reject_ms h.start.idle_ms h.pairs dialogue ≡ Some d
      → (table_move (setting_at h) d (DialogueEvent.frame from (Message.go_on origin to portion components))).answer
      ≡ Answer.outputs (taken_outputs dialogue h.pairs (life dialogue h.pairs) from
      (Message.go_on origin to portion components))
  unfolding table_move
  continue-agrees d from origin to portion components e =
      at_life (λ l d. (table_move (setting_at h) d
      (DialogueEvent.frame from (Message.go_on origin to portion components))).answer
      ≡ Answer.outputs
      (taken_outputs dialogue h.pairs l from (Message.go_on origin to portion components))) h dialogue d
      (λ state context. any-continue state context from origin components (portion_verdict state context portion))
      (life dialogue h.pairs) e

  abnormal-end : (state : State) (context : Option (List ℕ)) (components : List ℕ) (verdict : PortionVerdict)
      → verdict ≡ PortionVerdict.abnormal
      → (ended_by (dialogue_in state context) verdict
      (walked_in (setting_at h).clock (dialogue_in state context) components)).answer
      ≡ Answer.outputs (end_outputs dialogue h.pairs components verdict)
  abnormal-end state context components PortionVerdict.abnormal e =
      over-answer state context (Output.dialogue (DialogueIndication.p_abort dialogue AbortCause.abnormal) ∷ [])
  abnormal-end state context components (PortionVerdict.normal told info) e = absurd cc

  pub end-agrees : (d : Dialogue) (from : Address) (to : List ℕ) (portion : Option (List ℕ)) (components : List ℕ)
      → dialogue_at h.start.reject_ms h.start.idle_ms h.pairs dialogue ≡ Some d
      → portion_verdict d.standing.state d.standing.context portion ≡ PortionVerdict.abnormal
      → (table_move (setting_at h) d (DialogueEvent.frame from (Message.end to portion components))).answer
      ≡ Answer.outputs (taken_outputs dialogue h.pairs (life dialogue h.pairs) from (Message.end to portion components))
  unfolding table_move
  end-agrees d from to portion components e =
      at_life (λ l d. portion_verdict d.standing.state d.standing.context portion ≡ PortionVerdict.abnormal
      → (table_move (setting_at h) d (DialogueEvent.frame from (Message.end to portion components))).answer
      ≡ Answer.outputs (taken_outputs dialogue h.pairs l from (Message.end to portion components))) h dialogue d
      (λ state context. abnormal-end state context components (portion_verdict state context portion))
      (life dialogue h.pairs) e
