-- A request is judged and answered alike by what one dialogue keeps and by the history.
use Rattle.std.proofs.Common.{◌≡◌, ℕ, ℤ, Bool, true, List, Option, Some, None, refl, ap, ◌∙◌, subst}
use Rattle.tcap_invocation.specs.Closing.{given_up_at}
use Rattle.tcap_invocation.specs.Invocations.{InvocationList}
use Rattle.tcap_laws.proofs.Rows.IdentifiersInRows.{in_use-rows, pending-rows}
use Rattle.tcap_model.specs.Table.Agreement.{setting_at, leaves_standing}
use Rattle.tcap_model.specs.Words.Answer.{Answer}
use Rattle.tcap_model.specs.Procedures.ComponentRequest.{identifier_of}
use Rattle.tcap_model.specs.Table.Dialogue.{Dialogue}
use Rattle.tcap_model.specs.Replies.Due.{standing_of, situation_of, due, due_by, held_if_any, pending_if_any}
use Rattle.tcap_model.specs.Words.Event.{Event}
use Rattle.tcap_model.specs.Words.Fault.{Fault}
use Rattle.tcap_model.specs.Replies.Held.{pending}
use Rattle.tcap_model.specs.Histories.History.{History}
use Rattle.tcap_model.specs.Histories.Life.{Life, life, touched}
use Rattle.tcap_model.specs.Histories.Pair.{Past}
use Rattle.tcap_model.specs.Procedures.Refusals.{Situation, due_on}
use Rattle.tcap_model.specs.Replies.Reply.{reply, request_answer, accepted_answer, given_up_answer}
use Rattle.tcap_model.specs.Words.Request.{Request, ComponentRequest, DialogueRequest}
use Rattle.tcap_model.specs.Words.State.{State}
use Rattle.tcap_model.specs.Table.TableMove.{DialogueEvent, answering, accepted, requested_by, giving_up, situation, in_use_by_rows, pending_by_rows, table_move}
use Rattle.tcap_model.specs.Table.World.{rows_of, dialogue_at, dialogue_by}
use Rattle.tcap_model.specs.Histories.Kept.{kept_address}

-- ---- by what a request is judged

-- the invocations of a dialogue at a history
abbrev list_at : ℕ → ℕ → Past → InvocationList
list_at reject_ms dialogue past = record { reject_ms = reject_ms; rows = rows_of reject_ms dialogue past }

in_use-agrees : (reject_ms dialogue : ℕ) (past : Past) (id : Option ℤ)
    → in_use_by_rows (list_at reject_ms dialogue past) id ≡ held_if_any reject_ms dialogue past id
in_use-agrees reject_ms dialogue past None = refl
in_use-agrees reject_ms dialogue past (Some id) = in_use-rows reject_ms dialogue past id

pending-agrees : (reject_ms dialogue : ℕ) (past : Past) (id : Option ℤ)
    → pending_by_rows (list_at reject_ms dialogue past) id ≡ pending_if_any dialogue past id
pending-agrees reject_ms dialogue past None = refl
pending-agrees reject_ms dialogue past (Some id) = pending-rows reject_ms dialogue past id

-- a dialogue that stands in this state with this context
abbrev pub standing_dialogue : History → ℕ → State → Option (List ℕ) → Dialogue
standing_dialogue h dialogue state context =
    record {
      standing = standing_of dialogue h.pairs state context;
      invocations =
          list_at h.start.reject_ms dialogue h.pairs;
      idle_ms = h.start.idle_ms;
      touched = touched dialogue h.pairs;
      kept = kept_address dialogue h.pairs;
    }

situation_by : Situation → Bool → Option ℕ → Situation
situation_by s in_use pending = record s { is_in_use = in_use; pending = pending }

situation-standing : (h : History) (dialogue : ℕ) (state : State) (context : Option (List ℕ)) (request : Request)
    → situation (setting_at h) (standing_dialogue h dialogue state context) request
    ≡ situation_of h dialogue (standing_of dialogue h.pairs state context) request
unfolding situation_by
situation-standing h dialogue state context request =
    let s = situation (setting_at h) (standing_dialogue h dialogue state context) request in
    ap (λ b. situation_by s b s.pending) (in_use-agrees h.start.reject_ms dialogue h.pairs (identifier_of request))
    ∙ ap (λ n. situation_by s (held_if_any h.start.reject_ms dialogue h.pairs (identifier_of request)) n)
    (pending-agrees h.start.reject_ms dialogue h.pairs (identifier_of request))

-- ---- the dialogues that stand

-- a dialogue that stands at a history is one of these
pub at_life : (P : Life → Dialogue → Type 0) (h : History) (dialogue : ℕ) (d : Dialogue)
    → ((state : State) (context : Option (List ℕ))
    → P (Life.standing state context) (standing_dialogue h dialogue state context))
    → (l : Life) → dialogue_by h.start.reject_ms h.start.idle_ms dialogue h.pairs l ≡ Some d → P l d
at_life P h dialogue d standing Life.unborn e = absurd cc
at_life P h dialogue d standing (Life.standing state context) e =
    let same : standing_dialogue h dialogue state context ≡ d = cc in
    subst (P (Life.standing state context)) same (standing state context)
at_life P h dialogue d standing Life.over e = absurd cc

pub situation-agrees : (h : History) (dialogue : ℕ) (d : Dialogue) (request : Request)
    → dialogue_at h.start.reject_ms h.start.idle_ms h.pairs dialogue ≡ Some d
    → situation (setting_at h) d request ≡ situation_of h dialogue d.standing request
situation-agrees h dialogue d request e =
    at_life (λ l d. situation (setting_at h) d request ≡ situation_of h dialogue d.standing request) h dialogue d
    (λ state context. situation-standing h dialogue state context request) (life dialogue h.pairs) e

due-life : (h : History) (dialogue : ℕ) (d : Dialogue) (request : Request) (l : Life)
    → dialogue_by h.start.reject_ms h.start.idle_ms dialogue h.pairs l ≡ Some d
    → due_on (situation (setting_at h) d request) request ≡ due_by h dialogue request l
due-life h dialogue d request l e =
    at_life (λ l d. due_on (situation (setting_at h) d request) request ≡ due_by h dialogue request l) h dialogue d
    (λ state context. ap (λ s. due_on s request) (situation-standing h dialogue state context request)) l e

pub due-agrees : (h : History) (dialogue : ℕ) (d : Dialogue) (request : Request)
    → dialogue_at h.start.reject_ms h.start.idle_ms h.pairs dialogue ≡ Some d
    → due_on (situation (setting_at h) d request) request ≡ due h dialogue request
due-agrees h dialogue d request e = due-life h dialogue d request (life dialogue h.pairs) e

-- ---- the answers

pub refused-agrees : (h : History) (dialogue : ℕ) (d : Dialogue) (request : Request) (fault : Fault)
    → dialogue_at h.start.reject_ms h.start.idle_ms h.pairs dialogue ≡ Some d
    → due h dialogue request ≡ Some fault → table_move (setting_at h) d (DialogueEvent.request request)
    ≡ answering d (Answer.refused fault)
unfolding table_move
refused-agrees h dialogue d request fault e f =
    ap (requested_by (setting_at h) d request) (due-agrees h dialogue d request e ∙ f)

given_up-agrees : (d : Dialogue) (id : ℤ) (number : Option ℕ) → (giving_up d id number).answer ≡ given_up_answer number
given_up-agrees d id None = refl
given_up-agrees d id (Some number) = refl

pub accepted-agrees : (h : History) (dialogue : ℕ) (state : State) (context : Option (List ℕ)) (request : Request)
    → leaves_standing request ≡ true
    → (accepted (setting_at h) (standing_dialogue h dialogue state context) request).answer
    ≡ accepted_answer h (standing_of dialogue h.pairs state context) request
accepted-agrees h dialogue state context (Request.component
    (ComponentRequest.invoke id class code parameter linked timeout)) s = refl
accepted-agrees h dialogue state context (Request.component (ComponentRequest.result_last id body)) s = refl
accepted-agrees h dialogue state context (Request.component (ComponentRequest.result_more id body)) s = refl
accepted-agrees h dialogue state context (Request.component (ComponentRequest.error_back id code parameter)) s = refl
accepted-agrees h dialogue state context (Request.component (ComponentRequest.u_reject id problem)) s = refl
accepted-agrees h dialogue state context (Request.component (ComponentRequest.u_cancel id)) s =
    given_up-agrees (standing_dialogue h dialogue state context) id
    (given_up_at (rows_of h.start.reject_ms dialogue h.pairs) id)
    ∙ ap given_up_answer (pending-rows h.start.reject_ms dialogue h.pairs id)
accepted-agrees h dialogue state context (Request.dialogue (DialogueRequest.uni to given info)) s = absurd cc
accepted-agrees h dialogue state context (Request.dialogue (DialogueRequest.begin to given info)) s = refl
accepted-agrees h dialogue state context (Request.dialogue (DialogueRequest.go_on given info)) s = refl
accepted-agrees h dialogue state context (Request.dialogue (DialogueRequest.finish ending given info)) s = absurd cc
accepted-agrees h dialogue state context (Request.dialogue (DialogueRequest.u_abort why info)) s = absurd cc

requested-agrees : (h : History) (dialogue : ℕ) (state : State) (context : Option (List ℕ)) (request : Request)
    (fault : Option Fault) → leaves_standing request ≡ true
    → (requested_by (setting_at h) (standing_dialogue h dialogue state context) request fault).answer
    ≡ request_answer h dialogue request (Life.standing state context) fault
requested-agrees h dialogue state context request None s = accepted-agrees h dialogue state context request s
requested-agrees h dialogue state context request (Some fault) s = refl

answer-life : (h : History) (dialogue : ℕ) (d : Dialogue) (request : Request) (l : Life)
    → leaves_standing request ≡ true → dialogue_by h.start.reject_ms h.start.idle_ms dialogue h.pairs l ≡ Some d
    → (requested_by (setting_at h) d request (due_by h dialogue request l)).answer
    ≡ request_answer h dialogue request l (due_by h dialogue request l)
answer-life h dialogue d request l s e =
    at_life (λ l d. (requested_by (setting_at h) d request (due_by h dialogue request l)).answer
    ≡ request_answer h dialogue request l (due_by h dialogue request l)) h dialogue d
    (λ state context. requested-agrees h dialogue state context request
    (due_by h dialogue request (Life.standing state context)) s) l e

pub answer-agrees : (h : History) (dialogue : ℕ) (d : Dialogue) (request : Request)
    → dialogue_at h.start.reject_ms h.start.idle_ms h.pairs dialogue ≡ Some d → leaves_standing request ≡ true
    → (table_move (setting_at h) d (DialogueEvent.request request)).answer
    ≡ reply h (Event.on_dialogue dialogue request)
unfolding table_move
answer-agrees h dialogue d request e s =
    ap (λ f. (requested_by (setting_at h) d request f).answer) (due-agrees h dialogue d request e)
    ∙ answer-life h dialogue d request (life dialogue h.pairs) s e
