-- Which requests a dialogue has, by its state.
use Rattle.std.specs.Prelude.{Bool, true, false, List, ℕ, Option, is_some}
use Rattle.tcap_model.specs.Words.State.{State}
use Rattle.tcap_model.specs.Words.Request.{Request, Ending, AbortReason, ComponentRequest, DialogueRequest}

-- No message was sent or received: Idle (Q.774, Transaction state machine).
abbrev pub is_fresh : State → Bool
is_fresh State.fresh = true
is_fresh State.sent = false
is_fresh (State.received peer) = false
is_fresh (State.active peer) = false

-- The peer was heard: Initiation Received or Active (Q.774, Transaction state machine).
abbrev pub has_peer : State → Bool
has_peer State.fresh = false
has_peer State.sent = false
has_peer (State.received peer) = true
has_peer (State.active peer) = true

-- A Begin with an AARQ was received and isn't answered yet (Q.774, Dialogue begin).
abbrev pub is_asked : State → Option (List ℕ) → Bool
is_asked State.fresh context = false
is_asked State.sent context = false
is_asked (State.received peer) context = is_some context
is_asked (State.active peer) context = false

-- Whether a dialogue in this state, with this application context, has the request: TC-BEGIN and
-- TC-UNI need Idle; TC-CONTINUE, a basic TC-END, results, errors and Rejects need Initiation Received
-- or Active; an abort since the context isn't supported needs an AARQ that isn't answered; all else
-- works in every state (Q.774, Dialogue control; Q.774, Component handling).
abbrev pub has_request : State → Option (List ℕ) → Request → Bool
has_request state context (Request.component (ComponentRequest.invoke id class code parameter linked timeout)) = true
has_request state context (Request.component (ComponentRequest.result_last id body)) = has_peer state
has_request state context (Request.component (ComponentRequest.result_more id body)) = has_peer state
has_request state context (Request.component (ComponentRequest.error_back id code parameter)) = has_peer state
has_request state context (Request.component (ComponentRequest.u_reject id problem)) = has_peer state
has_request state context (Request.component (ComponentRequest.u_cancel id)) = true
has_request state context (Request.dialogue (DialogueRequest.uni to given info)) = is_fresh state
has_request state context (Request.dialogue (DialogueRequest.begin to given info)) = is_fresh state
has_request state context (Request.dialogue (DialogueRequest.go_on given info)) = has_peer state
has_request state context (Request.dialogue (DialogueRequest.finish Ending.basic given info)) = has_peer state
has_request state context (Request.dialogue (DialogueRequest.finish Ending.prearranged given info)) = true
has_request state context (Request.dialogue (DialogueRequest.u_abort AbortReason.by_user info)) = true
has_request state context (Request.dialogue (DialogueRequest.u_abort AbortReason.not_supported info)) =
    is_asked state context
