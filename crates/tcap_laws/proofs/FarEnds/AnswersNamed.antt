-- Answers, their components and the requests that they come from.
use Rattle.std.proofs.Common.{◌≡◌, ℕ, ℤ, Bool, true, false, not, nat_le, length, List, Option, Some, None, refl, sym, ap, subst, ◌∙◌}
use Rattle.tcap_pdu.specs.FrameSpelling.{Message, SpellsFrame}
use Rattle.tcap_pdu.specs.FrameWritten.{message_limit}
use Rattle.tcap_pdu.proofs.CallerLemmas.{frame_again}
use Rattle.tcap_component.specs.Component.{ComponentParts}
use Rattle.tcap_component.specs.Component.ComponentParts.{invoke, result_last, error_back, reject_back, result_more}
use Rattle.tcap_component.specs.Problem.{ProblemParts, is_by_provider}
use Rattle.tcap_model.specs.Words.Answer.{is_accepted}
use Rattle.tcap_model.specs.Statements.ToldFrom.{IsOfComponent, StandsFor}
use Rattle.tcap_model.specs.Procedures.ComponentRequest.{component_of}
use Rattle.tcap_model.specs.Procedures.Destination.{destination, destination_by, destination_of}
use Rattle.tcap_model.specs.Words.Event.{Event}
use Rattle.tcap_model.specs.Histories.History.{History}
use Rattle.tcap_model.specs.Histories.Life.{Life, life}
use Rattle.tcap_model.specs.Words.LocalId.{dialogue_named}
use Rattle.tcap_model.specs.Histories.Names.{is_destined, named_within}
use Rattle.tcap_model.specs.Words.Output.{Output, Closing, ComponentIndication}
use Rattle.tcap_model.specs.Replies.Reply.{reply}
use Rattle.tcap_model.specs.Words.Request.{Request, ComponentRequest}
use Rattle.tcap_model.specs.Words.State.{State, peer_of}
use Rattle.tcap_model.specs.Procedures.States.{has_peer}
use Rattle.tcap_model.specs.Statements.FarAnswer.{IsAnswer}
use Rattle.tcap_laws.proofs.FarEnds.FairTellings.{Fair, IsNamedBy}
use Rattle.tcap_laws.proofs.Peers.FarPeers.{none-due}
use Rattle.tcap_laws.proofs.Receptions.NamedReceptions.{that-is}
use Rattle.tcap_laws.proofs.FarEnds.WaitingInvokes.{IsNoInvoke}

-- ---- answers, their components and their requests

-- the component that an indication stands for
abbrev component_told : Output → Option ComponentParts
component_told (Output.send to bytes) = None
component_told (Output.dialogue indication) = None
component_told (Output.component (ComponentIndication.invoked dialogue id linked code parameter)) =
    Some (invoke id linked code parameter)
component_told (Output.component (ComponentIndication.result_more dialogue number id body)) = Some (result_more id body)
component_told (Output.component (ComponentIndication.local_reject dialogue id problem)) = None
component_told (Output.component (ComponentIndication.remote_reject dialogue id problem by)) = None
component_told (Output.component (ComponentIndication.closed dialogue number id (Closing.result_last body))) =
    Some (result_last id body)
component_told (Output.component (ComponentIndication.closed dialogue number id (Closing.error_back code parameter))) =
    Some (error_back id code parameter)
component_told (Output.component (ComponentIndication.closed dialogue number id (Closing.rejected problem by))) =
    Some (reject_back (Some id) problem)
component_told (Output.component (ComponentIndication.closed dialogue number id Closing.lapsed)) = None
component_told (Output.component (ComponentIndication.closed dialogue number id Closing.ended)) = None
component_told (Output.component (ComponentIndication.closed dialogue number id Closing.given_up)) = None
component_told (Output.dropped why) = None

pub stands-told : (output : Output) (c : ComponentParts) → StandsFor output c → component_told output ≡ Some c
stands-told _ _ (StandsFor.an_invoke dialogue id linked code parameter) = refl
stands-told _ _ (StandsFor.a_result_more dialogue number id body) = refl
stands-told _ _ (StandsFor.a_result_last dialogue number id body) = refl
stands-told _ _ (StandsFor.an_error dialogue number id code parameter) = refl
stands-told _ _ (StandsFor.a_reject dialogue number id problem) = refl

pub answer-told : {dialogue number : ℕ} {id : ℤ} {output : Output} {request : Request}
    → IsAnswer dialogue number id output request → component_told output ≡ component_of request
answer-told (IsAnswer.a_result_last body) = refl
answer-told (IsAnswer.a_result_more body) = refl
answer-told (IsAnswer.an_error code parameter) = refl
answer-told (IsAnswer.a_reject problem) = refl

pub answer-indicates : {dialogue number : ℕ} {id : ℤ} {output : Output} {request : Request}
    → IsAnswer dialogue number id output request → IsOfComponent output
answer-indicates (IsAnswer.a_result_last body) = IsOfComponent.result_last _ _ _ body
answer-indicates (IsAnswer.a_result_more body) = IsOfComponent.result_more _ _ _ body
answer-indicates (IsAnswer.an_error code parameter) = IsOfComponent.error_back _ _ _ code parameter
answer-indicates (IsAnswer.a_reject problem) = IsOfComponent.rejected _ _ _ problem

pub answer-named : (bytes : List ℕ) {dialogue number : ℕ} {id : ℤ} {output : Output} {request : Request}
    → IsAnswer dialogue number id output request → Fair bytes output → IsNamedBy bytes dialogue
answer-named bytes (IsAnswer.a_result_last body) fair = fair
answer-named bytes (IsAnswer.a_result_more body) fair = fair
answer-named bytes (IsAnswer.an_error code parameter) fair = fair
answer-named bytes (IsAnswer.a_reject problem) fair = fair.0

-- a Reject that is told as the far user's has no problem of the component sublayer
pub answer-by-user : (bytes : List ℕ) {dialogue number : ℕ} {id : ℤ} {output : Output} {request : Request}
    → IsAnswer dialogue number id output request → Fair bytes output
    → (named : Option ℤ) (problem : ProblemParts) → component_of request ≡ Some (reject_back named problem)
    → is_by_provider problem ≡ false
answer-by-user bytes (IsAnswer.a_result_last body) fair named problem e = absurd cc
answer-by-user bytes (IsAnswer.a_result_more body) fair named problem e = absurd cc
answer-by-user bytes (IsAnswer.an_error code parameter) fair named problem e = absurd cc
answer-by-user bytes (IsAnswer.a_reject told) fair named problem e =
    let same : told ≡ problem = cc in
    ap is_by_provider (sym same) ∙ fair.1

-- it needs a peer
pub answer-needs : (h : History) (far_dialogue : ℕ) (s : State) (c : Option (List ℕ))
    → life far_dialogue h.pairs ≡ Life.standing s c
    → {dialogue number : ℕ} {id : ℤ} {output : Output} {request : Request} → IsAnswer dialogue number id output request
    → is_accepted (reply h (Event.on_dialogue far_dialogue request)) ≡ true → not (has_peer s) ≡ false
answer-needs h d s c lives {request = request} (IsAnswer.a_result_last body) accepted =
    (none-due h d request s c lives accepted).1.0
answer-needs h d s c lives {request = request} (IsAnswer.a_result_more body) accepted =
    (none-due h d request s c lives accepted).1.0
answer-needs h d s c lives {request = request} (IsAnswer.an_error code parameter) accepted =
    (none-due h d request s c lives accepted).1.0
answer-needs h d s c lives {request = request} (IsAnswer.a_reject problem) accepted =
    (none-due h d request s c lives accepted).1.0

pub some-peer : (s : State) → not (has_peer s) ≡ false → (peer : List ℕ) × (peer_of s ≡ Some peer)
some-peer State.fresh e = absurd cc
some-peer State.sent e = absurd cc
some-peer (State.received peer) e = (peer, refl)
some-peer (State.active peer) e = (peer, refl)

-- ---- the request of a component

abbrev as_request : ComponentParts → Request
as_request (invoke id linked code parameter) = Request.component (ComponentRequest.u_cancel id)
as_request (result_last id body) = Request.component (ComponentRequest.result_last id body)
as_request (error_back id code parameter) = Request.component (ComponentRequest.error_back id code parameter)
as_request (reject_back id problem) = Request.component (ComponentRequest.u_reject id problem)
as_request (result_more id body) = Request.component (ComponentRequest.result_more id body)

-- every request of a component that is no Invoke
pub request-as : (request : Request) (c : ComponentParts) → IsNoInvoke c → component_of request ≡ Some c
    → request ≡ as_request c
request-as (Request.component (ComponentRequest.invoke id class code parameter linked timeout)) c none e =
    let same : invoke id linked code parameter ≡ c = cc in absurd (subst IsNoInvoke (sym same) none)
request-as (Request.component (ComponentRequest.result_last id body)) c none e = let same : result_last id body ≡ c =
    cc in ap as_request same
request-as (Request.component (ComponentRequest.result_more id body)) c none e = let same : result_more id body ≡ c =
    cc in ap as_request same
request-as (Request.component (ComponentRequest.error_back id code parameter)) c none e =
    let same : error_back id code parameter ≡ c = cc in ap as_request same
request-as (Request.component (ComponentRequest.u_reject id problem)) c none e = let same : reject_back id problem ≡ c =
    cc in ap as_request same
request-as (Request.component (ComponentRequest.u_cancel id)) c none e = absurd cc
request-as (Request.dialogue asked) c none e = absurd cc

pub answer-no-invoke : {dialogue number : ℕ} {id : ℤ} {output : Output} {request : Request}
    → IsAnswer dialogue number id output request → (c : ComponentParts) → component_of request ≡ Some c → IsNoInvoke c
answer-no-invoke {id = id} (IsAnswer.a_result_last body) c e = let same : result_last id body ≡ c =
    cc in subst IsNoInvoke same tt
answer-no-invoke {id = id} (IsAnswer.a_result_more body) c e = let same : result_more id body ≡ c =
    cc in subst IsNoInvoke same tt
answer-no-invoke {id = id} (IsAnswer.an_error code parameter) c e = let same : error_back id code parameter ≡ c =
    cc in subst IsNoInvoke same tt
answer-no-invoke {id = id} (IsAnswer.a_reject problem) c e = let same : reject_back (Some id) problem ≡ c =
    cc in subst IsNoInvoke same tt

-- ---- the destination of bytes that name a dialogue

pub named-destined : (dialogue : ℕ) (bytes : List ℕ) (m : Message) → SpellsFrame m bytes → IsNamedBy bytes dialogue
    → is_destined dialogue (destination m) ≡ true
named-destined dialogue bytes m spelled named =
    ap (λ r. is_destined dialogue (destination_by bytes r)) (sym (frame_again m bytes spelled))
    ∙ within (nat_le (length bytes) message_limit) named
  where
    within : (short : Bool) → named_within short dialogue bytes ≡ true
        → is_destined dialogue (destination_of bytes) ≡ true
    within true e = e
    within false e = absurd cc

pub destined-octets : (dialogue : ℕ) (to : Option (List ℕ)) → is_destined dialogue to ≡ true
    → (octets : List ℕ) × (to ≡ Some octets) × (dialogue_named octets ≡ Some dialogue)
destined-octets dialogue None e = absurd cc
destined-octets dialogue (Some octets) e = (octets, refl, that-is dialogue (dialogue_named octets) e)
