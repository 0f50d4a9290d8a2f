-- Parts of a history, and the request that sends a Begin.
use Rattle.std.proofs.Common.{◌≡◌, ℕ, List, [], ◌∷◌, ◌++◌, Option, Some, None, refl, sym, ap, ◌∙◌, append_assoc}
use Rattle.tcap_pdu.specs.FrameSpelling.{Message}
use Rattle.tcap_model.specs.Words.Address.{Address}
use Rattle.tcap_model.specs.Histories.Life.{Life}
use Rattle.tcap_model.specs.Histories.Pair.{Pair, Past}
use Rattle.tcap_model.specs.Statements.Places.{StandsIn}
use Rattle.tcap_model.specs.Words.Request.{Request, Ending, AbortReason, DialogueRequest}
use Rattle.tcap_model.specs.Procedures.RequestMessage.{continue_message, end_message, abort_message, refusing_message, message_of, answer_portion, user_abort, refusing_abort}
use Rattle.tcap_model.specs.Procedures.Standing.{Standing}
use Rattle.tcap_model.specs.Words.State.{State}
use Rattle.tcap_laws.proofs.Peers.FarPeers.{HasPeer}
use Rattle.tcap_laws.proofs.Peers.HeardPeers.{IsPeered}

-- ---- parts of a history

-- what stands before something
abbrev pub IsIn : Past → Past → Type 0
IsIn past whole = (later : Past) × (whole ≡ later ++ past)

pub in-in : (a b c : Past) → IsIn a b → IsIn b c → IsIn a c
in-in a b c inner outer =
    (outer.0 ++ inner.0, outer.1 ∙ (ap (λ (w : Past). outer.0 ++ w) inner.1 ∙ sym (append_assoc outer.0 inner.0 a)))

pub stands-in : (pair : Pair) (before past : Past) → StandsIn pair before past → IsIn before past
stands-in pair before past stands =
    (stands.later ++ pair ∷ [], stands.is_past ∙ sym (append_assoc stands.later (pair ∷ []) before))

pub same-peer : (one other : List ℕ) (l : Life) → IsPeered one l → HasPeer other l → other ≡ one
same-peer one other Life.unborn peered has = absurd has
same-peer one other (Life.standing state context) peered has =
    let some : Some other ≡ Some one = sym has ∙ peered in
    cc
same-peer one other Life.over peered has = absurd peered

-- ---- the request that sends a Begin

abbrev pub IsAnyBegin : Message → Type 0
IsAnyBegin (Message.unidirectional portion components) = ⊥
IsAnyBegin (Message.begin origin portion components) = Unit {0}
IsAnyBegin (Message.end to portion components) = ⊥
IsAnyBegin (Message.go_on origin to portion components) = ⊥
IsAnyBegin (Message.abort to reason) = ⊥

abbrev pub IfAnyBegin : Option Message → Type 0
IfAnyBegin None = ⊥
IfAnyBegin (Some m) = IsAnyBegin m

begins-none : (d : Standing) (state : State) (portion : Option (List ℕ)) → IfAnyBegin (continue_message d state portion)
    → ⊥
begins-none d State.fresh portion is = is
begins-none d State.sent portion is = is
begins-none d (State.received peer) portion is = is
begins-none d (State.active peer) portion is = is

ends-none : (d : Standing) (state : State) (portion : Option (List ℕ)) → IfAnyBegin (end_message d state portion) → ⊥
ends-none d State.fresh portion is = is
ends-none d State.sent portion is = is
ends-none d (State.received peer) portion is = is
ends-none d (State.active peer) portion is = is

aborts-none : (state : State) (reason : _) → IfAnyBegin (abort_message state reason) → ⊥
aborts-none State.fresh reason is = is
aborts-none State.sent reason is = is
aborts-none (State.received peer) reason is = is
aborts-none (State.active peer) reason is = is

refuses-none : (state : State) (context : Option (List ℕ)) (info : List ℕ)
    → IfAnyBegin (refusing_message state context info) → ⊥
refuses-none state None info is = is
refuses-none state (Some context) info is = aborts-none state (refusing_abort context info) is

abbrev pub IsBeginRequest : Request → Type 0
IsBeginRequest request =
    (to : Address) × (context : Option (List ℕ)) × (info : List ℕ)
    × (request ≡ Request.dialogue (DialogueRequest.begin to context info))

pub begin-request : (d : Standing) (request : Request) → IfAnyBegin (message_of d request) → IsBeginRequest request
begin-request d (Request.component asked) is = absurd is
begin-request d (Request.dialogue (DialogueRequest.uni to context info)) is = absurd is
begin-request d (Request.dialogue (DialogueRequest.begin to context info)) is = (to, context, info, refl)
begin-request d (Request.dialogue (DialogueRequest.go_on context info)) is =
    absurd (begins-none d d.state (answer_portion d.state d.context context info) is)
begin-request d (Request.dialogue (DialogueRequest.finish Ending.basic context info)) is =
    absurd (ends-none d d.state (answer_portion d.state d.context context info) is)
begin-request d (Request.dialogue (DialogueRequest.finish Ending.prearranged context info)) is = absurd is
begin-request d (Request.dialogue (DialogueRequest.u_abort AbortReason.by_user info)) is =
    absurd (aborts-none d.state (user_abort d.context info) is)
begin-request d (Request.dialogue (DialogueRequest.u_abort AbortReason.not_supported info)) is =
    absurd (refuses-none d.state d.context info is)
