-- What a request sends is octets.
use Rattle.std.proofs.Common.{◌≡◌, ◌&&◌, ◌/◌, ◌%◌, ℕ, true, false, List, [], ◌∷◌, Option, Some, None, unwrap_or, refl, arith}
use Rattle.std.proofs.lemmas.Bool.{and_parts}
use Rattle.ber_core.specs.Sequence.Field.{may}
use Rattle.tcap_pdu.specs.DialogueSpelling.{PduValue, Source}
use Rattle.tcap_pdu.specs.FrameSpelling.{Message, Reason, fields, reason_fields}
use Rattle.tcap_model.specs.Procedures.QueueRules.{Queued, joined}
use Rattle.tcap_model.specs.Procedures.RequestMessage.{begin_portion, uni_portion, accepting_portion, answer_portion, user_abort, refusing_abort, continue_message, end_message, abort_message, refusing_message, message_of}
use Rattle.tcap_model.specs.Procedures.Standing.{Standing}
use Rattle.tcap_model.specs.Words.InRange.{are_octets, are_octets_if_any, is_address, is_request}
use Rattle.tcap_model.specs.Words.LocalId.{local_id}
use Rattle.tcap_model.specs.Words.Request.{Request, Ending, AbortReason, DialogueRequest}
use Rattle.tcap_model.specs.Words.State.{State}
use Rattle.tcap_play.proofs.Octets.LifeOctets.{OctetsIfAny, StateOctets, if-any}
use Rattle.tcap_play.proofs.Octets.OctetLists.{Octets, Fine, FieldFine, FieldsFine, fine-append, octets-cons}
use Rattle.tcap_play.proofs.Octets.QueueOctets.{AllFine}
use Rattle.tcap_play.proofs.Octets.WrittenOctets.{dialogue-fine}

-- the parts of a message, if there is one
abbrev pub IfFine : Option Message → Type 0
IfFine None = Unit {0}
IfFine (Some m) = FieldsFine (fields m)

pub local-octets : (dialogue : ℕ) → Octets (local_id dialogue)
local-octets dialogue =
    octets-cons (dialogue / 0x1000000 % 0x100) (dialogue / 0x10000 % 0x100 ∷ dialogue / 0x100 % 0x100 ∷ dialogue % 0x100 ∷ []) (omega arith)
    (octets-cons (dialogue / 0x10000 % 0x100) (dialogue / 0x100 % 0x100 ∷ dialogue % 0x100 ∷ []) (omega arith)
    (octets-cons (dialogue / 0x100 % 0x100) (dialogue % 0x100 ∷ []) (omega arith) (octets-cons (dialogue % 0x100) [] (omega arith) refl)))

joined-fine : (waits : List Queued) → AllFine waits → Fine (joined waits)
joined-fine [] all = λ short. refl
joined-fine (q ∷ waits) all = fine-append q.octets (joined waits) all.0 (joined-fine waits all.1)

-- ---- dialogue portions

begin-fine : (context : Option (List ℕ)) (info : List ℕ) → OctetsIfAny context → Octets info
    → FieldFine (may 0x6b (begin_portion context info))
begin-fine None info named octets = tt
begin-fine (Some context) info named octets =
    (refl, dialogue-fine (PduValue.aarq true context info) ((λ short. named), λ short. octets))

uni-fine : (context : Option (List ℕ)) (info : List ℕ) → OctetsIfAny context → Octets info
    → FieldFine (may 0x6b (uni_portion context info))
uni-fine None info named octets = tt
uni-fine (Some context) info named octets =
    (refl, dialogue-fine (PduValue.audt true context info) ((λ short. named), λ short. octets))

given-octets : (given : Option (List ℕ)) (asked : List ℕ) → OctetsIfAny given → Octets asked → Octets (unwrap_or given asked)
given-octets None asked named octets = octets
given-octets (Some given) asked named octets = named

accepting-fine : (context given : Option (List ℕ)) (info : List ℕ) → OctetsIfAny context → OctetsIfAny given → Octets info
    → FieldFine (may 0x6b (accepting_portion context given info))
accepting-fine None given info kept named octets = tt
accepting-fine (Some asked) given info kept named octets = (
  refl,
  dialogue-fine (PduValue.aare true (unwrap_or given asked) true (Source.user 0) info)
      ((λ short. given-octets given asked named kept), refl, λ short. octets),
)

answer-fine : (state : State) (context given : Option (List ℕ)) (info : List ℕ) → OctetsIfAny context → OctetsIfAny given
    → Octets info → FieldFine (may 0x6b (answer_portion state context given info))
answer-fine State.fresh context given info kept named octets = tt
answer-fine State.sent context given info kept named octets = tt
answer-fine (State.received peer) context given info kept named octets = accepting-fine context given info kept named octets
answer-fine (State.active peer) context given info kept named octets = tt

user_abort-fine : (context : Option (List ℕ)) (info : List ℕ) → Octets info → FieldsFine (reason_fields (user_abort context info))
user_abort-fine None info octets = tt
user_abort-fine (Some context) info octets = ((refl, dialogue-fine (PduValue.abrt false info) (λ short. octets)), tt)

-- ---- messages

continue-fine : (d : Standing) (state : State) (portion : Option (List ℕ)) → StateOctets state → FieldFine (may 0x6b portion)
    → Fine (joined d.queue) → IfFine (continue_message d state portion)
continue-fine d State.fresh portion peer fine waits = tt
continue-fine d State.sent portion peer fine waits = tt
continue-fine d (State.received known) portion peer fine waits =
    ((refl, λ short. local-octets d.identifier), ((refl, λ short. peer), (fine, ((refl, waits), tt))))
continue-fine d (State.active known) portion peer fine waits =
    ((refl, λ short. local-octets d.identifier), ((refl, λ short. peer), (fine, ((refl, waits), tt))))

end-fine : (d : Standing) (state : State) (portion : Option (List ℕ)) → StateOctets state → FieldFine (may 0x6b portion)
    → Fine (joined d.queue) → IfFine (end_message d state portion)
end-fine d State.fresh portion peer fine waits = tt
end-fine d State.sent portion peer fine waits = tt
end-fine d (State.received known) portion peer fine waits = ((refl, λ short. peer), (fine, ((refl, waits), tt)))
end-fine d (State.active known) portion peer fine waits = ((refl, λ short. peer), (fine, ((refl, waits), tt)))

abort-fine : (state : State) (reason : Reason) → StateOctets state → FieldsFine (reason_fields reason)
    → IfFine (abort_message state reason)
abort-fine State.fresh reason peer fine = tt
abort-fine State.sent reason peer fine = tt
abort-fine (State.received known) reason peer fine = ((refl, λ short. peer), fine)
abort-fine (State.active known) reason peer fine = ((refl, λ short. peer), fine)

refusing-fine : (state : State) (context : Option (List ℕ)) (info : List ℕ) → StateOctets state → OctetsIfAny context → Octets info
    → IfFine (refusing_message state context info)
refusing-fine state None info peer kept octets = tt
refusing-fine state (Some context) info peer kept octets =
    abort-fine state (refusing_abort context info) peer
    ((refl, dialogue-fine (PduValue.aare true context false (Source.user 2) info) ((λ short. kept), refl, λ short. octets)), tt)

pub message-fine : (d : Standing) (request : Request) → is_request request ≡ true → StateOctets d.state → OctetsIfAny d.context
    → AllFine d.queue → IfFine (message_of d request)
message-fine d (Request.component asked) is peer kept all = tt
message-fine d (Request.dialogue (DialogueRequest.uni to context info)) is peer kept all =
    let both = and_parts (is_address to && are_octets_if_any context) (are_octets info) is in
    let named = (and_parts (is_address to) (are_octets_if_any context) both.0).1 in
    (uni-fine context info (if-any context named) both.1, ((refl, joined-fine d.queue all), tt))
message-fine d (Request.dialogue (DialogueRequest.begin to context info)) is peer kept all =
    let both = and_parts (is_address to && are_octets_if_any context) (are_octets info) is in
    let named = (and_parts (is_address to) (are_octets_if_any context) both.0).1 in
    ((refl, λ short. local-octets d.identifier), (begin-fine context info (if-any context named) both.1, ((refl, joined-fine d.queue all), tt)))
message-fine d (Request.dialogue (DialogueRequest.go_on context info)) is peer kept all =
    let both = and_parts (are_octets_if_any context) (are_octets info) is in
    continue-fine d d.state (answer_portion d.state d.context context info) peer
    (answer-fine d.state d.context context info kept (if-any context both.0) both.1) (joined-fine d.queue all)
message-fine d (Request.dialogue (DialogueRequest.finish Ending.basic context info)) is peer kept all =
    let both = and_parts (are_octets_if_any context) (are_octets info) is in
    end-fine d d.state (answer_portion d.state d.context context info) peer
    (answer-fine d.state d.context context info kept (if-any context both.0) both.1) (joined-fine d.queue all)
message-fine d (Request.dialogue (DialogueRequest.finish Ending.prearranged context info)) is peer kept all = tt
message-fine d (Request.dialogue (DialogueRequest.u_abort AbortReason.by_user info)) is peer kept all =
    abort-fine d.state (user_abort d.context info) peer (user_abort-fine d.context info is)
message-fine d (Request.dialogue (DialogueRequest.u_abort AbortReason.not_supported info)) is peer kept all =
    refusing-fine d.state d.context info peer kept is
