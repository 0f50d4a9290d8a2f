-- A message with a destination identifier goes to the address that the dialogue keeps.
use Rattle.std.proofs.Common.{◌≡◌, ℕ, List, Option, Some, None, refl, ap, ◌∙◌}
use Rattle.tcap_pdu.specs.FrameSpelling.{Message}
use Rattle.tcap_model.specs.Words.Address.{Address}
use Rattle.tcap_model.specs.Procedures.Destination.{destination}
use Rattle.tcap_model.specs.Replies.Due.{standing_of}
use Rattle.tcap_model.specs.Words.Event.{Event}
use Rattle.tcap_model.specs.Histories.History.{History}
use Rattle.tcap_model.specs.Histories.Kept.{kept_address}
use Rattle.tcap_model.specs.Words.LocalId.{local_id}
use Rattle.tcap_model.specs.Words.Output.{Output}
use Rattle.tcap_model.specs.Statements.Places.{Tells}
use Rattle.tcap_model.specs.Replies.Reply.{reply}
use Rattle.tcap_model.specs.Words.Request.{Request, DialogueRequest}
use Rattle.tcap_model.specs.Procedures.QueueRules.{joined}
use Rattle.tcap_model.specs.Procedures.RequestMessage.{uni_portion, begin_portion, message_of, request_address}
use Rattle.tcap_model.specs.Procedures.Standing.{Standing}
use Rattle.tcap_model.specs.Words.State.{State}
use Rattle.tcap_laws.proofs.Receptions.SentAddresses.{request-goes_to}

module _ (d : Standing) (kept : Address) (m : Message) (octets : List ℕ) (destined : destination m ≡ Some octets) where
  destined-keeps : (request : Request) → message_of d request ≡ Some m → request_address kept request ≡ kept
  destined-keeps (Request.component asked) is = refl
  destined-keeps (Request.dialogue (DialogueRequest.uni to context info)) is =
      let sent : Message = Message.unidirectional (uni_portion context info) (joined d.queue) in
      let same : sent ≡ m = cc in
      let never : None ≡ Some octets = ap destination same ∙ destined in
      absurd cc
  destined-keeps (Request.dialogue (DialogueRequest.begin to context info)) is =
      let sent : Message = Message.begin (local_id d.identifier) (begin_portion context info) (joined d.queue) in
      let same : sent ≡ m = cc in
      let never : None ≡ Some octets = ap destination same ∙ destined in
      absurd cc
  destined-keeps (Request.dialogue (DialogueRequest.go_on context info)) is = refl
  destined-keeps (Request.dialogue (DialogueRequest.finish ending context info)) is = refl
  destined-keeps (Request.dialogue (DialogueRequest.u_abort why info)) is = refl

pub goes-kept : (h : History) (dialogue : ℕ) (request : Request) (to : Address) (bytes : List ℕ)
    → Tells (reply h (Event.on_dialogue dialogue request)) (Output.send to bytes)
    → (state : State) (context : Option (List ℕ)) (m : Message)
    → message_of (standing_of dialogue h.pairs state context) request ≡ Some m
    → (octets : List ℕ) → destination m ≡ Some octets → to ≡ kept_address dialogue h.pairs
goes-kept h dialogue request to bytes tells state context m is octets destined =
    request-goes_to h dialogue request to bytes tells
    ∙ destined-keeps (standing_of dialogue h.pairs state context) (kept_address dialogue h.pairs) m octets destined
    request is
