-- Dialogues whose answers tell nothing of the number n.
use Rattle.std.proofs.Common.{◌≡◌, ℕ, ℤ, ◌==◌, false, List, [], ◌++◌, Option, Some, None, refl, ap, ◌∙◌}
use Rattle.tcap_component.specs.ComponentReading.{components_of}
use Rattle.tcap_laws.proofs.Decisions.ComponentTellings.{components_other}
use Rattle.tcap_laws.proofs.Decisions.ToldOutputs.{told, told-append, IsOther, abort_silent, asked_silent}
use Rattle.tcap_model.specs.Invocations.Closings.{told_by_answer}
use Rattle.tcap_model.specs.Procedures.ComponentHandling.{Item, told_of}
use Rattle.tcap_model.specs.Replies.Due.{standing_of}
use Rattle.tcap_model.specs.Words.Event.{Event}
use Rattle.tcap_model.specs.Words.Fault.{Fault}
use Rattle.tcap_model.specs.Replies.Held.{pending}
use Rattle.tcap_model.specs.Histories.History.{History}
use Rattle.tcap_model.specs.Invocations.Invocation.{latest}
use Rattle.tcap_model.specs.Histories.Life.{Life}
use Rattle.tcap_model.specs.Histories.Pair.{Past}
use Rattle.tcap_model.specs.Procedures.PortionRules.{PortionVerdict, portion_verdict}
use Rattle.tcap_model.specs.Replies.Queue.{handled_in}
use Rattle.tcap_model.specs.Invocations.SentThere.{if_sent}
use Rattle.tcap_model.specs.Replies.Reply.{ended_in, given_up_answer, accepted_answer, request_answer, continue_outputs, end_outputs, message_outputs, taken_outputs, request_sent}
use Rattle.tcap_model.specs.Words.Request.{Request, ComponentRequest, DialogueRequest}
use Rattle.tcap_model.specs.Words.State.{State}
use Rattle.tcap_pdu.specs.FrameSpelling.{Message}
use Rattle.tcap_model.specs.Words.Address.{Address}
use Rattle.tcap_model.specs.Procedures.Standing.{Standing}

-- a dialogue in which nothing can be told of the number
pub record IsQuiet (n : ℕ) (place past : Past) (dialogue : ℕ) : Type 0 where
  pub subjects : (id : ℤ) (earlier : List Item) → IsOther n (if_sent past earlier (latest dialogue id past))
  pub ends : (items : List Item) → told n place (ended_in dialogue past items) ≡ []
  pub cancels : (id : ℤ) (m : ℕ) → pending dialogue id past ≡ Some m → (m == n) ≡ false

module _ (n : ℕ) (place past : Past) (dialogue : ℕ) (quiet : IsQuiet n place past dialogue) where
  pub components_quiet : (content : List ℕ) → told n place (told_of (handled_in dialogue past content)) ≡ []
  components_quiet content = components_other n place past dialogue quiet.subjects [] (components_of content)

  continue_quiet : (state : State) (from : Address) (origin content : List ℕ) (v : PortionVerdict)
      → told n place (continue_outputs dialogue past state from origin content v) ≡ []
  continue_quiet state from origin content (PortionVerdict.normal context info) = components_quiet content
  continue_quiet state from origin content PortionVerdict.abnormal = quiet.ends []

  end_quiet : (content : List ℕ) (v : PortionVerdict) → told n place (end_outputs dialogue past content v) ≡ []
  end_quiet content (PortionVerdict.normal context info) =
      told-append n place (told_of (handled_in dialogue past content)) (ended_in dialogue past (components_of content))
      ∙ (ap (λ z. z ++ told n place (ended_in dialogue past (components_of content))) (components_quiet content)
      ∙ quiet.ends (components_of content))
  end_quiet content PortionVerdict.abnormal = quiet.ends []

  message_quiet : (state : State) (context : Option (List ℕ)) (from : Address) (m : Message)
      → told n place (message_outputs dialogue past state context from m) ≡ []
  message_quiet state context from (Message.go_on origin to portion components) =
      continue_quiet state from origin components (portion_verdict state context portion)
  message_quiet state context from (Message.end to portion components) =
      end_quiet components (portion_verdict state context portion)
  message_quiet state context from (Message.abort to reason) =
      ap (λ z. z ++ told n place (ended_in dialogue past [])) (abort_silent n place dialogue reason) ∙ quiet.ends []
  message_quiet state context from (Message.unidirectional portion components) = refl
  message_quiet state context from (Message.begin origin portion components) = refl

  pub taken_quiet : (l : Life) (from : Address) (m : Message) → told n place (taken_outputs dialogue past l from m) ≡ []
  taken_quiet Life.unborn from m = refl
  taken_quiet (Life.standing state context) from m = message_quiet state context from m
  taken_quiet Life.over from m = refl

  last_quiet : (d : Standing) (r : Request) → told n place (request_sent past d r ++ ended_in dialogue past []) ≡ []
  last_quiet d r =
      told-append n place (request_sent past d r) (ended_in dialogue past [])
      ∙ (ap (λ z. z ++ told n place (ended_in dialogue past [])) (asked_silent n place past d r) ∙ quiet.ends [])

  cancel_quiet : (id : ℤ) (o : Option ℕ) → pending dialogue id past ≡ o
      → told_by_answer n place (Event.on_dialogue dialogue (Request.component (ComponentRequest.u_cancel id)))
      (given_up_answer o) ≡ []
  cancel_quiet id None q = refl
  cancel_quiet id (Some m) q = let other = quiet.cancels id m q in rw other refl

module _ (n : ℕ) (place : Past) (h : History) (dialogue : ℕ) (quiet : IsQuiet n place h.pairs dialogue) where
  accepted_quiet : (state : State) (context : Option (List ℕ)) (r : Request)
      → told_by_answer n place (Event.on_dialogue dialogue r)
      (accepted_answer h (standing_of dialogue h.pairs state context) r) ≡ []
  accepted_quiet state context (Request.component (ComponentRequest.invoke id class code parameter linked timeout)) =
      refl
  accepted_quiet state context (Request.component (ComponentRequest.result_last id body)) = refl
  accepted_quiet state context (Request.component (ComponentRequest.result_more id body)) = refl
  accepted_quiet state context (Request.component (ComponentRequest.error_back id code parameter)) = refl
  accepted_quiet state context (Request.component (ComponentRequest.u_reject id problem)) = refl
  accepted_quiet state context (Request.component (ComponentRequest.u_cancel id)) =
      cancel_quiet n place h.pairs dialogue quiet id (pending dialogue id h.pairs) refl
  accepted_quiet state context (Request.dialogue (DialogueRequest.uni to asked info)) =
      last_quiet n place h.pairs dialogue quiet (standing_of dialogue h.pairs state context)
      (Request.dialogue (DialogueRequest.uni to asked info))
  accepted_quiet state context (Request.dialogue (DialogueRequest.begin to asked info)) =
      asked_silent n place h.pairs (standing_of dialogue h.pairs state context)
      (Request.dialogue (DialogueRequest.begin to asked info))
  accepted_quiet state context (Request.dialogue (DialogueRequest.go_on asked info)) =
      asked_silent n place h.pairs (standing_of dialogue h.pairs state context)
      (Request.dialogue (DialogueRequest.go_on asked info))
  accepted_quiet state context (Request.dialogue (DialogueRequest.finish ending asked info)) =
      last_quiet n place h.pairs dialogue quiet (standing_of dialogue h.pairs state context)
      (Request.dialogue (DialogueRequest.finish ending asked info))
  accepted_quiet state context (Request.dialogue (DialogueRequest.u_abort why info)) =
      last_quiet n place h.pairs dialogue quiet (standing_of dialogue h.pairs state context)
      (Request.dialogue (DialogueRequest.u_abort why info))

  pub request_quiet : (r : Request) (l : Life) (f : Option Fault)
      → told_by_answer n place (Event.on_dialogue dialogue r) (request_answer h dialogue r l f) ≡ []
  request_quiet r l (Some f) = refl
  request_quiet r Life.unborn None = refl
  request_quiet r Life.over None = refl
  request_quiet r (Life.standing state context) None = accepted_quiet state context r
