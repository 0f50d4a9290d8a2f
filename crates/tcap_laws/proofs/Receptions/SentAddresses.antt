-- To where the answers to requests and to received bytes are sent.
use Rattle.std.proofs.Common.{◌≡◌, ◌⊎◌, ℕ, true, List, [], ◌∷◌, ◌++◌, is_some, Option, Some, None, refl, sym, subst, inl, inr}
use Rattle.std.specs.List.{AllByRecursion}
use Rattle.std.proofs.lemmas.Bool.{true≢false}
use Rattle.tcap_component.specs.ComponentReading.{components_of}
use Rattle.tcap_model.specs.Histories.Birth.{next_dialogue}
use Rattle.tcap_model.specs.Histories.Pair.{Past}
use Rattle.tcap_model.specs.Procedures.ComponentHandling.{Item, told_of, uni_told}
use Rattle.tcap_model.specs.Procedures.PortionRules.{PortionVerdict, portion_verdict}
use Rattle.tcap_model.specs.Procedures.Reception.{Reception, reception}
use Rattle.tcap_model.specs.Replies.Queue.{handled_in}
use Rattle.tcap_model.specs.Words.State.{State, is_live, address_by}
use Rattle.tcap_laws.proofs.Receptions.BytesNames.{names_in}
use Rattle.tcap_laws.proofs.Receptions.NamedReceptions.{IsNamed, reception-named}
use Rattle.tcap_pdu.specs.FrameSpelling.{Message}
use Rattle.tcap_model.specs.Histories.History.{History}
use Rattle.tcap_model.specs.Histories.Kept.{kept_address}
use Rattle.tcap_model.specs.Histories.Life.{Life, life, live_in}
use Rattle.tcap_model.specs.Procedures.AbortRules.{abort_told, sent_if_any}
use Rattle.tcap_model.specs.Procedures.RequestMessage.{message_of, request_address}
use Rattle.tcap_model.specs.Procedures.Standing.{Standing}
use Rattle.tcap_model.specs.Replies.Due.{birth_due, due, standing_of}
use Rattle.tcap_model.specs.Replies.Held.{pending}
use Rattle.tcap_model.specs.Replies.Reply.{reply, ended_in, request_sent, given_up_answer, accepted_answer, request_answer, continue_outputs, end_outputs, taken_outputs, reception_outputs}
use Rattle.tcap_model.specs.Statements.Places.{Tells}
use Rattle.tcap_model.specs.Words.Address.{Address}
use Rattle.tcap_model.specs.Words.Answer.{Answer}
use Rattle.tcap_model.specs.Words.Event.{Event}
use Rattle.tcap_model.specs.Words.Fault.{Fault}
use Rattle.tcap_model.specs.Words.Output.{Output, AbortCause, DialogueIndication}
use Rattle.tcap_model.specs.Words.Request.{Request, ComponentRequest, DialogueRequest}
use Rattle.tcap_laws.proofs.ListLemmas.{each-append, one-of}
use Rattle.tcap_laws.proofs.Receptions.ToldOutputKinds.{IsTold, AreTold, abort-told, components-told, ended-told, uni-told}

module _ (P : Address → Type 0) where
  -- what is sent goes to an address with this property
  abbrev Goes : Output → Type 0
  Goes (Output.send to bytes) = P to
  Goes (Output.dialogue indication) = Unit {0}
  Goes (Output.component indication) = Unit {0}
  Goes (Output.dropped why) = Unit {0}

  abbrev AllGo : List Output → Type 0
  AllGo outputs = AllByRecursion Goes outputs

  -- the same of an answer
  abbrev AnswerGoes : Answer → Type 0
  AnswerGoes (Answer.new_dialogue dialogue) = Unit {0}
  AnswerGoes (Answer.number n) = Unit {0}
  AnswerGoes Answer.done = Unit {0}
  AnswerGoes (Answer.given_up n) = Unit {0}
  AnswerGoes (Answer.outputs outputs) = AllGo outputs
  AnswerGoes (Answer.refused fault) = Unit {0}

  one-goes : (answer : Answer) (to : Address) (bytes : List ℕ) → AnswerGoes answer → Tells answer (Output.send to bytes)
      → P to
  one-goes answer to bytes goes tells =
      one-of Goes tells.earlier tells.later (Output.send to bytes)
      (subst (λ (a : Answer). AnswerGoes a) tells.is_answer goes)

  told-goes : (output : Output) → IsTold output → Goes output
  told-goes (Output.send to bytes) told = absurd told
  told-goes (Output.dialogue indication) told = tt
  told-goes (Output.component indication) told = tt
  told-goes (Output.dropped why) told = tt

  told-go : (outputs : List Output) → AreTold outputs → AllGo outputs
  told-go [] told = tt
  told-go (output ∷ outputs) told = (told-goes output told.0, told-go outputs told.1)

  sent-goes : (to : Address) (message : Option Message) → P to → AllGo (sent_if_any to message)
  sent-goes to None goes = tt
  sent-goes to (Some m) goes = (goes, tt)

  cancel-goes : (number : Option ℕ) → AnswerGoes (given_up_answer number)
  cancel-goes None = tt
  cancel-goes (Some n) = tt

-- ---- requests

-- to where the message of a request goes
abbrev IsOfRequest : ℕ → Past → Request → Address → Type 0
IsOfRequest dialogue past request to = to ≡ request_address (kept_address dialogue past) request

module _ (h : History) (d : Standing) where
  abbrev Its : Request → Address → Type 0
  Its request to = IsOfRequest d.identifier h.pairs request to

  asked-goes : (request : Request) → AllGo (Its request) (request_sent h.pairs d request)
  asked-goes request =
      sent-goes (Its request) (request_address (kept_address d.identifier h.pairs) request) (message_of d request) refl

  last-goes : (request : Request)
      → AllGo (Its request) (request_sent h.pairs d request ++ ended_in d.identifier h.pairs [])
  last-goes request =
      let ended = ended_in d.identifier h.pairs [] in
      each-append (Goes (Its request)) (request_sent h.pairs d request) ended (asked-goes request)
      (told-go (Its request) ended (ended-told d.identifier h.pairs []))

  accepted-goes : (request : Request) → AnswerGoes (Its request) (accepted_answer h d request)
  accepted-goes (Request.component (ComponentRequest.invoke id class code parameter linked timeout)) = tt
  accepted-goes (Request.component (ComponentRequest.result_last id body)) = tt
  accepted-goes (Request.component (ComponentRequest.result_more id body)) = tt
  accepted-goes (Request.component (ComponentRequest.error_back id code parameter)) = tt
  accepted-goes (Request.component (ComponentRequest.u_reject id problem)) = tt
  accepted-goes (Request.component (ComponentRequest.u_cancel id)) =
      cancel-goes (Its (Request.component (ComponentRequest.u_cancel id))) (pending d.identifier id h.pairs)
  accepted-goes (Request.dialogue (DialogueRequest.uni to context info)) =
      last-goes (Request.dialogue (DialogueRequest.uni to context info))
  accepted-goes (Request.dialogue (DialogueRequest.begin to context info)) =
      asked-goes (Request.dialogue (DialogueRequest.begin to context info))
  accepted-goes (Request.dialogue (DialogueRequest.go_on context info)) =
      asked-goes (Request.dialogue (DialogueRequest.go_on context info))
  accepted-goes (Request.dialogue (DialogueRequest.finish ending context info)) =
      last-goes (Request.dialogue (DialogueRequest.finish ending context info))
  accepted-goes (Request.dialogue (DialogueRequest.u_abort why info)) =
      last-goes (Request.dialogue (DialogueRequest.u_abort why info))

request-goes : (h : History) (dialogue : ℕ) (request : Request) (before : Life) (fault : Option Fault)
    → AnswerGoes (IsOfRequest dialogue h.pairs request)
    (request_answer h dialogue request before fault)
request-goes h dialogue request before (Some f) = tt
request-goes h dialogue request Life.unborn None = tt
request-goes h dialogue request Life.over None = tt
request-goes h dialogue request (Life.standing state context) None =
    accepted-goes h (standing_of dialogue h.pairs state context) request

-- what answers a request goes to where the request says, or to the address that its dialogue keeps
pub request-goes_to : (h : History) (dialogue : ℕ) (request : Request) (to : Address) (bytes : List ℕ)
    → Tells (reply h (Event.on_dialogue dialogue request)) (Output.send to bytes)
    → to ≡ request_address (kept_address dialogue h.pairs) request
request-goes_to h dialogue request to bytes tells =
    one-goes (IsOfRequest dialogue h.pairs request) (reply h (Event.on_dialogue dialogue request)) to
    bytes (request-goes h dialogue request (life dialogue h.pairs) (due h dialogue request)) tells

-- ---- received bytes

-- bytes reach a dialogue that is Active, and this is the address of its peer
abbrev IsOfActive : History → List ℕ → Address → Type 0
IsOfActive h bytes to =
    (dialogue : ℕ) × (peer : List ℕ) × (context : Option (List ℕ)) × (names_in bytes dialogue ≡ true)
    × (life dialogue h.pairs ≡ Life.standing (State.active peer) context) × (to ≡ kept_address dialogue h.pairs)

module _ (h : History) (from : Address) (bytes : List ℕ) where
  -- the sender of the bytes, or that address
  abbrev Back : Address → Type 0
  Back to = (to ≡ from) ⊎ IsOfActive h bytes to

  module _ (dialogue : ℕ) where
    ended-go : (items : List Item) → AllGo Back (ended_in dialogue h.pairs items)
    ended-go items = told-go Back (ended_in dialogue h.pairs items) (ended-told dialogue h.pairs items)

    state-goes : (state : State) (context : Option (List ℕ)) → names_in bytes dialogue ≡ true → is_live state ≡ true
        → life dialogue h.pairs ≡ Life.standing state context
        → Back (address_by state (kept_address dialogue h.pairs) from)
    state-goes State.fresh context named live lives = absurd (true≢false (sym live))
    state-goes State.sent context named live lives = inl refl
    state-goes (State.received peer) context named live lives = absurd (true≢false (sym live))
    state-goes (State.active peer) context named live lives = inr (dialogue, peer, context, named, lives, refl)

    continue-goes : (state : State) (context : Option (List ℕ)) (origin components : List ℕ) (verdict : PortionVerdict)
        → names_in bytes dialogue ≡ true → is_live state ≡ true → life dialogue h.pairs ≡ Life.standing state context
        → AllGo Back (continue_outputs dialogue h.pairs state from origin components verdict)
    continue-goes state context origin components (PortionVerdict.normal given info) named live lives = (
      tt,
      told-go Back (told_of (handled_in dialogue h.pairs components)) (components-told dialogue h.pairs components),
    )
    continue-goes state context origin components PortionVerdict.abnormal named live lives =
        (state-goes state context named live lives, (tt, ended-go []))

    end-goes : (components : List ℕ) (verdict : PortionVerdict)
        → AllGo Back (end_outputs dialogue h.pairs components verdict)
    end-goes components (PortionVerdict.normal given info) =
        let told = told_of (handled_in dialogue h.pairs components) in
        let ended = ended_in dialogue h.pairs (components_of components) in (
          tt,
          each-append (Goes Back) told ended (told-go Back told (components-told dialogue h.pairs components))
              (ended-go (components_of components)),
        )
    end-goes components PortionVerdict.abnormal = (tt, ended-go [])

    taken-goes : (before : Life) (m : Message) → names_in bytes dialogue ≡ true → live_in before ≡ true
        → life dialogue h.pairs ≡ before → AllGo Back (taken_outputs dialogue h.pairs before from m)
    taken-goes Life.unborn m named live lives = tt
    taken-goes Life.over m named live lives = tt
    taken-goes (Life.standing state context) (Message.go_on origin to portion components) named live lives =
        continue-goes state context origin components (portion_verdict state context portion) named live lives
    taken-goes (Life.standing state context) (Message.end to portion components) named live lives =
        end-goes components (portion_verdict state context portion)
    taken-goes (Life.standing state context) (Message.abort to reason) named live lives =
        (told-goes Back (abort_told dialogue reason) (abort-told dialogue reason), ended-go [])
    taken-goes (Life.standing state context) (Message.unidirectional portion components) named live lives = tt
    taken-goes (Life.standing state context) (Message.begin origin portion components) named live lives = tt

  reception-goes : (r : Reception) → IsNamed (λ dialogue. live_in (life dialogue h.pairs)) bytes r
      → AllGo Back (reception_outputs h from r)
  reception-goes (Reception.dropped why) named = (tt, tt)
  reception-goes (Reception.aborted aborting) named = (inl refl, tt)
  reception-goes (Reception.unidirectional context info components) named =
      (tt, told-go Back (uni_told (components_of components)) (uni-told (components_of components)))
  reception-goes (Reception.begun origin context info components) named = (
    tt,
    told-go Back (told_of (handled_in (next_dialogue h) h.pairs components))
        (components-told (next_dialogue h) h.pairs components),
  )
  reception-goes (Reception.taken dialogue m) named =
      taken-goes dialogue (life dialogue h.pairs) m named.0 named.1 refl
  reception-goes (Reception.broken dialogue aborting cause) named =
      each-append (Goes Back) (sent_if_any from aborting)
      (Output.dialogue (DialogueIndication.p_abort dialogue (AbortCause.cause cause)) ∷ ended_in dialogue h.pairs [])
      (sent-goes Back from aborting (inl refl)) (tt, ended-go dialogue [])

-- what answers bytes goes back to their sender, but for an Abort to the peer of a dialogue that is Active
pub bytes-go_back : (h : History) (from : Address) (received : List ℕ) (to : Address) (bytes : List ℕ)
    → Tells (reply h (Event.received from received)) (Output.send to bytes)
    → (to ≡ from) ⊎ IsOfActive h received to
bytes-go_back h from received to bytes tells =
    let live = λ (dialogue : ℕ). live_in (life dialogue h.pairs) in
    let full = is_some (birth_due h) in
    one-goes (Back h from received) (reply h (Event.received from received)) to bytes
    (reception-goes h from received (reception live full received) (reception-named live full received)) tells
