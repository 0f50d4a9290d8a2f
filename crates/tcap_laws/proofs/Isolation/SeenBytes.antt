-- Received bytes that name a dialogue are answered by what the dialogue sees.
use Rattle.std.proofs.Common.{◌≡◌, ℕ, true, false, Bool, ◌==◌, List, [], ◌∷◌, ◌++◌, length, nat_le, is_some, Option, Some, None, Result, Ok, Err, if◌then◌else◌, refl, sym, ap, subst, ◌∙◌, inl, inr}
use Rattle.std.proofs.lemmas.Bool.{cases_Bool, leb-true, le-ltb, true≢false}
use Rattle.tcap_pdu.specs.declared.fault.FrameFault.{FrameFault}
use Rattle.tcap_pdu.specs.FrameReading.{frame_at}
use Rattle.tcap_pdu.specs.FrameSpelling.{Message}
use Rattle.tcap_pdu.specs.FrameWritten.{message_limit}
use Rattle.tcap_pdu.specs.Front.{front_at}
use Rattle.tcap_component.specs.ComponentReading.{components_of}
use Rattle.tcap_laws.proofs.Receptions.NamedReceptions.{that-is}
use Rattle.tcap_laws.proofs.Isolation.SeenLives.{only_life, only_kept}
use Rattle.tcap_laws.proofs.Isolation.SeenQueues.{only_handled}
use Rattle.tcap_laws.proofs.Isolation.SeenRequests.{only_ended}
use Rattle.tcap_model.specs.Procedures.AbortRules.{abort_told, abnormal_abort, message_sent, sent_if_any}
use Rattle.tcap_model.specs.Words.Answer.{Answer}
use Rattle.tcap_model.specs.Procedures.ComponentHandling.{told_of}
use Rattle.tcap_model.specs.Procedures.Destination.{destination, begins_addressed, destination_by}
use Rattle.tcap_model.specs.Replies.Due.{birth_due}
use Rattle.tcap_model.specs.Words.Event.{Event}
use Rattle.tcap_model.specs.Histories.History.{History}
use Rattle.tcap_model.specs.Statements.Isolation.{history_of, IsAlone}
use Rattle.tcap_model.specs.Replies.Legal.{IsLegal}
use Rattle.tcap_model.specs.Histories.Life.{Life, life, live_in}
use Rattle.tcap_model.specs.Words.LocalId.{dialogue_named}
use Rattle.tcap_model.specs.Histories.Names.{is_destined, named_within}
use Rattle.tcap_model.specs.Statements.Only.{only}
use Rattle.tcap_model.specs.Words.Output.{Output, AbortCause, DropCause, DialogueIndication}
use Rattle.tcap_model.specs.Procedures.PortionRules.{PortionVerdict, portion_verdict}
use Rattle.tcap_model.specs.Replies.Queue.{handled_in}
use Rattle.tcap_model.specs.Procedures.Reception.{Reception, live_named, addressed_if_any, continue_by, final_message_by, message_by, fault_abort, aborted_or_dropped, faulty_continue, faulty_last, fault_by, faulty, reading_by, reception}
use Rattle.tcap_model.specs.Replies.Reply.{continue_outputs, end_outputs, message_outputs, taken_outputs, reception_outputs, ended_in}
use Rattle.tcap_model.specs.Words.State.{State, peer_by, address_by}
use Rattle.tcap_model.specs.Words.Address.{Address}
use Rattle.tcap_laws.proofs.Receptions.BytesNames.{names_in}
use Rattle.tcap_model.specs.Histories.Kept.{kept_address}

-- ---- what becomes of the bytes

module _ (dialogue : ℕ) where
  -- nothing that another dialogue is told
  abbrev IsOf : Reception → Type 0
  IsOf (Reception.dropped why) = Unit {0}
  IsOf (Reception.aborted aborting) = Unit {0}
  IsOf (Reception.unidirectional context info components) = ⊥
  IsOf (Reception.begun origin context info components) = ⊥
  IsOf (Reception.taken named message) = named ≡ dialogue
  IsOf (Reception.broken named aborting cause) = named ≡ dialogue

  -- no other dialogue's identifier
  abbrev IsItsName : Option ℕ → Type 0
  IsItsName None = Unit {0}
  IsItsName (Some named) = named ≡ dialogue

  continue-of : (named : Option ℕ) (origin : List ℕ) (m : Message) → IsItsName named → IsOf (continue_by named origin m)
  continue-of None origin m is = tt
  continue-of (Some named) origin m is = is

  last-of : (named : Option ℕ) (m : Message) → IsItsName named → IsOf (final_message_by named m)
  last-of None m is = tt
  last-of (Some named) m is = is

  aborted-of : (aborting : Option Message) → IsOf (aborted_or_dropped aborting)
  aborted-of None = tt
  aborted-of (Some aborting) = tt

  faulty_continue-of : (named : Option ℕ) (aborting : Option Message) (f : FrameFault) → IsItsName named
      → IsOf (faulty_continue named aborting f)
  faulty_continue-of None aborting f is = aborted-of aborting
  faulty_continue-of (Some named) aborting f is = is

  faulty_last-of : (named : Option ℕ) (f : FrameFault) → IsItsName named → IsOf (faulty_last named f)
  faulty_last-of None f is = tt
  faulty_last-of (Some named) f is = is

  either-of : (test : Bool) (x y : Reception) → IsOf x → IsOf y → IsOf (if test then x else y)
  either-of true x y p q = p
  either-of false x y p q = q

  fault-of : (first : ℕ) (named : Option ℕ) (aborting : Option Message) (f : FrameFault) → IsItsName named
      → IsOf (fault_by first named aborting f)
  fault-of first named aborting f is =
      either-of (first == 0x61) _ _ tt
      (either-of (first == 0x64) _ _ (faulty_last-of named f is)
      (either-of (first == 0x65) _ _ (faulty_continue-of named aborting f is)
      (either-of (first == 0x67) _ _ (faulty_last-of named f is) (aborted-of aborting))))

  module _ (live others : ℕ → Bool) (same : live dialogue ≡ others dialogue) (full filled : Bool) where
    its_name : (b : Bool) → IsItsName (if b then Some dialogue else None)
    its_name true = refl
    its_name false = tt

    named-same : (to : Option (List ℕ)) → is_destined dialogue to ≡ true
        → (addressed_if_any live to ≡ addressed_if_any others to) × IsItsName (addressed_if_any live to)
    named-same None is = absurd (true≢false (sym is))
    named-same (Some octets) is =
        let named = that-is dialogue (dialogue_named octets) is in (
          ap (live_named live) named ∙ (ap (λ b. if b then Some dialogue else None) same
              ∙ sym (ap (live_named others) named)),
          subst IsItsName (sym (ap (live_named live) named)) (its_name (live dialogue)),
        )

    abbrev AreSame : Reception → Reception → Type 0
    AreSame r s = (r ≡ s) × IsOf r

    message-same : (m : Message) → is_destined dialogue (destination m) ≡ true
        → AreSame (message_by live full m) (message_by others filled m)
    message-same (Message.unidirectional portion components) is = absurd (true≢false (sym is))
    message-same (Message.begin origin portion components) is = absurd (true≢false (sym is))
    message-same (Message.go_on origin to portion components) is =
        let n = named-same (Some to) is in (
          ap (λ o. continue_by o origin (Message.go_on origin to portion components)) n.0,
          continue-of (addressed_if_any live (Some to)) origin (Message.go_on origin to portion components) n.1,
        )
    message-same (Message.end to portion components) is =
        let n = named-same (Some to) is in (
          ap (λ o. final_message_by o (Message.end to portion components)) n.0,
          last-of (addressed_if_any live (Some to)) (Message.end to portion components) n.1,
        )
    message-same (Message.abort to reason) is =
        let n = named-same (Some to) is in (
          ap (λ o. final_message_by o (Message.abort to reason)) n.0,
          last-of (addressed_if_any live (Some to)) (Message.abort to reason) n.1,
        )

    faulty-same : (bytes : List ℕ) (f : FrameFault) → is_destined dialogue (destination_by bytes (Err f)) ≡ true
        → AreSame (faulty live bytes f) (faulty others bytes f)
    faulty-same [] f is = absurd (true≢false (sym is))
    faulty-same (first ∷ bytes) f is = elim (cases_Bool (begins_addressed (first ∷ bytes))) [
      | inl begins ↦ let is = is in
          let front = front_at (first ∷ bytes) in
          let to : is_destined dialogue front.1 ≡ true = rw begins at is in
          let n = named-same front.1 to in (
            ap (λ o. fault_by first o (fault_abort f front.0) f) n.0,
            fault-of first (addressed_if_any live front.1) (fault_abort f front.0) f n.1,
          )
      | inr not ↦ let is = is in let none : false ≡ true = rw not at is in absurd (true≢false (sym none))
    ]

    read-same : (bytes : List ℕ) (read : Result Message FrameFault)
        → is_destined dialogue (destination_by bytes read) ≡ true
        → AreSame (reading_by live full bytes read) (reading_by others filled bytes read)
    read-same bytes (Ok m) is = message-same m is
    read-same bytes (Err f) is = faulty-same bytes f is

    reception-same : (bytes : List ℕ) → names_in bytes dialogue ≡ true
        → AreSame (reception live full bytes) (reception others filled bytes)
    reception-same bytes named =
        let r = read-same bytes (frame_at bytes) destined in
        (whole live full ∙ (r.0 ∙ sym (whole others filled)), subst IsOf (sym (whole live full)) r.1)
      where
        by : (short : Bool) → named_within short dialogue bytes ≡ true → short ≡ true
        by true e = refl
        by false e = absurd (true≢false (sym e))

        within : nat_le (length bytes) message_limit ≡ true
        within = by (nat_le (length bytes) message_limit) named

        destined : is_destined dialogue (destination_by bytes (frame_at bytes)) ≡ true
        destined = sym (ap (λ b. named_within b dialogue bytes) within) ∙ named

        whole : (l : ℕ → Bool) (f : Bool) → reception l f bytes ≡ reading_by l f bytes (frame_at bytes)
        whole l f = ap (λ b. if b then Reception.dropped DropCause.too_long else reading_by l f bytes (frame_at bytes))
            (le-ltb message_limit (length bytes) (leb-true (length bytes) message_limit within))

-- ---- what is told

module _ (h : History) (dialogue : ℕ) (legal : IsLegal h) where
  handled-same : (content : List ℕ) → handled_in dialogue h.pairs content
      ≡ handled_in dialogue (only dialogue h.pairs) content
  handled-same content = sym (only_handled h.start dialogue h.pairs legal.1 content)

  continue-same : (state : State) (from : Address) (origin components : List ℕ) (verdict : PortionVerdict)
      → continue_outputs dialogue h.pairs state from origin components verdict
      ≡ continue_outputs dialogue (only dialogue h.pairs) state from origin components verdict
  continue-same state from origin components (PortionVerdict.normal context info) =
      ap (λ hs. Output.dialogue (DialogueIndication.go_on dialogue context info) ∷ told_of hs) (handled-same components)
  continue-same state from origin components PortionVerdict.abnormal =
      ap (λ (os : List Output). message_sent (address_by state (kept_address dialogue h.pairs) from)
      (abnormal_abort (peer_by state origin))
      ∷ Output.dialogue (DialogueIndication.p_abort dialogue AbortCause.abnormal) ∷ os)
      (sym (only_ended h.start dialogue h.pairs legal.1 []))
      ∙ ap (λ (kept : Address). message_sent (address_by state kept from) (abnormal_abort (peer_by state origin))
      ∷ Output.dialogue (DialogueIndication.p_abort dialogue AbortCause.abnormal)
      ∷ ended_in dialogue (only dialogue h.pairs) []) (sym (only_kept dialogue h.pairs))

  end-same : (components : List ℕ) (verdict : PortionVerdict)
      → end_outputs dialogue h.pairs components verdict
      ≡ end_outputs dialogue (only dialogue h.pairs) components verdict
  end-same components (PortionVerdict.normal context info) =
      ap (λ hs. Output.dialogue (DialogueIndication.end dialogue context info) ∷ told_of hs
      ++ ended_in dialogue h.pairs (components_of components)) (handled-same components)
      ∙ ap (λ os. Output.dialogue (DialogueIndication.end dialogue context info)
      ∷ told_of (handled_in dialogue (only dialogue h.pairs) components) ++ os)
      (sym (only_ended h.start dialogue h.pairs legal.1 (components_of components)))
  end-same components PortionVerdict.abnormal =
      ap (λ (os : List Output). Output.dialogue (DialogueIndication.p_abort dialogue AbortCause.abnormal) ∷ os)
      (sym (only_ended h.start dialogue h.pairs legal.1 []))

  outputs-same : (state : State) (context : Option (List ℕ)) (from : Address) (m : Message)
      → message_outputs dialogue h.pairs state context from m
      ≡ message_outputs dialogue (only dialogue h.pairs) state context from m
  outputs-same state context from (Message.go_on origin to portion components) =
      continue-same state from origin components (portion_verdict state context portion)
  outputs-same state context from (Message.end to portion components) =
      end-same components (portion_verdict state context portion)
  outputs-same state context from (Message.abort to reason) =
      ap (λ (os : List Output). abort_told dialogue reason ∷ os) (sym (only_ended h.start dialogue h.pairs legal.1 []))
  outputs-same state context from (Message.unidirectional portion components) = refl
  outputs-same state context from (Message.begin origin portion components) = refl

  taken-same : (l : Life) (from : Address) (m : Message) → taken_outputs dialogue h.pairs l from m
      ≡ taken_outputs dialogue (only dialogue h.pairs) l from m
  taken-same Life.unborn from m = refl
  taken-same (Life.standing state context) from m = outputs-same state context from m
  taken-same Life.over from m = refl

  told-same : (from : Address) (r : Reception) → IsOf dialogue r
      → reception_outputs h from r ≡ reception_outputs (history_of dialogue h) from r
  told-same from (Reception.dropped why) is = refl
  told-same from (Reception.aborted aborting) is = refl
  told-same from (Reception.unidirectional context info components) is = absurd is
  told-same from (Reception.begun origin context info components) is = absurd is
  told-same from (Reception.taken named message) is =
      subst (λ d. reception_outputs h from (Reception.taken d message)
      ≡ reception_outputs (history_of dialogue h) from (Reception.taken d message)) (sym is)
      (taken-same (life dialogue h.pairs) from message
      ∙ ap (λ l. taken_outputs dialogue (only dialogue h.pairs) l from message)
      (sym (only_life dialogue h.pairs)))
  told-same from (Reception.broken named aborting cause) is =
      subst (λ d. reception_outputs h from (Reception.broken d aborting cause)
      ≡ reception_outputs (history_of dialogue h) from (Reception.broken d aborting cause)) (sym is)
      (ap (λ (os : List Output). sent_if_any from aborting
      ++ Output.dialogue (DialogueIndication.p_abort dialogue (AbortCause.cause cause)) ∷ os)
      (sym (only_ended h.start dialogue h.pairs legal.1 [])))

  pub alone-bytes : (from : Address) (bytes : List ℕ) → names_in bytes dialogue ≡ true
      → IsAlone h dialogue (Event.received from bytes)
  alone-bytes from bytes named =
      let live : ℕ → Bool = λ d. live_in (life d h.pairs) in
      let others : ℕ → Bool = λ d. live_in (life d (only dialogue h.pairs)) in
      let r = reception-same dialogue live others (ap live_in (sym (only_life dialogue h.pairs)))
      (is_some (birth_due h)) (is_some (birth_due (history_of dialogue h))) bytes named in
      ap Answer.outputs (told-same from (reception live (is_some (birth_due h)) bytes) r.1
      ∙ ap (reception_outputs (history_of dialogue h) from) r.0)
