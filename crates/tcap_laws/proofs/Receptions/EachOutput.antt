-- A property of all that a reply to received bytes sends and tells, shown once for all replies.
use Rattle.std.proofs.Common.{◌≡◌, ℕ, ℤ, true, false, Bool, List, [], ◌∷◌, ◌++◌, filter_map, ◌==◌, ◌&&◌, is_none, is_some, Option, Some, None, Result, Ok, Err, if◌then◌else◌, refl, subst}
use Rattle.std.specs.List.{AllByRecursion, cons_option}
use Rattle.tcap_pdu.specs.DialogueReading.{dialogue_at}
use Rattle.tcap_pdu.specs.DialogueSpelling.{PduValue}
use Rattle.tcap_pdu.specs.DialogueSpelling.PduValue.{aarq, audt, aare, abrt, foreign}
use Rattle.tcap_pdu.specs.declared.fault.DialogueFault.{DialogueFault}
use Rattle.tcap_pdu.specs.FrameSpelling.{Message, Reason, SpellsFrame}
use Rattle.tcap_pdu.proofs.CallerLemmas.{frame_takes}
use Rattle.tcap_component.specs.ComponentReading.{components_of}
use Rattle.tcap_model.specs.Histories.Birth.{next_dialogue, first_begun}
use Rattle.tcap_model.specs.Histories.History.{History}
use Rattle.tcap_model.specs.Histories.Life.{Life, life, live_in}
use Rattle.tcap_model.specs.Words.Address.{Address}
use Rattle.tcap_model.specs.Histories.Pair.{Past}
use Rattle.tcap_model.specs.Invocations.Invocation.{Invocation, invocations}
use Rattle.tcap_model.specs.Invocations.Outcome.{first_closing}
use Rattle.tcap_model.specs.Procedures.AbortRules.{message_sent, sent_if_any, is_no_common, portion_told, abort_told}
use Rattle.tcap_model.specs.Procedures.ComponentHandling.{Item, Handled, handled, told_of}
use Rattle.tcap_model.specs.Procedures.PortionRules.{PortionVerdict, portion_verdict}
use Rattle.tcap_model.specs.Procedures.Reception.{Reception, reception}
use Rattle.tcap_model.specs.Replies.Due.{birth_due}
use Rattle.tcap_model.specs.Replies.Queue.{handled_in}
use Rattle.tcap_model.specs.Replies.Reply.{ended_of, ended_in, continue_outputs, end_outputs, message_outputs, taken_outputs, reception_outputs, reply}
use Rattle.tcap_model.specs.Statements.Places.{Tells}
use Rattle.tcap_model.specs.Words.Answer.{Answer}
use Rattle.tcap_model.specs.Words.Event.{Event}
use Rattle.tcap_model.specs.Words.Output.{Output, Closing, AbortCause, DropCause, ComponentIndication, DialogueIndication}
use Rattle.tcap_model.specs.Words.State.{State}
use Rattle.tcap_laws.proofs.Receptions.BytesNames.{names_in}
use Rattle.tcap_laws.proofs.Receptions.EachComponent.{IsReadIn, OfEach, each-told, each-uni}
use Rattle.tcap_laws.proofs.Receptions.NamedReceptions.{IsNamed, reception-named}
use Rattle.tcap_laws.proofs.Receptions.SoundReceptions.{IsSound, reception-sound}
use Rattle.tcap_laws.proofs.ListLemmas.{each-append, one-of}
use Rattle.tcap_model.specs.Invocations.SentThere.{marks_up_to}
use Rattle.tcap_model.specs.Statements.ComponentPortion.{portion_of}

-- ---- the end of a dialogue, and its Abort

abbrev pub told_ended : ℕ → ℕ → ℤ → Output
told_ended dialogue number id = Output.component (ComponentIndication.closed dialogue number id Closing.ended)

abbrev pub told_p_abort : ℕ → AbortCause → Output
told_p_abort dialogue why = Output.dialogue (DialogueIndication.p_abort dialogue why)

abbrev pub told_u_abort : ℕ → Option PduValue → Output
told_u_abort dialogue pdu = Output.dialogue (DialogueIndication.u_abort dialogue pdu)

module _ (P : Output → Type 0) where
  pub each-ended : ((dialogue number : ℕ) (id : ℤ) → P (told_ended dialogue number id))
      → (dialogue : ℕ) (past : Past) (components : List Item) → AllByRecursion P (ended_in dialogue past components)
  each-ended ends dialogue past components = go (invocations past)
    where
      one : (i : Invocation) (others : List Output) (test : Bool) → AllByRecursion P others
          → AllByRecursion P (cons_option (if test then Some (told_ended dialogue i.number i.id) else None) others)
      one i others true all = (ends dialogue i.number i.id, all)
      one i others false all = all

      still_open : Invocation → Bool
      still_open i = is_none (first_closing i.class i.timeout (marks_up_to past components i))

      go : (is : List Invocation) → AllByRecursion P (filter_map (ended_of dialogue past components) is)
      go [] = tt
      go (i ∷ is) =
          one i (filter_map (ended_of dialogue past components) is) ((i.dialogue == dialogue) && still_open i) (go is)

  module _ (by_user : (dialogue : ℕ) (pdu : Option PduValue) → P (told_u_abort dialogue pdu))
      (by_provider : (dialogue : ℕ) (why : AbortCause) → P (told_p_abort dialogue why)) where
    of-portion : (dialogue : ℕ) (read : Result PduValue DialogueFault) → P (portion_told dialogue read)
    of-portion dialogue (Ok (abrt true info)) = by_provider dialogue AbortCause.abnormal
    of-portion dialogue (Ok (abrt false info)) = by_user dialogue (Some (abrt false info))
    of-portion dialogue (Ok (foreign external)) = by_user dialogue (Some (foreign external))
    of-portion dialogue (Ok (aare version1 context true diagnostic info)) = by_provider dialogue AbortCause.abnormal
    of-portion dialogue (Ok (aare version1 context false diagnostic info)) = chosen (is_no_common diagnostic)
      where
        pdu : Option PduValue
        pdu = Some (aare version1 context false diagnostic info)

        chosen : (test : Bool)
            → P (if test then told_p_abort dialogue AbortCause.no_common else told_u_abort dialogue pdu)
        chosen true = by_provider dialogue AbortCause.no_common
        chosen false = by_user dialogue pdu
    of-portion dialogue (Ok (aarq version1 context info)) = by_provider dialogue AbortCause.abnormal
    of-portion dialogue (Ok (audt version1 context info)) = by_provider dialogue AbortCause.abnormal
    of-portion dialogue (Err f) = by_provider dialogue AbortCause.abnormal

    pub of-abort : (dialogue : ℕ) (reason : Reason) → P (abort_told dialogue reason)
    of-abort dialogue Reason.nothing = by_user dialogue None
    of-abort dialogue (Reason.cause n) = by_provider dialogue (AbortCause.cause n)
    of-abort dialogue (Reason.portion content) = of-portion dialogue (dialogue_at content)

-- ---- received bytes

-- the property holds of all that is no indication of a component
pub record HoldsBesides (P : Output → Type 0) : Type 0 where
  pub sends : (to : Address) (bytes : List ℕ) → P (Output.send to bytes)
  pub tells : (indication : DialogueIndication) → P (Output.dialogue indication)
  pub ends : (dialogue number : ℕ) (id : ℤ) → P (told_ended dialogue number id)
  pub drops : (why : DropCause) → P (Output.dropped why)

-- and of what each component of a message tells: in a Unidirectional, in a dialogue that the bytes name,
-- and in one that they create
pub record HoldsOfEach (P : Output → Type 0) (h : History) (from : Address) (bytes : List ℕ)
    (r : Reception) : Type 0 where
  pub of_uni : (m : Message) → SpellsFrame m bytes → (item : Item) → IsReadIn (portion_of m) item
      → P (handled None None item).told
  pub of_named : (m : Message) → SpellsFrame m bytes → (dialogue : ℕ) → names_in bytes dialogue ≡ true
      → OfEach dialogue h.pairs (portion_of m) (λ (c : Handled). P c.told)
  pub of_born : (m : Message) → SpellsFrame m bytes → first_begun (reception_outputs h from r) ≡ Some (next_dialogue h)
      → OfEach (next_dialogue h) h.pairs (portion_of m) (λ (c : Handled). P c.told)

module _ (P : Output → Type 0) (besides : HoldsBesides P) (from : Address) (bytes : List ℕ) where
  of-sent : (aborting : Message) → P (message_sent from aborting)
  of-sent aborting = besides.sends _ _

  module _ (dialogue : ℕ) (past : Past) where
    of-ended : (components : List Item) → AllByRecursion P (ended_in dialogue past components)
    of-ended components = each-ended P besides.ends dialogue past components

    module _ (of_each : (m : Message) → SpellsFrame m bytes
        → OfEach dialogue past (portion_of m) (λ (c : Handled). P c.told)) where
      of-told : (m : Message) → SpellsFrame m bytes
          → AllByRecursion P (told_of (handled_in dialogue past (portion_of m)))
      of-told m spelled = each-told dialogue past (portion_of m) P (of_each m spelled)

      of-message : (state : State) (context : Option (List ℕ)) (m : Message) → SpellsFrame m bytes
          → AllByRecursion P (message_outputs dialogue past state context from m)
      of-message state context (Message.go_on origin to portion components) spelled =
          go (portion_verdict state context portion)
        where
          go : (verdict : PortionVerdict)
              → AllByRecursion P (continue_outputs dialogue past state from origin components verdict)
          go (PortionVerdict.normal told info) =
              (besides.tells _, of-told (Message.go_on origin to portion components) spelled)
          go PortionVerdict.abnormal = (besides.sends _ _, (besides.tells _, of-ended []))
      of-message state context (Message.end to portion components) spelled = go (portion_verdict state context portion)
        where
          go : (verdict : PortionVerdict) → AllByRecursion P (end_outputs dialogue past components verdict)
          go (PortionVerdict.normal told info) = (
            besides.tells _,
            each-append P (told_of (handled_in dialogue past components))
                (ended_in dialogue past (components_of components))
                (of-told (Message.end to portion components) spelled) (of-ended (components_of components)),
          )
          go PortionVerdict.abnormal = (besides.tells _, of-ended [])
      of-message state context (Message.abort to reason) spelled =
          (of-abort P (λ d pdu. besides.tells _) (λ d why. besides.tells _) dialogue reason, of-ended [])
      of-message state context (Message.unidirectional portion components) spelled = tt
      of-message state context (Message.begin origin portion components) spelled = tt

      of-taken : (before : Life) (m : Message) → SpellsFrame m bytes
          → AllByRecursion P (taken_outputs dialogue past before from m)
      of-taken Life.unborn m spelled = tt
      of-taken (Life.standing state context) m spelled = of-message state context m spelled
      of-taken Life.over m spelled = tt

    of-broken : (cause : ℕ) (aborting : Option Message)
        → AllByRecursion P
        (sent_if_any from aborting ++ told_p_abort dialogue (AbortCause.cause cause) ∷ ended_in dialogue past [])
    of-broken cause None = (besides.tells _, of-ended [])
    of-broken cause (Some aborting) = (of-sent aborting, (besides.tells _, of-ended []))

  module _ (h : History) where
    of-reception : (full : Bool) (live : ℕ → Bool) (r : Reception) → IsSound full bytes r → IsNamed live bytes r
        → HoldsOfEach P h from bytes r → AllByRecursion P (reception_outputs h from r)
    of-reception full live (Reception.dropped why) sound named each = (besides.drops why, tt)
    of-reception full live (Reception.aborted aborting) sound named each = (of-sent aborting, tt)
    of-reception full live (Reception.unidirectional context info components) sound named each =
        let m = Message.unidirectional sound.0 components in
        (besides.tells _, each-uni P components (each.of_uni m (frame_takes bytes m sound.1)))
    of-reception full live (Reception.begun origin context info components) sound named each =
        let m = Message.begin origin sound.0 components in (
          besides.tells _,
          each-told (next_dialogue h) h.pairs components P
              (each.of_born m (frame_takes bytes m sound.1) refl),
        )
    of-reception full live (Reception.taken dialogue message) sound named each =
        of-taken dialogue h.pairs (λ m spelled. each.of_named m spelled dialogue named.0) (life dialogue h.pairs)
        message (frame_takes bytes message sound)
    of-reception full live (Reception.broken dialogue aborting cause) sound named each =
        of-broken dialogue h.pairs cause aborting

-- what becomes of the bytes at a history
abbrev pub received_at : History → List ℕ → Reception
received_at h bytes = reception (λ (dialogue : ℕ). live_in (life dialogue h.pairs)) (is_some (birth_due h)) bytes

module _ (P : Output → Type 0) (besides : HoldsBesides P) (h : History) (from : Address) (bytes : List ℕ)
    (each : HoldsOfEach P h from bytes (received_at h bytes)) where
  pub each-received : AllByRecursion P (reception_outputs h from (received_at h bytes))
  each-received =
      let live = λ (dialogue : ℕ). live_in (life dialogue h.pairs) in
      let full = is_some (birth_due h) in
      of-reception P besides from bytes h full live (received_at h bytes) (reception-sound live full bytes)
      (reception-named live full bytes) each

  pub one-received : (output : Output) → Tells (reply h (Event.received from bytes)) output → P output
  one-received output tells =
      let whole = tells.earlier ++ output ∷ tells.later in
      let is : Answer.outputs (reception_outputs h from (received_at h bytes)) ≡ Answer.outputs whole =
      tells.is_answer in
      let same : reception_outputs h from (received_at h bytes) ≡ whole = cc in
      one-of P tells.earlier tells.later output (subst (AllByRecursion P) same each-received)
