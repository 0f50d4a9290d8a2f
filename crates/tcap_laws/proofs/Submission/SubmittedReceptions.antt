-- What received bytes submit for a dialogue is what they add to its queue.
use Rattle.std.proofs.Common.{◌≡◌, ℕ, ◌==◌, true, false, Bool, List, [], ◌∷◌, ◌++◌, is_some, Option, Some, None, Result, Ok, Err, if◌then◌else◌, refl, sym, ap, subst, ◌∙◌}
use Rattle.std.proofs.lemmas.Bool.{eqb-true, eq-eqb, true≢false}
use Rattle.tcap_pdu.specs.declared.fault.FrameFault.{FrameFault}
use Rattle.tcap_pdu.specs.FrameReading.{frame_at}
use Rattle.tcap_pdu.specs.FrameSpelling.{Message}
use Rattle.tcap_component.specs.ComponentReading.{components_of}
use Rattle.tcap_model.specs.Procedures.AbortRules.{abort_told, message_sent, sent_if_any}
use Rattle.tcap_model.specs.Words.Answer.{Answer}
use Rattle.tcap_model.specs.Histories.Birth.{first_begun, next_dialogue}
use Rattle.tcap_model.specs.Procedures.ComponentHandling.{uni_told, told_of}
use Rattle.tcap_model.specs.Replies.Due.{birth_due}
use Rattle.tcap_model.specs.Histories.History.{History}
use Rattle.tcap_model.specs.Histories.Life.{Life, life, live_in}
use Rattle.tcap_model.specs.Words.LocalId.{is_that}
use Rattle.tcap_model.specs.Words.Output.{Output, AbortCause, DialogueIndication}
use Rattle.tcap_model.specs.Procedures.PortionRules.{PortionVerdict, portion_verdict}
use Rattle.tcap_model.specs.Replies.Queue.{handled_in, rejects_of, queue_by_verdict, queue_by_message, queue_at_birth, queue_by_bytes}
use Rattle.tcap_model.specs.Procedures.QueueRules.{Queued, queue_limit, queue_each}
use Rattle.tcap_model.specs.Procedures.Reception.{Reception, reception}
use Rattle.tcap_model.specs.Replies.Reply.{ended_in, continue_outputs, end_outputs, message_outputs, taken_outputs, reception_outputs}
use Rattle.tcap_model.specs.Words.State.{State, is_live}
use Rattle.tcap_model.specs.Statements.Submitted.{is_taken, rejects_formed}
use Rattle.tcap_laws.proofs.Submission.FirstOutputs.{told-first, no-begin_first, abort-aborts}
use Rattle.tcap_laws.proofs.Receptions.NamedReceptions.{named-taken, named-broken, IsNamed, reception-named}
use Rattle.tcap_laws.proofs.Receptions.ReceivedMarks.{unaddressed}
use Rattle.tcap_laws.proofs.Receptions.SoundReceptions.{IsSound, reception-sound}
use Rattle.tcap_laws.proofs.Submission.SubmittedParts.{written_all}
use Rattle.tcap_laws.proofs.Receptions.ToldOutputKinds.{IsTold, components-told, uni-told, ended-told, abort-told}
use Rattle.tcap_laws.proofs.ListLemmas.{each-append}
use Rattle.tcap_model.specs.Words.Address.{Address}
use Rattle.tcap_laws.proofs.Receptions.BytesNames.{names_in}

-- whether a live dialogue takes the bytes
abbrev is_reached : Reception → Bool
is_reached (Reception.dropped why) = false
is_reached (Reception.aborted aborting) = false
is_reached (Reception.unidirectional context info components) = false
is_reached (Reception.begun origin context info components) = false
is_reached (Reception.taken dialogue message) = true
is_reached (Reception.broken dialogue aborting cause) = true

-- the dialogue that takes them
abbrev reached_by : Reception → ℕ
reached_by (Reception.dropped why) = 0
reached_by (Reception.aborted aborting) = 0
reached_by (Reception.unidirectional context info components) = 0
reached_by (Reception.begun origin context info components) = 0
reached_by (Reception.taken dialogue message) = dialogue
reached_by (Reception.broken dialogue aborting cause) = dialogue

module _ (h : History) (d : ℕ) (from : Address) (bytes : List ℕ) (q : List Queued) where
  abbrev live : ℕ → Bool
  live dialogue = live_in (life dialogue h.pairs)

  abbrev received : Reception
  received = reception live (is_some (birth_due h)) bytes

  abbrev IsNamedBy : ℕ → Type 0
  IsNamedBy dialogue = names_in bytes dialogue ≡ true

  -- ---- the queue after received bytes

  abbrev queue_live : State → Option (List ℕ) → Bool → List Queued
  queue_live state context alive =
      if alive then queue_by_message d h.pairs (Life.standing state context) q (frame_at bytes) else q

  abbrev queue_named : Bool → List Queued
  queue_named named = if named then queue_by_bytes d h.pairs (life d h.pairs) q bytes else q

  abbrev named_queue : List Queued
  named_queue = queue_named (names_in bytes d)

  -- by whether the dialogue was created of them
  abbrev queue_by : Bool → List Queued
  queue_by birth = if birth then queue_at_birth d h.pairs (frame_at bytes) else named_queue

  abbrev grown : List Queued
  grown = queue_each queue_limit q (written_all (rejects_formed d h.pairs (frame_at bytes)))

  -- it has grown by the Rejects, or stayed, as the outputs tell
  abbrev AgreesWith : List Output → Type 0
  AgreesWith outputs =
      queue_by (is_that d (first_begun outputs)) ≡ (if is_taken d (Answer.outputs outputs) then grown else q)

  abbrev Agrees : Reception → Type 0
  Agrees r = AgreesWith (reception_outputs h from r)

  -- nothing is told first that begins or continues the dialogue, and the queue stays
  quiet : (outputs : List Output) → first_begun outputs ≡ None → is_taken d (Answer.outputs outputs) ≡ false →
      named_queue ≡ q → AgreesWith outputs
  quiet outputs none untaken same =
      ap (λ (o : Option ℕ). queue_by (is_that d o)) none
      ∙ (same ∙ sym (ap (λ (b : Bool). if b then grown else q) untaken))

  -- ---- where the queue stays

  -- bytes that name a live dialogue reach it
  reached : IsNamedBy d → live d ≡ true → (is_reached received ≡ true) × (reached_by received ≡ d)
  reached named lives = by (frame_at bytes) refl
    where
      by : (read : Result Message FrameFault) → frame_at bytes ≡ read →
          (is_reached received ≡ true) × (reached_by received ≡ d)
      by (Ok m) e =
          let taken = named-taken live (is_some (birth_due h)) d bytes named lives m e in
          (ap is_reached taken, ap reached_by taken)
      by (Err f) e =
          let broken = named-broken live (is_some (birth_due h)) d bytes named lives f e in
          (ap is_reached broken, ap reached_by broken)

  -- where the queue stays for a message that the dialogue takes, it stays
  stays : ((state : State) (context : Option (List ℕ)) → life d h.pairs ≡ Life.standing state context →
      is_live state ≡ true → IsNamedBy d → queue_live state context true ≡ q) → named_queue ≡ q
  stays same = by-name (names_in bytes d) refl
    where
      by-state : (state : State) (context : Option (List ℕ)) → life d h.pairs ≡ Life.standing state context →
          IsNamedBy d → (alive : Bool) → is_live state ≡ alive → queue_live state context alive ≡ q
      by-state state context lives named true e = same state context lives e named
      by-state state context lives named false e = refl

      by-life : (before : Life) → life d h.pairs ≡ before → IsNamedBy d → queue_by_bytes d h.pairs before q bytes ≡ q
      by-life Life.unborn lives named = refl
      by-life Life.over lives named = refl
      by-life (Life.standing state context) lives named = by-state state context lives named (is_live state) refl

      by-name : (named : Bool) → names_in bytes d ≡ named → queue_named named ≡ q
      by-name true e = by-life (life d h.pairs) refl e
      by-name false e = refl

  unreached : (r : Reception) → received ≡ r → is_reached r ≡ false → named_queue ≡ q
  unreached r is none = stays (λ state context lives alive named.
      let it = reached named (ap live_in lives ∙ alive) in
      absurd (true≢false (sym it.0 ∙ (ap is_reached is ∙ none))))

  another : (r : Reception) → received ≡ r → (reached_by r == d) ≡ false → named_queue ≡ q
  another r is other = stays (λ state context lives alive named.
      let it = reached named (ap live_in lives ∙ alive) in
      absurd (true≢false (sym (eq-eqb (reached_by r) d (sym (ap reached_by is) ∙ it.1)) ∙ other)))

  -- ---- no dialogue takes the bytes

  aborted-agrees : (aborting : Message) → received ≡ Reception.aborted aborting →
      Agrees (Reception.aborted aborting)
  aborted-agrees aborting is =
      quiet (message_sent from aborting ∷ []) refl refl (unreached (Reception.aborted aborting) is refl)

  begun-agrees : (origin : List ℕ) (context : Option (List ℕ)) (info components : List ℕ) (portion : Option (List ℕ)) →
      (next_dialogue h ≡ d → q ≡ []) → frame_at bytes ≡ Ok (Message.begin origin portion components) →
      received ≡ Reception.begun origin context info components →
      Agrees (Reception.begun origin context info components)
  begun-agrees origin context info components portion empty read is = by (next_dialogue h == d) refl
    where
      by : (b : Bool) → (next_dialogue h == d) ≡ b → queue_by b ≡ (if b then grown else q)
      by true e =
          ap (queue_at_birth d h.pairs) read
          ∙ (ap (λ (w : List Queued). queue_each queue_limit w (rejects_of (handled_in d h.pairs components)))
          (sym (empty (eqb-true (next_dialogue h) d e)))
          ∙ sym (ap (λ cs. queue_each queue_limit q (written_all cs)) (ap (rejects_formed d h.pairs) read)))
      by false e = unreached (Reception.begun origin context info components) is refl

  -- ---- a live dialogue takes them

  abbrev broken_told : ℕ → ℕ → List Output
  broken_told named cause =
      Output.dialogue (DialogueIndication.p_abort named (AbortCause.cause cause)) ∷ ended_in named h.pairs []

  broken-none : (named cause : ℕ) (aborting : Option Message) →
      first_begun (sent_if_any from aborting ++ broken_told named cause) ≡ None
  broken-none named cause None = no-begin_first (ended_in named h.pairs []) (ended-told named h.pairs [])
  broken-none named cause (Some aborting) = no-begin_first (ended_in named h.pairs []) (ended-told named h.pairs [])

  broken-untaken : (named cause : ℕ) (aborting : Option Message) →
      is_taken d (Answer.outputs (sent_if_any from aborting ++ broken_told named cause)) ≡ false
  broken-untaken named cause None = refl
  broken-untaken named cause (Some aborting) = refl

  broken-agrees : (named : ℕ) (aborting : Option Message) (cause : ℕ) (f : FrameFault) →
      frame_at bytes ≡ Err f → Agrees (Reception.broken named aborting cause)
  broken-agrees named aborting cause f read =
      quiet (sent_if_any from aborting ++ broken_told named cause)
      (broken-none named cause aborting) (broken-untaken named cause aborting)
      (stays (λ state context lives alive it. ap (queue_by_message d h.pairs (Life.standing state context) q) read))

  module _ (named : ℕ) (state : State) (context : Option (List ℕ))
      (lives : life named h.pairs ≡ Life.standing state context) (alive : is_live state ≡ true)
      (named_it : IsNamedBy named) where
    -- a message of which the queue takes nothing
    spared : (m : Message) → frame_at bytes ≡ Ok m →
        ((s : State) (c : Option (List ℕ)) → queue_by_message d h.pairs (Life.standing s c) q (Ok m) ≡ q) →
        named_queue ≡ q
    spared m read same = stays (λ s c l a n. ap (queue_by_message d h.pairs (Life.standing s c) q) read ∙ same s c)

    -- the queue of the dialogue that takes a Continue
    continued : (origin to : List ℕ) (portion : Option (List ℕ)) (components : List ℕ) →
        frame_at bytes ≡ Ok (Message.go_on origin to portion components) → named ≡ d →
        named_queue ≡ queue_by_verdict (portion_verdict state context portion) q (handled_in d h.pairs components)
    continued origin to portion components read same =
        let here : life d h.pairs ≡ Life.standing state context =
        subst (λ (n : ℕ). life n h.pairs ≡ Life.standing state context) same lives in
        ap queue_named (subst IsNamedBy same named_it)
        ∙ (ap (λ (l : Life). queue_by_bytes d h.pairs l q bytes) here
        ∙ (ap (queue_live state context) alive
        ∙ ap (queue_by_message d h.pairs (Life.standing state context) q) read))

    continue-agrees : (origin to : List ℕ) (portion : Option (List ℕ)) (components : List ℕ) →
        frame_at bytes ≡ Ok (Message.go_on origin to portion components) →
        received ≡ Reception.taken named (Message.go_on origin to portion components) →
        (verdict : PortionVerdict) → portion_verdict state context portion ≡ verdict →
        AgreesWith (continue_outputs named h.pairs state from origin components verdict)
    continue-agrees origin to portion components read is (PortionVerdict.normal given info) judged =
        ap (λ (o : Option ℕ). queue_by (is_that d o))
        (no-begin_first (told_of (handled_in named h.pairs components)) (components-told named h.pairs components))
        ∙ by (named == d) refl
      where
        by : (b : Bool) → (named == d) ≡ b → named_queue ≡ (if b then grown else q)
        by true e =
            continued origin to portion components read (eqb-true named d e)
            ∙ (ap (λ (v : PortionVerdict). queue_by_verdict v q (handled_in d h.pairs components)) judged
            ∙ sym (ap (λ cs. queue_each queue_limit q (written_all cs)) (ap (rejects_formed d h.pairs) read)))
        by false e = another (Reception.taken named (Message.go_on origin to portion components)) is e
    continue-agrees origin to portion components read is PortionVerdict.abnormal judged =
        quiet (continue_outputs named h.pairs state from origin components PortionVerdict.abnormal)
        (no-begin_first (ended_in named h.pairs []) (ended-told named h.pairs [])) refl (by (named == d) refl)
      where
        by : (b : Bool) → (named == d) ≡ b → named_queue ≡ q
        by true e =
            continued origin to portion components read (eqb-true named d e)
            ∙ ap (λ (v : PortionVerdict). queue_by_verdict v q (handled_in d h.pairs components)) judged
        by false e = another (Reception.taken named (Message.go_on origin to portion components)) is e

    end-first : (components : List ℕ) (verdict : PortionVerdict) →
        (first_begun (end_outputs named h.pairs components verdict) ≡ None)
        × (is_taken d (Answer.outputs (end_outputs named h.pairs components verdict)) ≡ false)
    end-first components (PortionVerdict.normal given info) =
        let told = told_of (handled_in named h.pairs components) in
        let ended = ended_in named h.pairs (components_of components) in
        let all = each-append IsTold told ended (components-told named h.pairs components)
        (ended-told named h.pairs (components_of components)) in
        (no-begin_first (told ++ ended) all, refl)
    end-first components PortionVerdict.abnormal =
        (no-begin_first (ended_in named h.pairs []) (ended-told named h.pairs []), refl)

    message-agrees : (m : Message) → frame_at bytes ≡ Ok m → received ≡ Reception.taken named m →
        AgreesWith (message_outputs named h.pairs state context from m)
    message-agrees (Message.go_on origin to portion components) read is =
        continue-agrees origin to portion components read is (portion_verdict state context portion) refl
    message-agrees (Message.end to portion components) read is =
        let first = end-first components (portion_verdict state context portion) in
        quiet (end_outputs named h.pairs components (portion_verdict state context portion)) first.0 first.1
        (spared (Message.end to portion components) read (λ s c. refl))
    message-agrees (Message.abort to reason) read is =
        let ended = ended_in named h.pairs [] in
        quiet (abort_told named reason ∷ ended)
        (told-first (abort_told named reason) ended (abort-told named reason)
        (no-begin_first ended (ended-told named h.pairs [])))
        (abort-aborts d named reason) (spared (Message.abort to reason) read (λ s c. refl))
    message-agrees (Message.unidirectional portion components) read is =
        absurd (unaddressed named bytes named_it (Message.unidirectional portion components) read refl)
    message-agrees (Message.begin origin portion components) read is =
        absurd (unaddressed named bytes named_it (Message.begin origin portion components) read refl)

  taken-agrees : (named : ℕ) (m : Message) → IsNamedBy named → frame_at bytes ≡ Ok m →
      received ≡ Reception.taken named m → (before : Life) → life named h.pairs ≡ before → live_in before ≡ true →
      AgreesWith (taken_outputs named h.pairs before from m)
  taken-agrees named m names_it read is Life.unborn lives alive = absurd (true≢false (sym alive))
  taken-agrees named m names_it read is Life.over lives alive = absurd (true≢false (sym alive))
  taken-agrees named m names_it read is (Life.standing state context) lives alive =
      message-agrees named state context lives alive names_it m read is

  agrees : (next_dialogue h ≡ d → q ≡ []) → (r : Reception) → received ≡ r → IsNamed live bytes r →
      IsSound (is_some (birth_due h)) bytes r → Agrees r
  agrees empty (Reception.dropped why) is named sound =
      quiet (Output.dropped why ∷ []) refl refl (unreached (Reception.dropped why) is refl)
  agrees empty (Reception.aborted aborting) is named sound = aborted-agrees aborting is
  agrees empty (Reception.unidirectional context info components) is named sound =
      let told = uni_told (components_of components) in
      quiet (Output.dialogue (DialogueIndication.uni context info) ∷ told)
      (no-begin_first told (uni-told (components_of components))) refl
      (unreached (Reception.unidirectional context info components) is refl)
  agrees empty (Reception.begun origin context info components) is named sound =
      begun-agrees origin context info components sound.0 empty sound.1 is
  agrees empty (Reception.taken dialogue m) is named sound =
      taken-agrees dialogue m named.0 sound is (life dialogue h.pairs) refl named.1
  agrees empty (Reception.broken dialogue aborting cause) is named sound =
      broken-agrees dialogue aborting cause named.2 named.3

  pub received-agrees : (next_dialogue h ≡ d → q ≡ []) → Agrees received
  received-agrees empty =
      agrees empty received refl (reception-named live (is_some (birth_due h)) bytes)
      (reception-sound live (is_some (birth_due h)) bytes)
