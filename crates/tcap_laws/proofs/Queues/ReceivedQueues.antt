-- The queue after received bytes: what they add are Rejects that were formed.
use Rattle.std.proofs.Common.{◌≡◌, ℕ, true, false, Bool, nat_le, nat_lt, List, [], ◌∷◌, length, is_some, Option, Some, None, Result, Ok, Err, if◌then◌else◌, refl, sym, ap, subst, ◌∙◌, append-nil}
use Rattle.std.proofs.lemmas.Bool.{eqb-true, leb-true, le-ltb}
use Rattle.tcap_pdu.specs.declared.fault.FrameFault.{FrameFault}
use Rattle.tcap_pdu.specs.FrameReading.{frame_at}
use Rattle.tcap_pdu.specs.FrameSpelling.{Message}
use Rattle.tcap_pdu.specs.FrameWritten.{message_limit}
use Rattle.tcap_model.specs.Procedures.AbortRules.{abort_with, resource_limitation}
use Rattle.tcap_model.specs.Words.Answer.{Answer}
use Rattle.tcap_model.specs.Histories.Birth.{next_dialogue, first_begun, born_on_message, is_birth_of}
use Rattle.tcap_model.specs.Procedures.ComponentHandling.{told_of}
use Rattle.tcap_model.specs.Procedures.Destination.{destination_of, destination_by}
use Rattle.tcap_model.specs.Replies.Due.{birth_due}
use Rattle.tcap_model.specs.Words.Event.{Event}
use Rattle.tcap_model.specs.Histories.History.{History}
use Rattle.tcap_model.specs.Histories.Life.{Life, life, live_in}
use Rattle.tcap_model.specs.Words.LocalId.{dialogue_named, is_that}
use Rattle.tcap_model.specs.Histories.Names.{is_destined, named_within}
use Rattle.tcap_model.specs.Words.Output.{Output, DropCause, DialogueIndication}
use Rattle.tcap_model.specs.Histories.Pair.{Pair}
use Rattle.tcap_model.specs.Procedures.PortionRules.{BeginVerdict, begin_verdict, PortionVerdict, portion_verdict}
use Rattle.tcap_model.specs.Replies.Queue.{handled_in, rejects_of, queue_by_verdict, queue_by_message, queue_at_birth, queue_by_bytes}
use Rattle.tcap_model.specs.Procedures.QueueRules.{Queued, queue_limit, queue_each}
use Rattle.tcap_model.specs.Procedures.Reception.{Reception, live_named, addressed, begin_by, continue_by, reading_by, reception}
use Rattle.tcap_model.specs.Replies.Reply.{reply, reception_outputs, taken_outputs, continue_outputs}
use Rattle.tcap_model.specs.Words.State.{State, is_live}
use Rattle.tcap_laws.proofs.Queues.FormedRejects.{handled_in-formed}
use Rattle.tcap_laws.proofs.Queues.KeptQueues.{IsKept, AllKept, rejects-kept, queue_each-each}
use Rattle.tcap_model.specs.Words.Address.{Address}
use Rattle.tcap_laws.proofs.Receptions.BytesNames.{names_in}

named-is : (dialogue : ℕ) (named : Option ℕ) → is_that dialogue named ≡ true → named ≡ Some dialogue
named-is dialogue None e = absurd cc
named-is dialogue (Some named) e = ap (λ (d : ℕ). Some d) (eqb-true named dialogue e)

module _ (h : History) (dialogue : ℕ) (from : Address) (bytes : List ℕ) (answer : Answer) (idle_ms : ℕ)
    (is_reply : answer ≡ reply h (Event.received from bytes)) where
  abbrev here : Pair
  here = record { event = Event.received from bytes; answer = answer; idle_ms = idle_ms }

  abbrev live : ℕ → Bool
  live d = live_in (life d h.pairs)

  abbrev full : Bool
  full = is_some (birth_due h)

  -- the Rejects of the components of a message that was told
  abbrev Keeps : List Queued → Type 0
  Keeps queue = AllKept dialogue (here ∷ h.pairs) queue

  told-keeps : (first : Output) (components : List ℕ) (queue : List Queued)
      → answer ≡ Answer.outputs (first ∷ told_of (handled_in dialogue h.pairs components)) → Keeps queue
      → Keeps (queue_each queue_limit queue (rejects_of (handled_in dialogue h.pairs components)))
  told-keeps first components queue is kept =
      let hs = handled_in dialogue h.pairs components in
      queue_each-each (IsKept dialogue (here ∷ h.pairs)) queue_limit queue (rejects_of hs) kept
      (rejects-kept dialogue from bytes answer idle_ms h.pairs hs (first ∷ []) []
      (is ∙ ap (λ (w : List Output). Answer.outputs (first ∷ w)) (sym (append-nil (told_of hs))))
      (handled_in-formed dialogue h.pairs components))

  -- ---- a Begin

  abbrev IsBirth : Reception → Type 0
  IsBirth r = is_that dialogue (first_begun (reception_outputs h from r)) ≡ true

  abbrev IsAnswer : Reception → Type 0
  IsAnswer r = answer ≡ Answer.outputs (reception_outputs h from r)

  born-keeps : (origin : List ℕ) (context : Option (List ℕ)) (info components : List ℕ)
      → IsBirth (Reception.begun origin context info components)
      → IsAnswer (Reception.begun origin context info components)
      → Keeps (queue_each queue_limit [] (rejects_of (handled_in dialogue h.pairs components)))
  born-keeps origin context info components birth is =
      let same = eqb-true (next_dialogue h) dialogue birth in
      told-keeps (Output.dialogue (DialogueIndication.begin (next_dialogue h) context info)) components []
      (is ∙ ap (λ (d : ℕ). Answer.outputs (Output.dialogue (DialogueIndication.begin (next_dialogue h) context info)
      ∷ told_of (handled_in d h.pairs components))) same) tt

  begin-keeps : (long full' : Bool) (verdict : BeginVerdict) (origin : List ℕ) (portion : Option (List ℕ))
      (components : List ℕ) →
      IsBirth (if long then Reception.dropped DropCause.too_long else
      (if full' then Reception.aborted (abort_with resource_limitation origin) else begin_by verdict origin
      components)) →
      IsAnswer (if long then Reception.dropped DropCause.too_long else
      (if full' then Reception.aborted (abort_with resource_limitation origin) else begin_by verdict origin
      components)) →
      Keeps (queue_at_birth dialogue h.pairs (Ok (Message.begin origin portion components)))
  begin-keeps true full' verdict origin portion components birth is = absurd cc
  begin-keeps false true verdict origin portion components birth is = absurd cc
  begin-keeps false false BeginVerdict.plain origin portion components birth is =
      born-keeps origin None [] components birth is
  begin-keeps false false (BeginVerdict.with_context context info) origin portion components birth is =
      born-keeps origin (Some context) info components birth is
  begin-keeps false false (BeginVerdict.wrong_version context) origin portion components birth is = absurd cc
  begin-keeps false false BeginVerdict.abnormal origin portion components birth is = absurd cc

  abbrev by : Result Message FrameFault → Reception
  by read = if nat_lt message_limit (length bytes) then Reception.dropped DropCause.too_long else reading_by live full
      bytes read

  birth-keeps : (read : Result Message FrameFault) → IsBirth (by read) → IsAnswer (by read)
      → Keeps (queue_at_birth dialogue h.pairs read)
  birth-keeps (Ok (Message.begin origin portion components)) birth is =
      begin-keeps (nat_lt message_limit (length bytes)) full (begin_verdict portion) origin portion components birth is
  birth-keeps (Ok (Message.unidirectional portion components)) birth is = tt
  birth-keeps (Ok (Message.go_on origin to portion components)) birth is = tt
  birth-keeps (Ok (Message.end to portion components)) birth is = tt
  birth-keeps (Ok (Message.abort to reason)) birth is = tt
  birth-keeps (Err f) birth is = tt

  pub born-queue : is_birth_of dialogue here ≡ true → Keeps (queue_at_birth dialogue h.pairs (frame_at bytes))
  born-queue birth = birth-keeps (frame_at bytes)
      (subst (λ (a : Answer). is_that dialogue (born_on_message a) ≡ true) is_reply birth) is_reply

  -- ---- a Continue to the dialogue

  within-parts : (short : Bool) → named_within short dialogue bytes ≡ true
      → (short ≡ true) × (is_destined dialogue (destination_of bytes) ≡ true)
  within-parts true e = (refl, e)
  within-parts false e = absurd cc

  taken-is : (state : State) (context : Option (List ℕ)) (origin to components : List ℕ) (portion : Option (List ℕ)) →
      names_in bytes dialogue ≡ true → life dialogue h.pairs ≡ Life.standing state context
      → is_live state ≡ true → frame_at bytes ≡ Ok (Message.go_on origin to portion components) →
      reception live full bytes ≡ Reception.taken dialogue (Message.go_on origin to portion components)
  taken-is state context origin to components portion named lives is_alive read =
      let m : Message = Message.go_on origin to portion components in
      let parts = within-parts (nat_le (length bytes) message_limit) named in
      let short : nat_lt message_limit (length bytes) ≡ false =
      le-ltb message_limit (length bytes) (leb-true (length bytes) message_limit parts.0) in
      let destined : is_that dialogue (dialogue_named to) ≡ true =
      subst (λ (r : Result Message FrameFault). is_destined dialogue (destination_by bytes r) ≡ true) read parts.1
      in
      let alive : live dialogue ≡ true = ap live_in lives ∙ is_alive in
      let found : addressed live to ≡ Some dialogue =
      ap (λ (o : Option ℕ). live_named live o) (named-is dialogue (dialogue_named to) destined)
      ∙ ap (λ (b : Bool). if b then Some dialogue else None) alive in
      ap (λ (b : Bool). if b then Reception.dropped DropCause.too_long else reading_by live full bytes (frame_at bytes))
      short
      ∙ (ap (λ (r : Result Message FrameFault). reading_by live full bytes r) read
      ∙ ap (λ (o : Option ℕ). continue_by o origin m) found)

  told-is : (state : State) (context : Option (List ℕ)) (origin to components : List ℕ) (portion : Option (List ℕ))
      (verdict : PortionVerdict) →
      names_in bytes dialogue ≡ true → life dialogue h.pairs ≡ Life.standing state context
      → is_live state ≡ true → frame_at bytes ≡ Ok (Message.go_on origin to portion components)
      → portion_verdict state context portion ≡ verdict →
      answer ≡ Answer.outputs (continue_outputs dialogue h.pairs state from origin components verdict)
  told-is state context origin to components portion verdict named lives is_alive read judged =
      let m : Message = Message.go_on origin to portion components in
      is_reply
      ∙ (ap (λ (r : Reception). Answer.outputs (reception_outputs h from r))
      (taken-is state context origin to components portion named lives is_alive read)
      ∙ (ap (λ (l : Life). Answer.outputs (taken_outputs dialogue h.pairs l from m)) lives
      ∙ ap (λ (v : PortionVerdict). Answer.outputs (continue_outputs dialogue h.pairs state from origin components v))
      judged))

  continue-keeps : (state : State) (context : Option (List ℕ)) (origin to components : List ℕ)
      (portion : Option (List ℕ)) (queue : List Queued) →
      names_in bytes dialogue ≡ true → life dialogue h.pairs ≡ Life.standing state context
      → is_live state ≡ true → frame_at bytes ≡ Ok (Message.go_on origin to portion components) → Keeps queue →
      (verdict : PortionVerdict) → portion_verdict state context portion ≡ verdict
      → Keeps (queue_by_verdict verdict queue (handled_in dialogue h.pairs components))
  continue-keeps state context origin to components portion queue named lives is_alive read kept
      (PortionVerdict.normal told info) judged =
      told-keeps (Output.dialogue (DialogueIndication.go_on dialogue told info)) components queue
      (told-is state context origin to components portion (PortionVerdict.normal told info) named lives is_alive
      read judged) kept
  continue-keeps state context origin to components portion queue named lives is_alive read kept PortionVerdict.abnormal
      judged = kept

  message-keeps : (state : State) (context : Option (List ℕ)) (queue : List Queued)
      → names_in bytes dialogue ≡ true → life dialogue h.pairs ≡ Life.standing state context
      → is_live state ≡ true → Keeps queue →
      (read : Result Message FrameFault) → frame_at bytes ≡ read
      → Keeps (queue_by_message dialogue h.pairs (Life.standing state context) queue read)
  message-keeps state context queue named lives is_alive kept (Ok (Message.go_on origin to portion components)) is =
      continue-keeps state context origin to components portion queue named lives is_alive is kept
      (portion_verdict state context portion) refl
  message-keeps state context queue named lives is_alive kept (Ok (Message.unidirectional portion components)) is = kept
  message-keeps state context queue named lives is_alive kept (Ok (Message.begin origin portion components)) is = kept
  message-keeps state context queue named lives is_alive kept (Ok (Message.end to portion components)) is = kept
  message-keeps state context queue named lives is_alive kept (Ok (Message.abort to reason)) is = kept
  message-keeps state context queue named lives is_alive kept (Err f) is = kept

  live-keeps : (state : State) (context : Option (List ℕ)) (queue : List Queued)
      → names_in bytes dialogue ≡ true → life dialogue h.pairs ≡ Life.standing state context
      → Keeps queue →
      (alive : Bool) → is_live state ≡ alive → Keeps
      (if alive then queue_by_message dialogue h.pairs (Life.standing state context) queue (frame_at bytes) else
      queue)
  live-keeps state context queue named lives kept true is =
      message-keeps state context queue named lives is kept (frame_at bytes) refl
  live-keeps state context queue named lives kept false is = kept

  pub named-queue : (queue : List Queued) → names_in bytes dialogue ≡ true → Keeps queue → (before : Life)
      → life dialogue h.pairs ≡ before → Keeps (queue_by_bytes dialogue h.pairs before queue bytes)
  named-queue queue named kept Life.unborn lives = kept
  named-queue queue named kept Life.over lives = kept
  named-queue queue named kept (Life.standing state context) lives =
      live-keeps state context queue named lives kept (is_live state) refl
