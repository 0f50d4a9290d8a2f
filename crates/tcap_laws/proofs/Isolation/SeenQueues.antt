-- What a dialogue sees of a legal history has its queue, and handles its components alike.
use Rattle.std.proofs.Common.{◌≡◌, ℕ, ℤ, ◌==◌, Bool, true, false, List, [], ◌∷◌, ◌++◌, Option, Some, None, Result, Ok, Err, refl, ap, sym, ◌∙◌, arith, if◌then◌else◌}
use Rattle.std.proofs.lemmas.Bool.Decides.{nat_tests}
use Rattle.tcap_pdu.specs.declared.fault.FrameFault.{FrameFault}
use Rattle.tcap_pdu.specs.FrameReading.{frame_at}
use Rattle.tcap_pdu.specs.FrameSpelling.{Message}
use Rattle.tcap_component.specs.ComponentReading.{components_of}
use Rattle.tcap_laws.proofs.Births.DrawnDialogues.{unborn-life}
use Rattle.tcap_laws.proofs.Spans.MarksAfterBirth.{noted_at_clock}
use Rattle.tcap_laws.proofs.Spans.LatestInvocations.{latest_is}
use Rattle.tcap_laws.proofs.Isolation.SeenDecisions.{unborn_refused}
use Rattle.tcap_laws.proofs.Isolation.SeenInvocations.{found_span}
use Rattle.tcap_laws.proofs.Isolation.SeenLives.{with_answer, IsUnseen, unseen, seen_or_not, only_clock, only_life}
use Rattle.tcap_model.specs.Words.Answer.{Answer, is_accepted}
use Rattle.tcap_model.specs.Histories.Birth.{is_birth_of, was_born}
use Rattle.tcap_model.specs.Histories.Clock.{clock}
use Rattle.tcap_model.specs.Procedures.ComponentHandling.{Item, Handled, handled, subject_of}
use Rattle.tcap_model.specs.Words.Event.{Event}
use Rattle.tcap_model.specs.Histories.History.{Start}
use Rattle.tcap_model.specs.Invocations.Invocation.{Invocation, invocation_of, latest}
use Rattle.tcap_model.specs.Replies.Legal.{AreReplies}
use Rattle.tcap_model.specs.Histories.Life.{Life, life}
use Rattle.tcap_model.specs.Invocations.Marks.{component_marks}
use Rattle.tcap_model.specs.Histories.Names.{names}
use Rattle.tcap_model.specs.Statements.Only.{pair_within, is_seen_by, only}
use Rattle.tcap_model.specs.Invocations.Outcome.{is_sent_in}
use Rattle.tcap_model.specs.Histories.Pair.{Past}
use Rattle.tcap_model.specs.Procedures.PortionRules.{portion_verdict}
use Rattle.tcap_model.specs.Replies.Queue.{handled_after, handled_in, rejects_of, queue_by_verdict, queue_by_message, queue_at_birth, queue_if_accepted, queue_by_bytes, queue_after, queue}
use Rattle.tcap_model.specs.Invocations.SentThere.{marks_up_to, if_sent, sent_there}
use Rattle.tcap_model.specs.Procedures.QueueRules.{Queued, queue_limit, queue_each}
use Rattle.tcap_model.specs.Words.Request.{Request}
use Rattle.tcap_model.specs.Invocations.Span.{span}
use Rattle.tcap_model.specs.Words.State.{is_live}
use Rattle.tcap_laws.proofs.Isolation.OwnInvocations.{only_latest}
use Rattle.tcap_model.specs.Words.Address.{Address}
use Rattle.tcap_laws.proofs.Receptions.BytesNames.{names_in}

-- ---- components

module _ (start : Start) (dialogue : ℕ) (past : Past) (legal : AreReplies start past) where
  pub marks_same : (items : List Item) (i : Invocation) → invocation_of i.number past ≡ Some i → i.dialogue ≡ dialogue
      → marks_up_to (only dialogue past) items i ≡ marks_up_to past items i
  marks_same items i found own =
      ap (λ z. z ++ noted_at_clock (clock (only dialogue past)) (component_marks i.id items))
      (found_span start dialogue past legal i.number i found own)
      ∙ ap (λ c. span i past ++ noted_at_clock c (component_marks i.id items)) (only_clock dialogue past)

  there_same : (earlier : List Item) (subject : Option ℤ)
      → sent_there dialogue (only dialogue past) earlier subject ≡ sent_there dialogue past earlier subject
  there_same earlier None = refl
  there_same earlier (Some id) =
      ap (if_sent (only dialogue past) earlier) (only_latest start dialogue id past legal)
      ∙ go (latest dialogue id past) refl
    where
      go : (o : Option Invocation) → latest dialogue id past ≡ o
          → if_sent (only dialogue past) earlier o ≡ if_sent past earlier o
      go None q = refl
      go (Some i) q =
          let l = latest_is start past dialogue id i legal q in
          ap (λ ms. if is_sent_in i.class i.timeout ms then Some
          (record { dialogue = i.dialogue; number = i.number; class = i.class }) else None)
          (marks_same earlier i l.is_found l.dialogue_is)

  handled_same : (earlier items : List Item) → handled_after dialogue (only dialogue past) earlier items
      ≡ handled_after dialogue past earlier items
  handled_same earlier [] = refl
  handled_same earlier (item ∷ items) =
      ap (λ s. handled (Some dialogue) s item ∷ handled_after dialogue (only dialogue past) (earlier ++ item ∷ [])
      items) (there_same earlier (subject_of item))
      ∙ ap (λ (hs : List Handled). handled (Some dialogue) (sent_there dialogue past earlier (subject_of item)) item
      ∷ hs) (handled_same (earlier ++ item ∷ []) items)

  pub only_handled : (content : List ℕ) → handled_in dialogue (only dialogue past) content
      ≡ handled_in dialogue past content
  only_handled content = handled_same [] (components_of content)

  -- ---- the queue after a pair

  by_message : (l : Life) (q : List Queued) (read : Result Message FrameFault)
      → queue_by_message dialogue (only dialogue past) l q read ≡ queue_by_message dialogue past l q read
  by_message (Life.standing state context) q (Ok (Message.go_on origin to portion components)) =
      ap (queue_by_verdict (portion_verdict state context portion) q) (only_handled components)
  by_message (Life.standing state context) q (Ok (Message.unidirectional portion components)) = refl
  by_message (Life.standing state context) q (Ok (Message.begin origin portion components)) = refl
  by_message (Life.standing state context) q (Ok (Message.end to portion components)) = refl
  by_message (Life.standing state context) q (Ok (Message.abort to reason)) = refl
  by_message (Life.standing state context) q (Err f) = refl
  by_message Life.unborn q read = refl
  by_message Life.over q read = refl

  at_birth : (read : Result Message FrameFault)
      → queue_at_birth dialogue (only dialogue past) read ≡ queue_at_birth dialogue past read
  at_birth (Ok (Message.begin origin portion components)) =
      ap (λ hs. queue_each queue_limit [] (rejects_of hs)) (only_handled components)
  at_birth (Ok (Message.unidirectional portion components)) = refl
  at_birth (Ok (Message.go_on origin to portion components)) = refl
  at_birth (Ok (Message.end to portion components)) = refl
  at_birth (Ok (Message.abort to reason)) = refl
  at_birth (Err f) = refl

  by_bytes : (l : Life) (q : List Queued) (bytes : List ℕ)
      → queue_by_bytes dialogue (only dialogue past) l q bytes ≡ queue_by_bytes dialogue past l q bytes
  by_bytes Life.unborn q bytes = refl
  by_bytes Life.over q bytes = refl
  by_bytes (Life.standing state context) q bytes =
      ap (λ z. if is_live state then z else q) (by_message (Life.standing state context) q (frame_at bytes))

  queue_within : (q : List Queued) (event : Event) (answer : Answer) (idle_ms : ℕ)
      → queue_after dialogue (only dialogue past) q (pair_within dialogue event answer idle_ms)
      ≡ queue_after dialogue past q (with_answer event answer idle_ms)
  queue_within q Event.new_dialogue answer idle_ms = refl
  queue_within q (Event.on_dialogue named r) answer idle_ms = refl
  queue_within q (Event.received from bytes) answer idle_ms =
      let birth = is_birth_of dialogue (with_answer (Event.received from bytes) answer idle_ms) in
      let named = names (Event.received from bytes) dialogue in
      ap (λ z. if birth then z else (if named then queue_by_bytes dialogue (only dialogue past)
      (life dialogue (only dialogue past)) q bytes else q)) (at_birth (frame_at bytes))
      ∙ ap (λ z. if birth then queue_at_birth dialogue past (frame_at bytes) else (if named then z else q))
      (ap (λ l. queue_by_bytes dialogue (only dialogue past) l q bytes) (only_life dialogue past)
      ∙ by_bytes (life dialogue past) q bytes)
  queue_within q (Event.moment now) answer idle_ms = refl

-- ---- the queue

module _ (start : Start) (dialogue : ℕ) where
  unseen_request : (q : List Queued) (named : ℕ) (r : Request) (answer : Answer) (idle_ms : ℕ) (past : Past)
      → AreReplies start (with_answer (Event.on_dialogue named r) answer idle_ms ∷ past)
      → IsUnseen dialogue (with_answer (Event.on_dialogue named r) answer idle_ms) past
      → (if named == dialogue then queue_if_accepted (is_accepted answer) q r answer else q) ≡ q
  unseen_request q named r answer idle_ms past legal is = go (named == dialogue) (was_born dialogue past) refl refl
    where
      go : (a b : Bool) → (named == dialogue) ≡ a → was_born dialogue past ≡ b
          → (if a then queue_if_accepted (is_accepted answer) q r answer else q) ≡ q
      go false b p w = refl
      go true true p w = let never : true ≡ false = sym p ∙ is.not_named w in absurd cc
      go true false p w =
          let same : named ≡ dialogue = grind (arith, nat_tests) in
          ap (λ b. queue_if_accepted b q r answer) (unborn_refused start named r answer idle_ms past legal
          (ap (λ d. life d past) same ∙ unborn-life dialogue past w))

  unseen_bytes : (q : List Queued) (from : Address) (bytes : List ℕ) (answer : Answer) (idle_ms : ℕ) (past : Past)
      → IsUnseen dialogue (with_answer (Event.received from bytes) answer idle_ms) past
      → (if names_in bytes dialogue then queue_by_bytes dialogue past (life dialogue past) q bytes else q)
      ≡ q
  unseen_bytes q from bytes answer idle_ms past is =
      go (names (Event.received from bytes) dialogue) (was_born dialogue past) refl refl
    where
      go : (a b : Bool) → names_in bytes dialogue ≡ a → was_born dialogue past ≡ b
          → (if a then queue_by_bytes dialogue past (life dialogue past) q bytes else q) ≡ q
      go false b p w = refl
      go true true p w = let never : true ≡ false = sym p ∙ is.not_named w in absurd cc
      go true false p w = ap (λ l. queue_by_bytes dialogue past l q bytes) (unborn-life dialogue past w)

  unseen_queue : (q : List Queued) (event : Event) (answer : Answer) (idle_ms : ℕ) (past : Past)
      → AreReplies start (with_answer event answer idle_ms ∷ past)
      → IsUnseen dialogue (with_answer event answer idle_ms) past
      → queue_after dialogue past q (with_answer event answer idle_ms) ≡ q
  unseen_queue q Event.new_dialogue answer idle_ms past legal is = ap (λ b. if b then [] else q) is.no_birth
  unseen_queue q (Event.on_dialogue named r) answer idle_ms past legal is =
      unseen_request q named r answer idle_ms past legal is
  unseen_queue q (Event.received from bytes) answer idle_ms past legal is =
      ap (λ b. if b then queue_at_birth dialogue past (frame_at bytes) else
      (if names (Event.received from bytes) dialogue then queue_by_bytes dialogue past (life dialogue past) q bytes else
      q)) is.no_birth
      ∙ unseen_bytes q from bytes answer idle_ms past is
  unseen_queue q (Event.moment now) answer idle_ms past legal is = let no = is.no_moment in absurd cc

  pub only_queue : (past : Past) → AreReplies start past → queue dialogue (only dialogue past) ≡ queue dialogue past
  only_queue [] legal = refl
  only_queue (pair ∷ past) legal = go (is_seen_by dialogue pair past) refl (only_queue past legal.2)
    where
      go : (b : Bool) → is_seen_by dialogue pair past ≡ b → queue dialogue (only dialogue past) ≡ queue dialogue past
          → queue dialogue (seen_or_not dialogue b pair past) ≡ queue dialogue (pair ∷ past)
      go true e same = queue_within start dialogue past legal.2 (queue dialogue (only dialogue past)) pair.event
          pair.answer pair.idle_ms ∙ ap (λ q. queue_after dialogue past q pair) same
      go false e same = same ∙ sym (unseen_queue (queue dialogue past) pair.event pair.answer pair.idle_ms past legal
          (unseen dialogue pair past e))
