-- At each place of a legal history: what waits in the queue of a dialogue is what was submitted for it and
-- isn't sent.
use Rattle.std.proofs.Common.{◌≡◌, ℕ, ◌+◌, ◌≤◌, ◌==◌, ◌&&◌, true, false, Bool, List, [], ◌∷◌, ◌++◌, length, flat_map, map, option_to_list, Option, Some, None, Result, Ok, Err, if◌then◌else◌, refl, sym, ap, subst, ◌∙◌, IsTrue, arith}
use Rattle.std.specs.List.{AllByRecursion}
use Rattle.std.proofs.lemmas.Bool.{and_parts, eqb-true, or_parts}
use Rattle.tcap_pdu.specs.declared.fault.FrameFault.{FrameFault}
use Rattle.tcap_pdu.specs.FrameReading.{frame_at}
use Rattle.tcap_pdu.specs.FrameSpelling.{Message}
use Rattle.tcap_component.specs.Component.{ComponentParts, InRange}
use Rattle.tcap_component.specs.Written.{CanWriteComponent}
use Rattle.tcap_model.specs.Words.Answer.{Answer, is_accepted}
use Rattle.tcap_model.specs.Histories.Birth.{births, born_of, is_birth_of, next_dialogue, was_born}
use Rattle.tcap_model.specs.Procedures.ComponentHandling.{Handled}
use Rattle.tcap_model.specs.Words.Event.{Event}
use Rattle.tcap_model.specs.Histories.History.{History, Start}
use Rattle.tcap_model.specs.Words.InRange.{is_in_range, is_request, is_short}
use Rattle.tcap_model.specs.Replies.Legal.{AreReplies}
use Rattle.tcap_model.specs.Histories.Life.{Life, life}
use Rattle.tcap_model.specs.Histories.Names.{names}
use Rattle.tcap_model.specs.Words.Output.{Output}
use Rattle.tcap_model.specs.Histories.Pair.{Pair, Past}
use Rattle.tcap_model.specs.Replies.Queue.{handled_in, queue_if_accepted, queue_at_birth, queue_by_bytes, queue_after, queue}
use Rattle.tcap_model.specs.Procedures.QueueRules.{Queued, queue_limit, queue_each, joined}
use Rattle.tcap_model.specs.Replies.Reply.{reply}
use Rattle.tcap_model.specs.Statements.Submitted.{Submitted, sends_components, given_up_in, rejects_formed, fitting, is_taken, submitted_reject, asked_for, octet_count, unsent}
use Rattle.tcap_laws.proofs.Births.DrawnDialogues.{dialogue-next, beyond-unborn, unborn-life}
use Rattle.tcap_laws.proofs.Queues.FormedRejects.{IsFormed, HasFormed, handled_in-formed, reject-can}
use Rattle.tcap_laws.proofs.Receptions.NamedReceptions.{that-is}
use Rattle.tcap_laws.proofs.Isolation.SeenDecisions.{unborn_refused}
use Rattle.tcap_laws.proofs.Submission.SubmittedParts.{octets-counted, written_all, each-fitting, IsGood, fitting-good, rejects-written}
use Rattle.tcap_laws.proofs.Submission.SubmittedReceptions.{received-agrees}
use Rattle.tcap_laws.proofs.Submission.SubmittedRequests.{WaitsUnsent, waits-now, step, stays, more, request-waits}
use Rattle.tcap_model.specs.Statements.ComponentPortion.{portion_of}
use Rattle.tcap_model.specs.Words.Address.{Address}

-- ---- before its birth nothing waits for a dialogue

module _ (start : Start) (d idle_ms : ℕ) where
  abbrev at : Event → Answer → Pair
  at event answer = record { event = event; answer = answer; idle_ms = idle_ms }

  abbrev named_queue : Past → List ℕ → Bool → List Queued
  named_queue past bytes named =
      if named then queue_by_bytes d past (life d past) (queue d past) bytes else queue d past

  unborn-step : (event : Event) (answer : Answer) (past : Past) → AreReplies start (at event answer ∷ past) →
      life d past ≡ Life.unborn → queue d past ≡ [] → is_birth_of d (at event answer) ≡ false →
      queue_after d past (queue d past) (at event answer) ≡ []
  unborn-step Event.new_dialogue answer past legal unborn empty none =
      ap (λ (b : Bool). if b then [] else queue d past) none ∙ empty
  unborn-step (Event.on_dialogue named request) answer past legal unborn empty none = by (named == d) refl
    where
      by : (b : Bool) → (named == d) ≡ b →
          (if b then queue_if_accepted (is_accepted answer) (queue d past) request answer else queue d past) ≡ []
      by false e = empty
      by true e =
          let lives : life named past ≡ Life.unborn = ap (λ (n : ℕ). life n past) (eqb-true named d e) ∙ unborn in
          ap (λ (b : Bool). queue_if_accepted b (queue d past) request answer)
          (unborn_refused start named request answer idle_ms past legal lives) ∙ empty
  unborn-step (Event.received from bytes) answer past legal unborn empty none =
      ap (λ (b : Bool). if b then queue_at_birth d past (frame_at bytes)
      else named_queue past bytes (names (Event.received from bytes) d)) none
      ∙ by (names (Event.received from bytes) d)
    where
      by : (b : Bool) → named_queue past bytes b ≡ []
      by true = ap (λ (l : Life). queue_by_bytes d past l (queue d past) bytes) unborn ∙ empty
      by false = empty
  unborn-step (Event.moment now) answer past legal unborn empty none = empty

unborn-queue : (start : Start) (d : ℕ) (past : Past) → AreReplies start past → was_born d past ≡ false
    → queue d past ≡ []
unborn-queue start d [] legal none = refl
unborn-queue start d (pair ∷ past) legal none =
    let parts = or_parts (is_birth_of d pair) (was_born d past) none in
    unborn-step start d pair.idle_ms pair.event pair.answer past legal (unborn-life d past parts.1)
    (unborn-queue start d past legal.2 parts.1) parts.0

-- ---- the Rejects of a message can be written and read back

module _ (d : ℕ) (past : Past) where
  reject-good : (told : Output) (reject : Option ComponentParts) (others : List ComponentParts) →
      IsFormed d told reject → AllByRecursion IsGood others → AllByRecursion IsGood (option_to_list reject ++ others)
  reject-good told None others formed good = good
  reject-good told (Some c) others formed good = (
    (
      subst (λ (x : ComponentParts). InRange x) (sym formed.2) (formed.4, formed.5),
      subst (λ (x : ComponentParts). CanWriteComponent x) (sym formed.2) (reject-can formed.0 formed.1),
    ),
    good,
  )

  abbrev rejects_in : List Handled → List ComponentParts
  rejects_in hs = flat_map (λ (x : Handled). option_to_list x.reject) hs

  formed-good : (hs : List Handled) → AllByRecursion (HasFormed d) hs → AllByRecursion IsGood (rejects_in hs)
  formed-good [] formed = tt
  formed-good (x ∷ hs) formed =
      reject-good x.told x.reject (rejects_in hs) formed.0 (formed-good hs formed.1)

  rejects-good : (read : Result Message FrameFault) → AllByRecursion IsGood (rejects_formed d past read)
  rejects-good (Ok m) = formed-good (handled_in d past (portion_of m)) (handled_in-formed d past (portion_of m))
  rejects-good (Err f) = tt

-- ---- one pair

module _ (h : History) (d idle_ms : ℕ) (legal : AreReplies h.start h.pairs) (waits : WaitsUnsent d h.pairs) where
  abbrev waiting : List Queued
  waiting = queue d h.pairs

  abbrev with_answer : Event → Answer → Pair
  with_answer event answer = record { event = event; answer = answer; idle_ms = idle_ms }

  -- what is created now has nothing that waits
  next-empty : next_dialogue h ≡ d → waiting ≡ []
  next-empty next =
      let beyond : h.start.next_dialogue + births h.pairs ≤ d = omega (arith, next) in
      unborn-queue h.start d h.pairs legal (beyond-unborn h.start h.pairs legal d beyond)

  new-queue : (answer : Answer) → answer ≡ reply h Event.new_dialogue →
      queue d (with_answer Event.new_dialogue answer ∷ h.pairs) ≡ waiting
  new-queue answer is_reply = by (is_birth_of d (with_answer Event.new_dialogue answer)) refl
    where
      by : (b : Bool) → is_birth_of d (with_answer Event.new_dialogue answer) ≡ b →
          (if b then [] else waiting) ≡ waiting
      by false e = refl
      by true e =
          let born = that-is d (born_of Event.new_dialogue answer) e in
          sym (next-empty (sym (dialogue-next h Event.new_dialogue d
          (ap (born_of Event.new_dialogue) (sym is_reply) ∙ born))))

  module _ (from : Address) (bytes : List ℕ) where
    abbrev here : Pair
    here = with_answer (Event.received from bytes) (reply h (Event.received from bytes))

    abbrev rejects : List ComponentParts
    rejects = rejects_formed d h.pairs (frame_at bytes)

    -- those that fit beside what waits
    abbrev fit : List ComponentParts
    fit = fitting (length (joined waiting)) rejects

    grown : is_taken d here.answer ≡ true → queue d (here ∷ h.pairs) ≡ waiting ++ written_all fit
    grown e =
        received-agrees h d from bytes waiting next-empty
        ∙ (ap (λ b. if b then queue_each queue_limit waiting (written_all rejects) else waiting) e
        ∙ each-fitting rejects waiting)

    kept : is_taken d here.answer ≡ false → queue d (here ∷ h.pairs) ≡ waiting
    kept e =
        received-agrees h d from bytes waiting next-empty
        ∙ ap (λ b. if b then queue_each queue_limit waiting (written_all rejects) else waiting) e

    -- the Rejects that are submitted
    abbrev made : ℕ → Bool → List Submitted
    made count taken = if taken then map submitted_reject (fitting count rejects) else []

    received-waits : WaitsUnsent d (here ∷ h.pairs)
    received-waits = by (is_taken d here.answer) refl
      where
        by : (b : Bool) → is_taken d here.answer ≡ b → WaitsUnsent d (here ∷ h.pairs)
        by false e =
            step d here h.pairs waits false [] [] waiting refl refl
            (ap (made (octet_count (unsent d [] h.pairs))) e) (kept e) (stays d here h.pairs waits)
        by true e =
            let count : length (joined waiting) ≡ octet_count (unsent d [] h.pairs) =
            octets-counted (unsent d [] h.pairs) waiting (waits-now d h.pairs waits) in
            let good = fitting-good (length (joined waiting)) rejects (rejects-good d h.pairs (frame_at bytes)) in
            step d here h.pairs waits false [] (map submitted_reject fit) (waiting ++ written_all fit) refl refl
            (ap (made (octet_count (unsent d [] h.pairs))) e
            ∙ ap (λ (n : ℕ). map submitted_reject (fitting n rejects)) (sym count))
            (grown e)
            (more d here h.pairs waits (map submitted_reject fit) (written_all fit) (rejects-written fit good))

  pair-waits : (event : Event) (answer : Answer) → IsTrue (is_in_range event) → answer ≡ reply h event →
      WaitsUnsent d (with_answer event answer ∷ h.pairs)
  pair-waits Event.new_dialogue answer range is_reply =
      let here : Pair = with_answer Event.new_dialogue answer in
      step d here h.pairs waits false [] [] waiting refl refl refl (new-queue answer is_reply)
      (stays d here h.pairs waits)
  pair-waits (Event.on_dialogue named request) answer range is_reply = by (named == d) refl
    where
      by : (b : Bool) → (named == d) ≡ b → WaitsUnsent d
          (with_answer (Event.on_dialogue named request) answer ∷ h.pairs)
      by true e =
          request-waits h d named idle_ms e waits request answer
          (and_parts (is_short named) (is_request request) range).1 is_reply (is_accepted answer) refl
      by false e =
          let here : Pair = with_answer (Event.on_dialogue named request) answer in
          step d here h.pairs waits false [] [] waiting
          (ap (λ (b : Bool). (b && sends_components request) && is_accepted answer) e)
          (ap (λ (b : Bool). if b then given_up_in answer else []) e)
          (ap (λ (b : Bool). if b && is_accepted answer then asked_for request answer else []) e)
          (ap (λ b. if b then queue_if_accepted (is_accepted answer) waiting request answer else waiting) e)
          (stays d here h.pairs waits)
  pair-waits (Event.received from bytes) answer range is_reply =
      subst (λ (a : Answer). WaitsUnsent d (with_answer (Event.received from bytes) a ∷ h.pairs)) (sym is_reply)
      (received-waits from bytes)
  pair-waits (Event.moment now) answer range is_reply =
      let here : Pair = with_answer (Event.moment now) answer in
      step d here h.pairs waits false [] [] waiting refl refl refl refl (stays d here h.pairs waits)

pub queue-unsent : (start : Start) (d : ℕ) (past : Past) → AreReplies start past → WaitsUnsent d past
queue-unsent start d [] legal = λ given. tt
queue-unsent start d (pair ∷ past) legal =
    pair-waits (record { start = start; pairs = past }) d pair.idle_ms legal.2 (queue-unsent start d past legal.2)
    pair.event pair.answer legal.0.in_range legal.1
