-- The message of a request has no more octets than an engine sends.
use Rattle.std.proofs.Common.{◌≡◌, ℕ, ℤ, ◌≤◌, Bool, false, List, [], ◌∷◌, ◌++◌, map, Option, Some, None, inl, inr, refl, ap, ◌∙◌, arith}
use Rattle.std.proofs.lemmas.Bool.{cases_Bool, or_parts}
use Rattle.std.specs.List.{AllByRecursion}
use Rattle.tcap_dialogue.specs.MessageLength.{octets_of}
use Rattle.tcap_engine.specs.AnswerKinds.{AnswerKind, kind_of}
use Rattle.tcap_engine.specs.MessageLength.{sent_in, sent_length}
use Rattle.tcap_invocation.specs.Closing.{ended_at}
use Rattle.tcap_invocation.specs.Invocations.{InvocationList}
use Rattle.tcap_model.specs.Procedures.AbortRules.{sent_if_any}
use Rattle.tcap_model.specs.Procedures.ComponentRequest.{queued_for}
use Rattle.tcap_model.specs.Procedures.Refusals.{Situation, due_on, faults_of, first_that, holds, passes_message, passes_queue}
use Rattle.tcap_model.specs.Procedures.RequestMessage.{message_of}
use Rattle.tcap_model.specs.Table.Dialogue.{Dialogue}
use Rattle.tcap_model.specs.Table.EngineMove.{dialogue_in, engine_move, requested_in, setting_in}
use Rattle.tcap_model.specs.Table.TableMove.{Setting, accepted, ended_told, requested_by, situation, table_move}
use Rattle.tcap_model.specs.Table.World.{World}
use Rattle.tcap_model.specs.Words.Address.{Address}
use Rattle.tcap_model.specs.Words.Event.{Event}
use Rattle.tcap_model.specs.Words.Fault.{Fault}
use Rattle.tcap_model.specs.Words.Output.{Output, Closing, ComponentIndication}
use Rattle.tcap_model.specs.Words.Request.{ComponentRequest, DialogueRequest, Request}
use Rattle.tcap_pdu.specs.FrameSpelling.{Message}
use Rattle.tcap_station.specs.Station.{is_above, sends_above}

-- ---- no fault is due

-- Where none of these faults is due, none holds.
none-holds : (holds : Fault → Bool) (faults : List Fault) → first_that holds faults ≡ None → AllByRecursion (λ f. holds f ≡ false) faults
none-holds holds [] due = tt
none-holds holds (f ∷ faults) due = elim (cases_Bool (holds f)) [
  | inl t ↦ let due = due in let s : Some f ≡ None = rw t at due in absurd cc
  | inr n ↦ let due = due in (n, none-holds holds faults (rw n at due))
]

short : (s : Situation) (r : Request) → holds s r Fault.too_long ≡ false → passes_message (message_of s.standing r) ≡ false
short s r no-fault = (or_parts (passes_queue s.limit s.standing.queue (queued_for s.number r)) (passes_message (message_of s.standing r)) no-fault).1

-- Where no fault of a request of dialogue handling is due, its message is within the limit.
due-short : (s : Situation) (r : DialogueRequest) → due_on s (Request.dialogue r) ≡ None → passes_message (message_of s.standing (Request.dialogue r)) ≡ false
due-short s (DialogueRequest.uni to context info) due =
    let r : Request = Request.dialogue (DialogueRequest.uni to context info) in short s r (none-holds (holds s r) (faults_of r) due).1.1.1.1.1.1.0
due-short s (DialogueRequest.begin to context info) due =
    let r : Request = Request.dialogue (DialogueRequest.begin to context info) in short s r (none-holds (holds s r) (faults_of r) due).1.1.1.1.1.0
due-short s (DialogueRequest.go_on context info) due =
    let r : Request = Request.dialogue (DialogueRequest.go_on context info) in short s r (none-holds (holds s r) (faults_of r) due).1.1.1.1.1.0
due-short s (DialogueRequest.finish ending context info) due =
    let r : Request = Request.dialogue (DialogueRequest.finish ending context info) in short s r (none-holds (holds s r) (faults_of r) due).1.1.1.1.1.0
due-short s (DialogueRequest.u_abort why info) due =
    let r : Request = Request.dialogue (DialogueRequest.u_abort why info) in short s r (none-holds (holds s r) (faults_of r) due).1.1.1.1.0

-- ---- what is sent then

none-ended : (dialogue : ℕ) (es : List (ℕ × ℤ)) → sent_in (map (λ e. Output.component (ComponentIndication.closed dialogue e.0 e.1 Closing.ended)) es) ≡ None
none-ended dialogue [] = refl
none-ended dialogue (e ∷ es) = none-ended dialogue es

sent-first : (to : Address) (o : Option Message) (dialogue : ℕ) (list : InvocationList) → sent_in (sent_if_any to o ++ ended_told dialogue list) ≡ octets_of o
sent-first to None dialogue list = none-ended dialogue (ended_at list.rows)
sent-first to (Some m) dialogue list = refl

sent-alone : (to : Address) (o : Option Message) → sent_in (sent_if_any to o) ≡ octets_of o
sent-alone to None = refl
sent-alone to (Some m) = refl

-- An accepted request of dialogue handling sends its message.
sent : (s : Setting) (d : Dialogue) (r : DialogueRequest)
    → sent_length (accepted s d (Request.dialogue r)).answer ≡ octets_of (message_of d.standing (Request.dialogue r))
sent s d (DialogueRequest.uni to context info) = refl
sent s d (DialogueRequest.begin to context info) = refl
sent s d (DialogueRequest.go_on context info) = sent-alone d.kept (message_of d.standing (Request.dialogue (DialogueRequest.go_on context info)))
sent s d (DialogueRequest.finish ending context info) =
    sent-first d.kept (message_of d.standing (Request.dialogue (DialogueRequest.finish ending context info))) d.standing.identifier d.invocations
sent s d (DialogueRequest.u_abort why info) =
    sent-first d.kept (message_of d.standing (Request.dialogue (DialogueRequest.u_abort why info))) d.standing.identifier d.invocations

-- ---- the move of an engine

module _ (most : ℕ) (above : 65535 ≤ most) where
  within : (m : Option Message) → passes_message m ≡ false → is_above most (octets_of m) ≡ false
  within None is-short = refl
  within (Some m) is-short = grind arith

  judged : (w : World) (d : Dialogue) (r : DialogueRequest) (due : Option Fault)
      → due_on (situation (setting_in w) d (Request.dialogue r)) (Request.dialogue r) ≡ due
      → sends_above most (requested_by (setting_in w) d (Request.dialogue r) due).answer ≡ false
  judged w d r (Some f) is = refl
  judged w d r None is =
      ap (λ (o : Option ℕ). is_above most o) (sent (setting_in w) d r)
      ∙ within (message_of d.standing (Request.dialogue r)) (due-short (situation (setting_in w) d (Request.dialogue r)) r is)

  asked : (w : World) (identifier : ℕ) (r : DialogueRequest) (o : Option Dialogue)
      → sends_above most (requested_in w identifier (Request.dialogue r) o).answer ≡ false
  unfolding table_move
  asked w identifier r None = refl
  asked w identifier r (Some d) = judged w d r (due_on (situation (setting_in w) d (Request.dialogue r)) (Request.dialogue r)) refl

  -- No request has a longer message.
  pub none-above : (w : World) (identifier : ℕ) (r : Request) → kind_of r ≡ AnswerKind.outputs
      → sends_above most (engine_move w (Event.on_dialogue identifier r)).answer ≡ false
  unfolding engine_move
  none-above w identifier (Request.dialogue r) kind = asked w identifier r (dialogue_in identifier w.dialogues)
  none-above w identifier (Request.component (ComponentRequest.invoke id class code parameter linked timeout)) kind = absurd cc
  none-above w identifier (Request.component (ComponentRequest.result_last id body)) kind = absurd cc
  none-above w identifier (Request.component (ComponentRequest.result_more id body)) kind = absurd cc
  none-above w identifier (Request.component (ComponentRequest.error_back id code parameter)) kind = absurd cc
  none-above w identifier (Request.component (ComponentRequest.u_reject id problem)) kind = absurd cc
  none-above w identifier (Request.component (ComponentRequest.u_cancel id)) kind = absurd cc
