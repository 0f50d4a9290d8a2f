-- How long the message of a request would be, and the message that the engine's move sends.
use Rattle.std.proofs.Common.{◌≡◌, ℕ, ℤ, ◌+◌, true, if◌then◌else◌, List, [], ◌∷◌, ◌++◌, map, Option, Some, None, Result, Ok, Err, refl, sym, ap, ◌∙◌, arith, length}
use Rattle.std.proofs.lemmas.List.{length-map}
use Rattle.std.specs.Prelude.{IfOk, IfErr, OnOk}
use Rattle.tcap_dialogue.specs.MessageLength.{IsJudged, dialogue_fault, octets_of}
use Rattle.tcap_dialogue.specs.StepViews.{asked}
use Rattle.tcap_engine.specs.AnswerKinds.{AnswerKind, kind_of}
use Rattle.tcap_engine.specs.MessageLength.{ended_by, ends_dialogue, message_count, open_in, sent_in, sent_length}
use Rattle.tcap_engine.specs.Running.{outputs_in}
use Rattle.tcap_invocation.specs.Closing.{ended_at, given_up_at}
use Rattle.tcap_invocation.specs.Invocations.{InvocationList}
use Rattle.tcap_model.specs.Procedures.AbortRules.{sent_if_any}
use Rattle.tcap_model.specs.Procedures.Refusals.{due_on}
use Rattle.tcap_model.specs.Procedures.RequestMessage.{message_of}
use Rattle.tcap_model.specs.Table.Dialogue.{Dialogue}
use Rattle.tcap_model.specs.Table.EngineMove.{engine_move, dialogue_in, requested_in, setting_in}
use Rattle.tcap_model.specs.Table.TableMove.{Setting, accepted, ended_told, giving_up, requested_by, situation, table_move}
use Rattle.tcap_model.specs.Table.World.{World}
use Rattle.tcap_model.specs.Words.Address.{Address}
use Rattle.tcap_model.specs.Words.Answer.{Answer, is_accepted}
use Rattle.tcap_model.specs.Words.Event.{Event}
use Rattle.tcap_model.specs.Words.Fault.{Fault}
use Rattle.tcap_model.specs.Words.Output.{Output, Closing, ComponentIndication}
use Rattle.tcap_model.specs.Words.Request.{Request, ComponentRequest, DialogueRequest}
use Rattle.tcap_pdu.specs.FrameSpelling.{Message}
use Rattle.tcap_primitives.specs.FaultViews.{fault_view}
use Rattle.tcap_primitives.specs.declared.fault.Fault.{Fault as RequestFault}

-- ---- what is sent

-- No message is among the ends of invocations.
none-ended : (dialogue : ℕ) (es : List (ℕ × ℤ)) → sent_in (map (λ e. Output.component (ComponentIndication.closed dialogue e.0 e.1 Closing.ended)) es) ≡ None
none-ended dialogue [] = refl
none-ended dialogue (e ∷ es) = none-ended dialogue es

-- The message comes first.
sent-first : (to : Address) (o : Option Message) (dialogue : ℕ) (list : InvocationList) → sent_in (sent_if_any to o ++ ended_told dialogue list) ≡ octets_of o
sent-first to None dialogue list = none-ended dialogue (ended_at list.rows)
sent-first to (Some m) dialogue list = refl

-- It is alone.
sent-alone : (to : Address) (o : Option Message) → sent_in (sent_if_any to o) ≡ octets_of o
sent-alone to None = refl
sent-alone to (Some m) = refl

none-given_up : (d : Dialogue) (id : ℤ) (o : Option ℕ) → sent_length (giving_up d id o).answer ≡ None
none-given_up d id None = refl
none-given_up d id (Some number) = refl

-- The answer to an accepted request sends the request's message.
sent-accepted : (s : Setting) (d : Dialogue) (r : Request) → sent_length (accepted s d r).answer ≡ octets_of (message_of d.standing r)
sent-accepted s d (Request.component (ComponentRequest.invoke id class code parameter linked timeout)) = refl
sent-accepted s d (Request.component (ComponentRequest.result_last id body)) = refl
sent-accepted s d (Request.component (ComponentRequest.result_more id body)) = refl
sent-accepted s d (Request.component (ComponentRequest.error_back id code parameter)) = refl
sent-accepted s d (Request.component (ComponentRequest.u_reject id problem)) = refl
sent-accepted s d (Request.component (ComponentRequest.u_cancel id)) = none-given_up d id (given_up_at d.invocations.rows id)
sent-accepted s d (Request.dialogue (DialogueRequest.uni to context info)) = refl
sent-accepted s d (Request.dialogue (DialogueRequest.begin to context info)) = refl
sent-accepted s d (Request.dialogue (DialogueRequest.go_on context info)) =
    sent-alone d.kept (message_of d.standing (Request.dialogue (DialogueRequest.go_on context info)))
sent-accepted s d (Request.dialogue (DialogueRequest.finish ending context info)) =
    sent-first d.kept (message_of d.standing (Request.dialogue (DialogueRequest.finish ending context info))) d.standing.identifier d.invocations
sent-accepted s d (Request.dialogue (DialogueRequest.u_abort why info)) =
    sent-first d.kept (message_of d.standing (Request.dialogue (DialogueRequest.u_abort why info))) d.standing.identifier d.invocations

-- A request of dialogue handling that is accepted is answered with what is sent and told.
told-accepted : (s : Setting) (d : Dialogue) (r : DialogueRequest) → is_accepted (accepted s d (Request.dialogue r)).answer ≡ true
told-accepted s d (DialogueRequest.uni to context info) = refl
told-accepted s d (DialogueRequest.begin to context info) = refl
told-accepted s d (DialogueRequest.go_on context info) = refl
told-accepted s d (DialogueRequest.finish ending context info) = refl
told-accepted s d (DialogueRequest.u_abort why info) = refl

-- So many outputs follow the message.
told-behind : (to : Address) (o : Option Message) (dialogue : ℕ) (list : InvocationList)
    → length (sent_if_any to o ++ ended_told dialogue list) ≡ message_count (sent_in (sent_if_any to o ++ ended_told dialogue list)) + length (ended_at list.rows)
told-behind to None dialogue list =
    rw (none-ended dialogue (ended_at list.rows)) (length-map (ended_at list.rows) (λ e. Output.component (ComponentIndication.closed dialogue e.0 e.1 Closing.ended)) ∙ omega arith)
told-behind to (Some m) dialogue list =
    let ended = length-map (ended_at list.rows) (λ e. Output.component (ComponentIndication.closed dialogue e.0 e.1 Closing.ended)) in omega (arith, ended)

told-alone : (to : Address) (o : Option Message) → length (sent_if_any to o) ≡ message_count (sent_in (sent_if_any to o)) + 0
told-alone to None = refl
told-alone to (Some m) = refl

-- An accepted request of dialogue handling is answered with its message, and the end of each invocation that it ends.
all-told : (s : Setting) (d : Dialogue) (r : DialogueRequest)
    → length (outputs_in (accepted s d (Request.dialogue r)).answer)
    ≡ message_count (sent_length (accepted s d (Request.dialogue r)).answer) + (if ends_dialogue (Request.dialogue r) then open_in (Some d) else 0)
all-told s d (DialogueRequest.uni to context info) =
    told-behind to (message_of d.standing (Request.dialogue (DialogueRequest.uni to context info))) d.standing.identifier d.invocations
all-told s d (DialogueRequest.begin to context info) = refl
all-told s d (DialogueRequest.go_on context info) =
    told-alone d.kept (message_of d.standing (Request.dialogue (DialogueRequest.go_on context info)))
all-told s d (DialogueRequest.finish ending context info) =
    told-behind d.kept (message_of d.standing (Request.dialogue (DialogueRequest.finish ending context info))) d.standing.identifier d.invocations
all-told s d (DialogueRequest.u_abort why info) =
    told-behind d.kept (message_of d.standing (Request.dialogue (DialogueRequest.u_abort why info))) d.standing.identifier d.invocations

-- ---- the fault that is due

-- Whatever the moment and the next number are, the same fault of a request of dialogue handling is due.
due-alike : (clock number : ℕ) (d : Dialogue) (r : DialogueRequest)
    → due_on (situation (asked clock number) d (Request.dialogue r)) (Request.dialogue r) ≡ dialogue_fault d (Request.dialogue r)
due-alike clock number d (DialogueRequest.uni to context info) = refl
due-alike clock number d (DialogueRequest.begin to context info) = refl
due-alike clock number d (DialogueRequest.go_on context info) = refl
due-alike clock number d (DialogueRequest.finish ending context info) = refl
due-alike clock number d (DialogueRequest.u_abort why info) = refl

-- ---- the engine's move

-- The answer to a request on a dialogue.
abbrev answer_on : World → Dialogue → Request → Answer
answer_on w d r = (requested_by (setting_in w) d r (due_on (situation (setting_in w) d r) r)).answer

moved-answer : (w : World) (identifier : ℕ) (d : Dialogue) (r : Request) → Some d ≡ dialogue_in identifier w.dialogues
    → (engine_move w (Event.on_dialogue identifier r)).answer ≡ answer_on w d r
unfolding engine_move table_move
moved-answer w identifier d r found = rw (sym found) refl

-- The message that is sent is as long as it was judged to be.
pub judged-length : (w : World) (identifier : ℕ) (d : Dialogue) (r : Request) (count : Option ℕ) → Some d ≡ dialogue_in identifier w.dialogues
    → IsJudged d r (Ok count) → count ≡ sent_length (engine_move w (Event.on_dialogue identifier r)).answer
judged-length w identifier d r count found h = go r h ∙ ap sent_length (sym (moved-answer w identifier d r found))
  where
    component : (r : ComponentRequest) (o : Option Fault) → None ≡ sent_length (requested_by (setting_in w) d (Request.component r) o).answer
    component r None = sym (sent-accepted (setting_in w) d (Request.component r))
    component r (Some f) = refl

    go : (r : Request) → IsJudged d r (Ok count) → count ≡ sent_length (answer_on w d r)
    go (Request.component r) h = h.0 ∙ component r (due_on (situation (setting_in w) d (Request.component r)) (Request.component r))
    go (Request.dialogue r) h =
        let none = due-alike w.clock w.next_number d r ∙ h.1 in
        h.0 ∙ sym (ap (λ (o : Option Fault). sent_length (requested_by (setting_in w) d (Request.dialogue r) o).answer) none ∙ sent-accepted (setting_in w) d (Request.dialogue r))

-- It is accepted where it is one of dialogue handling.
pub judged-accepted : (w : World) (identifier : ℕ) (d : Dialogue) (r : Request) (count : Option ℕ) → Some d ≡ dialogue_in identifier w.dialogues
    → IsJudged d r (Ok count) → kind_of r ≡ AnswerKind.outputs → is_accepted (engine_move w (Event.on_dialogue identifier r)).answer ≡ true
judged-accepted w identifier d r count found h kind = ap is_accepted (moved-answer w identifier d r found) ∙ go r h kind
  where
    go : (r : Request) → IsJudged d r (Ok count) → kind_of r ≡ AnswerKind.outputs → is_accepted (answer_on w d r) ≡ true
    go (Request.component (ComponentRequest.invoke id class code parameter linked timeout)) h kind = absurd cc
    go (Request.component (ComponentRequest.result_last id body)) h kind = absurd cc
    go (Request.component (ComponentRequest.result_more id body)) h kind = absurd cc
    go (Request.component (ComponentRequest.error_back id code parameter)) h kind = absurd cc
    go (Request.component (ComponentRequest.u_reject id problem)) h kind = absurd cc
    go (Request.component (ComponentRequest.u_cancel id)) h kind = absurd cc
    go (Request.dialogue r) h kind =
        let none = due-alike w.clock w.next_number d r ∙ h.1 in
        ap (λ (o : Option Fault). is_accepted (requested_by (setting_in w) d (Request.dialogue r) o).answer) none ∙ told-accepted (setting_in w) d r

-- It is refused as it was judged.
pub judged-refused : (w : World) (identifier : ℕ) (d : Dialogue) (r : Request) (f : RequestFault) → Some d ≡ dialogue_in identifier w.dialogues
    → IsJudged d r (Err f) → (engine_move w (Event.on_dialogue identifier r)).answer ≡ Answer.refused (fault_view f)
judged-refused w identifier d r f found h = moved-answer w identifier d r found ∙ go r h
  where
    go : (r : Request) → IsJudged d r (Err f) → answer_on w d r ≡ Answer.refused (fault_view f)
    go (Request.component r) h = absurd cc
    go (Request.dialogue r) h =
        let due = due-alike w.clock w.next_number d r ∙ h in
        ap (λ (o : Option Fault). (requested_by (setting_in w) d (Request.dialogue r) o).answer) due

-- Where no dialogue stands it is refused.
pub unknown-refused : (w : World) (identifier : ℕ) (r : Request) → None ≡ dialogue_in identifier w.dialogues
    → (engine_move w (Event.on_dialogue identifier r)).answer ≡ Answer.refused Fault.unknown_dialogue
unfolding engine_move
unknown-refused w identifier r none = rw (sym none) refl

-- How much it is answered with where it is accepted.
pub ended-told : (w : World) (identifier : ℕ) (r : Request) → kind_of r ≡ AnswerKind.outputs
    → is_accepted (engine_move w (Event.on_dialogue identifier r)).answer ≡ true
    → length (outputs_in (engine_move w (Event.on_dialogue identifier r)).answer)
    ≡ message_count (sent_length (engine_move w (Event.on_dialogue identifier r)).answer) + ended_by w identifier r
unfolding engine_move table_move
ended-told w identifier r kind is = go (dialogue_in identifier w.dialogues) is
  where
    by : (d : Dialogue) (r : DialogueRequest) (o : Option Fault) → is_accepted (requested_by (setting_in w) d (Request.dialogue r) o).answer ≡ true
        → length (outputs_in (requested_by (setting_in w) d (Request.dialogue r) o).answer)
        ≡ message_count (sent_length (requested_by (setting_in w) d (Request.dialogue r) o).answer) + (if ends_dialogue (Request.dialogue r) then open_in (Some d) else 0)
    by d r None is = all-told (setting_in w) d r
    by d r (Some f) is = absurd cc

    on : (d : Dialogue) (r : Request) → kind_of r ≡ AnswerKind.outputs → is_accepted (answer_on w d r) ≡ true
        → length (outputs_in (answer_on w d r)) ≡ message_count (sent_length (answer_on w d r)) + (if ends_dialogue r then open_in (Some d) else 0)
    on d (Request.component (ComponentRequest.invoke id class code parameter linked timeout)) kind is = absurd cc
    on d (Request.component (ComponentRequest.result_last id body)) kind is = absurd cc
    on d (Request.component (ComponentRequest.result_more id body)) kind is = absurd cc
    on d (Request.component (ComponentRequest.error_back id code parameter)) kind is = absurd cc
    on d (Request.component (ComponentRequest.u_reject id problem)) kind is = absurd cc
    on d (Request.component (ComponentRequest.u_cancel id)) kind is = absurd cc
    on d (Request.dialogue r) kind is = by d r (due_on (situation (setting_in w) d (Request.dialogue r)) (Request.dialogue r)) is

    go : (o : Option Dialogue) → is_accepted (requested_in w identifier r o).answer ≡ true
        → length (outputs_in (requested_in w identifier r o).answer) ≡ message_count (sent_length (requested_in w identifier r o).answer) + (if ends_dialogue r then open_in o else 0)
    go None is = absurd cc
    go (Some d) is = on d r kind is

-- ---- by the result

module _ (w : World) (identifier : ℕ) (d : Dialogue) (r : Request) where
  pub length-is : (result : Result (Option ℕ) RequestFault) → Some d ≡ dialogue_in identifier w.dialogues → IsJudged d r result
      → IfOk result (λ count. count ≡ sent_length (engine_move w (Event.on_dialogue identifier r)).answer)
  length-is (Ok count) found h = judged-length w identifier d r count found h
  length-is (Err f) found h = tt

  pub accepted-is : (result : Result (Option ℕ) RequestFault) → Some d ≡ dialogue_in identifier w.dialogues → IsJudged d r result
      → kind_of r ≡ AnswerKind.outputs → OnOk result (is_accepted (engine_move w (Event.on_dialogue identifier r)).answer ≡ true)
  accepted-is (Ok count) found h kind = judged-accepted w identifier d r count found h kind
  accepted-is (Err f) found h kind = tt

  pub refused-is : (result : Result (Option ℕ) RequestFault) → Some d ≡ dialogue_in identifier w.dialogues → IsJudged d r result
      → IfErr result (λ f. (engine_move w (Event.on_dialogue identifier r)).answer ≡ Answer.refused (fault_view f))
  refused-is (Ok count) found h = tt
  refused-is (Err f) found h = judged-refused w identifier d r f found h
