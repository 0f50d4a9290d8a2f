-- The premises of "after the Invoke", from what each pair of a list is.
use Rattle.std.proofs.Common.{◌≡◌, ℕ, ℤ, false, true, Bool, Option, Some, None, refl, ap, subst, sym, ◌∙◌}
use Rattle.std.specs.List.{list_any}
use Rattle.std.proofs.lemmas.Bool.{false≢true}
use Rattle.tcap_component.specs.declared.problem.Kind.{Kind}
use Rattle.tcap_component.specs.declared.problem.Kind.TheVariants as kind
use Rattle.tcap_examples.proofs.PlaceLemmas.{Everywhere, at_place, outputs_of, told_any}
use Rattle.tcap_model.specs.Words.Event.{Event}
use Rattle.tcap_model.specs.Invocations.Invocation.{Invocation, invoked_by}
use Rattle.tcap_model.specs.Statements.Net.{Engine, Trace, side}
use Rattle.tcap_model.specs.Words.Output.{Output, ComponentIndication}
use Rattle.tcap_model.specs.Histories.Pair.{Pair, Past}
use Rattle.tcap_model.specs.Words.Request.{Request, ComponentRequest}
use Rattle.tcap_model.specs.Statements.TwoEnds.{AcceptedInvoke, UsesOnce, AnswersInvoke, WasInvoked, AnswersWhatItWasTold, WasOpened}

-- ---- one invocation

-- An invocation that a pair makes in the dialogue has this number.
abbrev pub IsOnly : ℕ → ℕ → Option Invocation → Type 0
IsOnly dialogue number None = Unit {0}
IsOnly dialogue number (Some i) = i.dialogue ≡ dialogue → i.number ≡ number

pub uses_once : (engine : Engine) (dialogue number : ℕ) (trace : Trace) → Everywhere (λ (pair : Pair) before. IsOnly dialogue number (invoked_by pair)) (side engine trace) → UsesOnce engine dialogue trace
uses_once engine dialogue number trace all one other in_one in_other same =
    numbered one in_one ∙ sym (numbered other in_other)
  where
    numbered : (made : AcceptedInvoke (side engine trace)) → made.invocation.dialogue ≡ dialogue
        → made.invocation.number ≡ number
    numbered made =
        let P : Pair → Past → Type 0 = λ pair before. IsOnly dialogue number (invoked_by pair) in
        subst (IsOnly dialogue number) made.makes (at_place P (side engine trace) all made.pair made.before made.stands)

-- ---- answers

-- The identifier of the Invoke that a Reject is of.
abbrev pub rejected : ℤ → Kind → Option ℤ
rejected id kind.General = Some id
rejected id kind.Invoke = Some id
rejected id kind.Result = None
rejected id kind.Error = None

-- The identifier of the Invoke that a request answers.
abbrev pub far_answered : Request → Option ℤ
far_answered (Request.component (ComponentRequest.invoke id class code parameter linked timeout)) = None
far_answered (Request.component (ComponentRequest.result_last id body)) = Some id
far_answered (Request.component (ComponentRequest.result_more id body)) = Some id
far_answered (Request.component (ComponentRequest.error_back id code parameter)) = Some id
far_answered (Request.component (ComponentRequest.u_reject None problem)) = None
far_answered (Request.component (ComponentRequest.u_reject (Some id) problem)) = rejected id problem.kind
far_answered (Request.component (ComponentRequest.u_cancel id)) = None
far_answered (Request.dialogue asked) = None

answers_is : (id : ℤ) (request : Request) → AnswersInvoke id request → far_answered request ≡ Some id
answers_is id request (AnswersInvoke.a_result_last body) = refl
answers_is id request (AnswersInvoke.a_result_more body) = refl
answers_is id request (AnswersInvoke.an_error code parameter) = refl
answers_is id request (AnswersInvoke.a_general_reject code) = refl
answers_is id request (AnswersInvoke.an_invoke_reject code) = refl

-- An Invoke with the identifier was told before, if there is one.
abbrev pub ToldFor : ℕ → Past → Option ℤ → Type 0
ToldFor dialogue before None = Unit {0}
ToldFor dialogue before (Some id) = WasInvoked dialogue id before

-- The Invoke that an event answers was told before.
abbrev pub ToldBefore : Event → Past → Type 0
ToldBefore Event.new_dialogue before = Unit {0}
ToldBefore (Event.on_dialogue dialogue request) before = ToldFor dialogue before (far_answered request)
ToldBefore (Event.received from bytes) before = Unit {0}
ToldBefore (Event.moment now) before = Unit {0}

pub answers_what_it_was_told : (engine : Engine) (trace : Trace)
    → Everywhere (λ (pair : Pair) before. ToldBefore pair.event before) (side engine trace)
    → AnswersWhatItWasTold engine trace
answers_what_it_was_told engine trace all answer =
    let P : Pair → Past → Type 0 = λ pair before. ToldBefore pair.event before in
    let here = at_place P (side engine trace) all answer.pair answer.before answer.stands in
    let told : ToldBefore (Event.on_dialogue answer.dialogue answer.request) answer.before =
    subst (λ (e : Event). ToldBefore e answer.before) answer.is_event here in
    subst (ToldFor answer.dialogue answer.before) (answers_is answer.id answer.request answer.answers) told

-- Whether an output tells an Invoke.
abbrev pub is_invoke : Output → Bool
is_invoke (Output.send to bytes) = false
is_invoke (Output.dialogue indication) = false
is_invoke (Output.component (ComponentIndication.invoked dialogue id linked code parameter)) = true
is_invoke (Output.component (ComponentIndication.result_more dialogue number id body)) = false
is_invoke (Output.component (ComponentIndication.local_reject dialogue id problem)) = false
is_invoke (Output.component (ComponentIndication.remote_reject dialogue id problem by)) = false
is_invoke (Output.component (ComponentIndication.closed dialogue number id closing)) = false
is_invoke (Output.dropped why) = false

-- No Invoke was told, so none with the identifier.
pub not_told : (dialogue : ℕ) (id : ℤ) (past : Past)
    → Everywhere (λ (pair : Pair) before. list_any is_invoke (outputs_of pair.answer) ≡ false) past
    → WasInvoked dialogue id past → ⊥
not_told dialogue id past none told =
    false≢true (sym (at_place (λ (pair : Pair) before. list_any is_invoke (outputs_of pair.answer) ≡ false) past none
    told.pair told.before told.stands) ∙ told_any is_invoke told.pair.answer
    (Output.component (ComponentIndication.invoked (Some dialogue) id told.linked told.code told.parameter))
    told.tells refl)

-- ---- who opened a dialogue

-- Whether a dialogue is asked for.
abbrev pub far_asks : Event → Bool
far_asks Event.new_dialogue = true
far_asks (Event.on_dialogue dialogue request) = false
far_asks (Event.received from bytes) = false
far_asks (Event.moment now) = false

pub not_opened : (engine : Engine) (dialogue : ℕ) (trace : Trace)
    → Everywhere (λ (pair : Pair) before. far_asks pair.event ≡ false) (side engine trace)
    → WasOpened engine dialogue trace → ⊥
not_opened engine dialogue trace none opened =
    false≢true (sym (at_place (λ (pair : Pair) before. far_asks pair.event ≡ false) (side engine trace) none opened.pair
    opened.before opened.stands) ∙ ap far_asks opened.is_event)
