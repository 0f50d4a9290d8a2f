-- A refused request leaves its dialogue as it was.
use Rattle.std.proofs.Common.{◌≡◌, ℕ, ℤ, Option, Some, None, refl, ap, subst}
use Rattle.tcap_dialogue.specs.RequestForm.{RefusedBy}
use Rattle.tcap_dialogue.specs.StepViews.{Outcome, outcome}
use Rattle.tcap_invocation.specs.Closing.{given_up_at}
use Rattle.tcap_model.specs.Procedures.Refusals.{due_on}
use Rattle.tcap_model.specs.Table.Dialogue.{Dialogue}
use Rattle.tcap_model.specs.Table.TableMove.{Setting, Moved, DialogueEvent, table_move, requested_by, situation, accepted, giving_up, left_standing}
use Rattle.tcap_model.specs.Words.Answer.{Answer}
use Rattle.tcap_model.specs.Words.Fault as model
use Rattle.tcap_model.specs.Words.Request.{Request, ComponentRequest, DialogueRequest}

-- Where the answer is a refusal, the dialogue stands as it was.
abbrev pub StandsIfRefused : Dialogue → Option Dialogue → Answer → Type 0
StandsIfRefused d after (Answer.new_dialogue dialogue) = Unit {0}
StandsIfRefused d after (Answer.number number) = Unit {0}
StandsIfRefused d after Answer.done = Unit {0}
StandsIfRefused d after (Answer.given_up number) = Unit {0}
StandsIfRefused d after (Answer.outputs outputs) = Unit {0}
StandsIfRefused d after (Answer.refused f) = after ≡ Some d

-- The same of a move.
abbrev pub IsStill : Dialogue → Moved → Type 0
IsStill d m = StandsIfRefused d (left_standing m) m.answer

given-still : (d : Dialogue) (id : ℤ) (o : Option ℕ) → IsStill d (giving_up d id o)
given-still d id None = refl
given-still d id (Some number) = tt

accepted-still : (s : Setting) (d : Dialogue) (r : Request) → IsStill d (accepted s d r)
accepted-still s d (Request.component (ComponentRequest.invoke id class code parameter linked timeout)) = tt
accepted-still s d (Request.component (ComponentRequest.result_last id body)) = tt
accepted-still s d (Request.component (ComponentRequest.result_more id body)) = tt
accepted-still s d (Request.component (ComponentRequest.error_back id code parameter)) = tt
accepted-still s d (Request.component (ComponentRequest.u_reject id problem)) = tt
accepted-still s d (Request.component (ComponentRequest.u_cancel id)) = given-still d id (given_up_at d.invocations.rows id)
accepted-still s d (Request.dialogue (DialogueRequest.uni to context info)) = tt
accepted-still s d (Request.dialogue (DialogueRequest.begin to context info)) = tt
accepted-still s d (Request.dialogue (DialogueRequest.go_on context info)) = tt
accepted-still s d (Request.dialogue (DialogueRequest.finish ending context info)) = tt
accepted-still s d (Request.dialogue (DialogueRequest.u_abort why info)) = tt

requested-still : (s : Setting) (d : Dialogue) (r : Request) (due : Option model.Fault) → IsStill d (requested_by s d r due)
requested-still s d r (Some f) = refl
requested-still s d r None = accepted-still s d r

pub moved-still : (s : Setting) (d : Dialogue) (r : Request) → IsStill d (table_move s d (DialogueEvent.request r))
unfolding table_move
moved-still s d r = requested-still s d r (due_on (situation s d r) r)

-- A refused request leaves its dialogue as it was.
module _ (s : Setting) (r : Request) (x new : Dialogue) where
  abbrev moves : Outcome
  moves = outcome (table_move s x (DialogueEvent.request r))

  as-before : (f : model.Fault) → moves ≡ (Answer.refused f, Some new) → new ≡ x
  as-before f e =
      let stands : moves.1 ≡ Some x = subst (StandsIfRefused x moves.1) (ap (λ (o : Outcome). o.0) e) (moved-still s x r) in
      let left : moves.1 ≡ Some new = ap (λ (o : Outcome). o.1) e in
      cc

  pub refused-same : (f : model.Fault) → RefusedBy f moves x new → new ≡ x
  refused-same model.Fault.out_of_memory e = e.0
  refused-same model.Fault.unknown_dialogue e = as-before _ e
  refused-same model.Fault.wrong_state e = as-before _ e
  refused-same model.Fault.invoke_id_in_use e = as-before _ e
  refused-same model.Fault.no_such_invocation e = as-before _ e
  refused-same model.Fault.bad_timeout e = as-before _ e
  refused-same model.Fault.too_long e = as-before _ e
  refused-same model.Fault.dialogues_full e = as-before _ e
  refused-same model.Fault.dialogue_ids_spent e = as-before _ e
  refused-same model.Fault.numbers_spent e = as-before _ e
  refused-same model.Fault.bad_oid e = as-before _ e
  refused-same model.Fault.bad_parameter e = as-before _ e
  refused-same model.Fault.not_class_four e = as-before _ e
  refused-same model.Fault.moment_too_late e = as-before _ e
  refused-same model.Fault.no_context e = as-before _ e
