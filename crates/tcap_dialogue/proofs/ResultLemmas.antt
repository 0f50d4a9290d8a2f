-- Requests that answer the peer: the fault that is due, and what is answered.
use Rattle.std.proofs.Common.{◌≡◌, ◌≢◌, ℕ, ◌&&◌, ◌||◌, ℤ, Bool, true, false, not, List, [], Option, Some, None, refl, sym, ap, subst, ◌∙◌, if◌then◌else◌}
use Rattle.tcap_pdu.specs.DialoguePartsReading.{is_information}
use Rattle.tcap_component.specs.Component.{CodeParts, BodyParts, ComponentParts}
use Rattle.tcap_component.specs.Written.{coded_part, has_code, has_parameter}
use Rattle.tcap_model.specs.Procedures.QueueRules.{queue_limit, fits, queued}
use Rattle.tcap_model.specs.Procedures.States.{has_peer}
use Rattle.tcap_model.specs.Table.Dialogue.{Dialogue}
use Rattle.tcap_model.specs.Table.TableMove.{requested_by}
use Rattle.tcap_model.specs.Words.Fault.{Fault}
use Rattle.tcap_model.specs.Words.Request.{Request, ComponentRequest}
use Rattle.tcap_dialogue.specs.ComponentRefusals.{answer_fault, answered_by, answered}
use Rattle.tcap_dialogue.specs.RequestForm.{RefusedBy}
use Rattle.tcap_dialogue.specs.StepViews.{outcome, asked, requested}
use Rattle.tcap_dialogue.proofs.RefusalLemmas.{refused}
use Rattle.tcap_dialogue.proofs.InvokeLemmas.{information-none, queued_by}

-- ---- answers to the peer, by their tests in order

abbrev answered_in : (peer code parameter room : Bool) → Option Fault
answered_in peer code parameter room = if peer then queued_by code parameter room else Some Fault.wrong_state

no_memory : (peer code parameter room : Bool) → answered_in peer code parameter room ≢ Some Fault.out_of_memory
no_memory false code parameter room = λ e. cc
no_memory true false parameter room = λ e. cc
no_memory true true false room = λ e. cc
no_memory true true true false = λ e. cc
no_memory true true true true = λ e. cc

answer_due : (peer code parameter room : Bool) →
    (if not peer then Some Fault.wrong_state
    else if not (true && code) then Some Fault.bad_oid
    else if not (is_information [] && parameter) then Some Fault.bad_parameter
    else if (not room || false) then Some Fault.too_long
    else None) ≡ answered_in peer code parameter room
answer_due false code parameter room = refl
answer_due true false parameter room = refl
answer_due true true false room = rw information-none refl
answer_due true true true false = rw information-none refl
answer_due true true true true = rw information-none refl

-- An answer that is refused leaves the dialogue as it was.
pub answer-refused : (f : Fault) (d : Dialogue) (c : ComponentParts) → Some f ≡ answer_fault d c → RefusedBy f (answered d c) d d
answer-refused f d c e =
    let is_fault : f ≢ Fault.out_of_memory = λ q. no_memory (has_peer d.standing.state) (has_code (coded_part c)) (has_parameter (coded_part c)) (fits queue_limit d.standing.queue (queued None c)) (sym e ∙ ap (λ (x : Fault). Some x) q) in
    subst (λ (o : Option Fault). RefusedBy f (answered_by d c o) d d) e (refused f is_fault d)

-- ---- what the table says of an answer

module _ (clock number : ℕ) (d : Dialogue) where
  last_by : (id : ℤ) (body : Option BodyParts) (o : Option Fault) →
      outcome (requested_by (asked clock number) d (Request.component (ComponentRequest.result_last id body)) o) ≡ answered_by d (ComponentParts.result_last id body) o
  last_by id body (Some f) = refl
  last_by id body None = refl

  more_by : (id : ℤ) (body : Option BodyParts) (o : Option Fault) →
      outcome (requested_by (asked clock number) d (Request.component (ComponentRequest.result_more id body)) o) ≡ answered_by d (ComponentParts.result_more id body) o
  more_by id body (Some f) = refl
  more_by id body None = refl

  error_by : (id : ℤ) (code : CodeParts) (parameter : Option (List ℕ)) (o : Option Fault) →
      outcome (requested_by (asked clock number) d (Request.component (ComponentRequest.error_back id code parameter)) o) ≡ answered_by d (ComponentParts.error_back id code parameter) o
  error_by id code parameter (Some f) = refl
  error_by id code parameter None = refl

  due_answer : (c : ComponentParts) →
      (if not (has_peer d.standing.state) then Some Fault.wrong_state
      else if not (true && has_code (coded_part c)) then Some Fault.bad_oid
      else if not (is_information [] && has_parameter (coded_part c)) then Some Fault.bad_parameter
      else if (not (fits queue_limit d.standing.queue (queued None c)) || false) then Some Fault.too_long
      else None) ≡ answer_fault d c
  due_answer c = answer_due (has_peer d.standing.state) (has_code (coded_part c)) (has_parameter (coded_part c)) (fits queue_limit d.standing.queue (queued None c))

  -- A result.
  pub result-answered : (id : ℤ) (body : Option BodyParts) → requested clock number d (Request.component (ComponentRequest.result_last id body)) ≡ answered d (ComponentParts.result_last id body)
  result-answered id body =
      last_by id body _ ∙ ap (answered_by d (ComponentParts.result_last id body)) (due_answer (ComponentParts.result_last id body))

  -- A part of a result.
  pub more-answered : (id : ℤ) (body : Option BodyParts) → requested clock number d (Request.component (ComponentRequest.result_more id body)) ≡ answered d (ComponentParts.result_more id body)
  more-answered id body =
      more_by id body _ ∙ ap (answered_by d (ComponentParts.result_more id body)) (due_answer (ComponentParts.result_more id body))

  -- An error.
  pub error-answered : (id : ℤ) (code : CodeParts) (parameter : Option (List ℕ)) → requested clock number d (Request.component (ComponentRequest.error_back id code parameter)) ≡ answered d (ComponentParts.error_back id code parameter)
  error-answered id code parameter =
      error_by id code parameter _ ∙ ap (answered_by d (ComponentParts.error_back id code parameter)) (due_answer (ComponentParts.error_back id code parameter))
