-- The refusal of an Invoke where no number is left.
use Rattle.std.proofs.Common.{◌≡◌, ℕ, ℤ, ◌≤◌, Bool, true, false, List, Option, Some, None, refl, sym, subst, unwrap_or, if◌then◌else◌, arith}
use Rattle.std.proofs.lemmas.Bool.Decides.{nat_tests}
use Rattle.std.specs.Option.{option_map}
use Rattle.tcap_component.specs.Component.{CodeParts}
use Rattle.tcap_primitives.specs.declared.fault.Fault.{Fault}
use Rattle.tcap_primitives.specs.declared.fault.Fault.TheVariants as fault
use Rattle.tcap_dialogue.specs.RequestForm.{RefusedBy}
use Rattle.tcap_primitives.specs.FaultViews.{fault_view}
use Rattle.tcap_dialogue.specs.StepViews.{asked, outcome}
use Rattle.tcap_engine.specs.RequestInTable.{IsLeft}
use Rattle.tcap_invocation.specs.Closing.{given_up_at}
use Rattle.tcap_invocation.specs.declared.class.Class.{Class}
use Rattle.tcap_model.specs.Procedures.Refusals.{due_on, invoke_fault, holds}
use Rattle.tcap_model.specs.Table.Dialogue.{Dialogue}
use Rattle.tcap_model.specs.Table.TableMove.{Setting, DialogueEvent, table_move, requested_by, situation, accepted, giving_up}
use Rattle.tcap_model.specs.Words.Fault as model
use Rattle.tcap_model.specs.Words.Identifiers.{are_numbers_spent, last_number}
use Rattle.tcap_model.specs.Words.Request.{Request, ComponentRequest, DialogueRequest}

-- The faults of an Invoke, in order, before what comes last.
abbrev first_of_four : (timeout oid parameter used : Bool) → Option model.Fault → Option model.Fault
first_of_four timeout oid parameter used last =
    if timeout then Some model.Fault.bad_timeout
    else if oid then Some model.Fault.bad_oid
    else if parameter then Some model.Fault.bad_parameter
    else if used then Some model.Fault.invoke_id_in_use
    else last

module _ (s : Setting) (d : Dialogue) (r : Request) where
  -- A fault that is the one which is due.
  due : (f : Fault) (m : model.Fault) → Some (fault_view f) ≡ Some m → RefusedBy m (outcome (requested_by s d r (Some m))) d d → RefusedBy (fault_view f) (outcome (requested_by s d r (Some m))) d d
  due f m e h = let same : fault_view f ≡ m = cc in subst (λ v. RefusedBy v (outcome (requested_by s d r (Some m))) d d) (sym same) h

  spent : (timeout oid parameter used : Bool) (f : Option Fault) → option_map fault_view f ≡ first_of_four timeout oid parameter used None
      → RefusedBy (fault_view (unwrap_or f fault.NumbersSpent)) (outcome (requested_by s d r (first_of_four timeout oid parameter used (Some model.Fault.numbers_spent)))) d d
  spent true oid parameter used None e = absurd cc
  spent true oid parameter used (Some f) e = due f model.Fault.bad_timeout e refl
  spent false true parameter used None e = absurd cc
  spent false true parameter used (Some f) e = due f model.Fault.bad_oid e refl
  spent false false true used None e = absurd cc
  spent false false true used (Some f) e = due f model.Fault.bad_parameter e refl
  spent false false false true None e = absurd cc
  spent false false false true (Some f) e = due f model.Fault.invoke_id_in_use e refl
  spent false false false false None e = refl
  spent false false false false (Some f) e = absurd cc

-- An Invoke is refused with the first fault that the dialogue knows, or since no number is left.
pub spent-refused : (clock number : ℕ) (d : Dialogue) (id : ℤ) (class : Class) (code : CodeParts) (parameter : Option (List ℕ)) (linked : Option ℤ) (timeout : ℕ) (f : Option Fault) → are_numbers_spent number ≡ true
    → option_map fault_view f ≡ invoke_fault (situation (asked 0 number) d (Request.component (ComponentRequest.invoke id class code parameter linked timeout))) (Request.component (ComponentRequest.invoke id class code parameter linked timeout))
    → RefusedBy (fault_view (unwrap_or f fault.NumbersSpent)) (outcome (table_move (asked clock number) d (DialogueEvent.request (Request.component (ComponentRequest.invoke id class code parameter linked timeout))))) d d
unfolding table_move
spent-refused clock number d id class code parameter linked timeout f none e =
    let r : Request = Request.component (ComponentRequest.invoke id class code parameter linked timeout) in
    let s = situation (asked clock number) d r in
    rw none (spent (asked clock number) d r (holds s r model.Fault.bad_timeout) (holds s r model.Fault.bad_oid) (holds s r model.Fault.bad_parameter) (holds s r model.Fault.invoke_id_in_use) f e)

-- ---- a number that is given may be drawn

some-left : (timeout oid parameter used spent : Bool) (rest : Option model.Fault) → first_of_four timeout oid parameter used (if spent then Some model.Fault.numbers_spent else rest) ≡ None → spent ≡ false
some-left true oid parameter used spent rest e = absurd cc
some-left false true parameter used spent rest e = absurd cc
some-left false false true used spent rest e = absurd cc
some-left false false false true spent rest e = absurd cc
some-left false false false false true rest e = absurd cc
some-left false false false false false rest e = refl

given-left : (d : Dialogue) (id : ℤ) (o : Option ℕ) (next : ℕ) → IsLeft (giving_up d id o).answer next
given-left d id None next = tt
given-left d id (Some number) next = tt

accepted-left : (s : Setting) (d : Dialogue) (r : Request) → s.number ≤ last_number → due_on (situation s d r) r ≡ None → IsLeft (accepted s d r).answer s.number
accepted-left s d (Request.component (ComponentRequest.invoke id class code parameter linked timeout)) le e =
    let r : Request = Request.component (ComponentRequest.invoke id class code parameter linked timeout) in
    let t = situation s d r in
    let left : are_numbers_spent s.number ≡ false =
    some-left (holds t r model.Fault.bad_timeout) (holds t r model.Fault.bad_oid) (holds t r model.Fault.bad_parameter) (holds t r model.Fault.invoke_id_in_use) (are_numbers_spent s.number)
    (if holds t r model.Fault.too_long then Some model.Fault.too_long else None) e in
    grind (arith, nat_tests, left, le)
accepted-left s d (Request.component (ComponentRequest.result_last id body)) le e = tt
accepted-left s d (Request.component (ComponentRequest.result_more id body)) le e = tt
accepted-left s d (Request.component (ComponentRequest.error_back id code parameter)) le e = tt
accepted-left s d (Request.component (ComponentRequest.u_reject id problem)) le e = tt
accepted-left s d (Request.component (ComponentRequest.u_cancel id)) le e = given-left d id (given_up_at d.invocations.rows id) s.number
accepted-left s d (Request.dialogue (DialogueRequest.uni to context info)) le e = tt
accepted-left s d (Request.dialogue (DialogueRequest.begin to context info)) le e = tt
accepted-left s d (Request.dialogue (DialogueRequest.go_on context info)) le e = tt
accepted-left s d (Request.dialogue (DialogueRequest.finish ending context info)) le e = tt
accepted-left s d (Request.dialogue (DialogueRequest.u_abort why info)) le e = tt

pub number-left : (s : Setting) (d : Dialogue) (r : Request) → s.number ≤ last_number → IsLeft (table_move s d (DialogueEvent.request r)).answer s.number
unfolding table_move
number-left s d r le = go (due_on (situation s d r) r) refl
  where
    go : (o : Option model.Fault) → due_on (situation s d r) r ≡ o → IsLeft (requested_by s d r o).answer s.number
    go None e = accepted-left s d r le e
    go (Some f) e = tt
