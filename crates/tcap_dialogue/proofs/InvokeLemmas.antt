-- An Invoke: what is judged of it, in the order of its faults, and what is due.
use Rattle.std.proofs.Common.{◌≡◌, ◌≢◌, ◌⊎◌, inl, inr, ℕ, ◌<◌, ◌^◌, ◌-◌, ◌&&◌, ◌||◌, ℤ, Bool, true, false, not, nat_lt, nat_le, List, [], Option, Some, None, refl, sym, ap, subst, ◌∙◌, arith, is_some, OnOk, IfErr, IsTrue, Result, Ok, Err, if◌then◌else◌}
use Rattle.std.proofs.lemmas.Bool.Decides.{nat_tests}
use Rattle.ber_core.specs.ListReading.{items_by}
use Rattle.tcap_pdu.specs.DialoguePartsReading.{is_information}
use Rattle.tcap_component.specs.Component.{CodeParts, ComponentParts}
use Rattle.tcap_component.specs.Written.{coded_part, has_code, has_parameter}
use Rattle.tcap_invocation.specs.declared.class.Class.{Class}
use Rattle.tcap_invocation.specs.declared.fault.AddFault.{AddFault}
use Rattle.tcap_invocation.specs.declared.fault.AddFault.TheVariants.{BadTimeout, InUse}
use Rattle.tcap_invocation.specs.Invocations.{entry_at, add_fault}
use Rattle.tcap_invocation.specs.Stage.{moment_limit}
use Rattle.tcap_model.specs.Procedures.QueueRules.{queue_limit, fits, queued}
use Rattle.tcap_model.specs.Procedures.Refusals.{due_on, invoke_fault}
use Rattle.tcap_model.specs.Table.Dialogue.{Dialogue}
use Rattle.tcap_model.specs.Table.TableMove.{situation, requested_by}
use Rattle.tcap_model.specs.Words.Fault.{Fault}
use Rattle.tcap_model.specs.Words.Identifiers.{are_numbers_spent}
use Rattle.tcap_model.specs.Words.Request.{Request, ComponentRequest}
use Rattle.tcap_dialogue.specs.ComponentRefusals.{invoke_refusal}
use Rattle.tcap_primitives.specs.FaultViews.{fault_view}
use Rattle.tcap_primitives.specs.QueueRefusals.{queue_fault}
use Rattle.tcap_primitives.specs.declared.fault.Fault.{Fault as RequestFault}
use Rattle.tcap_primitives.specs.declared.fault.Fault.TheVariants as fault
use Rattle.tcap_dialogue.specs.RequestForm.{takes_memory}
use Rattle.tcap_dialogue.specs.StepViews.{outcome, asked, requested}

-- No user information is user information.
pub information-none : is_information [] ≡ true
unfolding items_by
information-none = refl

-- ---- the faults of an Invoke, by their tests in order

abbrev checked_by : (timely code parameter used : Bool) → Option Fault
checked_by timely code parameter used =
    if not timely then Some Fault.bad_timeout
    else if not (true && code) then Some Fault.bad_oid
    else if not (is_information [] && parameter) then Some Fault.bad_parameter
    else if used then Some Fault.invoke_id_in_use
    else None

abbrev due_by : (timely code parameter used spent room : Bool) → Option Fault
due_by timely code parameter used spent room =
    if not timely then Some Fault.bad_timeout
    else if not (true && code) then Some Fault.bad_oid
    else if not (is_information [] && parameter) then Some Fault.bad_parameter
    else if used then Some Fault.invoke_id_in_use
    else if spent then Some Fault.numbers_spent
    else if (not room || false) then Some Fault.too_long
    else None

-- The tests of a component that is queued, in their order.
abbrev pub queued_by : (code parameter room : Bool) → Option Fault
queued_by code parameter room = if code then (if parameter then (if room then None else Some Fault.too_long) else Some Fault.bad_parameter) else Some Fault.bad_oid

abbrev refused_by : (timely code parameter used room : Bool) → Option Fault
refused_by timely code parameter used room =
    if not timely then Some Fault.bad_timeout
    else if not code then Some Fault.bad_oid
    else if not parameter then Some Fault.bad_parameter
    else if used then Some Fault.invoke_id_in_use
    else if room then None
    else Some Fault.too_long

-- Where a number is left, what is refused is due.
refused_due : (timely code parameter used spent room : Bool) → spent ≡ false → refused_by timely code parameter used room ≡ due_by timely code parameter used spent room
refused_due false code parameter used spent room e = refl
refused_due true false parameter used spent room e = refl
refused_due true true false used spent room e = rw information-none refl
refused_due true true true true spent room e = rw information-none refl
refused_due true true true false spent true e = rw (information-none, e) refl
refused_due true true true false spent false e = rw (information-none, e) refl

-- The check finds what is refused, want of room apart.
checked_fault : (timely code parameter used room : Bool) (f : Fault) → f ≢ Fault.too_long → refused_by timely code parameter used room ≡ Some f → Some f ≡ checked_by timely code parameter used
checked_fault false code parameter used room f n e = sym e
checked_fault true false parameter used room f n e = sym e
checked_fault true true false used room f n e = rw information-none (sym e)
checked_fault true true true true room f n e = rw information-none (sym e)
checked_fault true true true false true f n e = absurd cc
checked_fault true true true false false f n e = absurd (n (let same : f ≡ Fault.too_long = cc in same))

checked_none : (timely code parameter used room : Bool) → refused_by timely code parameter used room ≡ None → None ≡ checked_by timely code parameter used
checked_none false code parameter used room e = absurd cc
checked_none true false parameter used room e = absurd cc
checked_none true true false used room e = absurd cc
checked_none true true true true room e = absurd cc
checked_none true true true false room e = rw information-none refl

checked_room : (timely code parameter used room : Bool) → refused_by timely code parameter used room ≡ Some Fault.too_long → None ≡ checked_by timely code parameter used
checked_room false code parameter used room e = absurd cc
checked_room true false parameter used room e = absurd cc
checked_room true true false used room e = absurd cc
checked_room true true true true room e = absurd cc
checked_room true true true false room e = rw information-none refl

-- What of the component is refused comes first, and want of room last.
spelled_first : (code parameter used room : Bool) (f : Fault) → f ≢ Fault.too_long → queued_by code parameter room ≡ Some f → refused_by true code parameter used room ≡ Some f
spelled_first true true used true f n e = absurd cc
spelled_first true true used false f n e = absurd (n (let same : f ≡ Fault.too_long = cc in same))
spelled_first true false used room f n e = e
spelled_first false parameter used room f n e = e

used_next : (code parameter room : Bool) → queued_by code parameter room ≡ None ⊎ queued_by code parameter room ≡ Some Fault.too_long → (used : Bool)
    → refused_by true code parameter used room ≡ (if used then Some Fault.invoke_id_in_use else queued_by code parameter room)
used_next true true room h true = refl
used_next true true room h false = refl
used_next true false room (inl h) used = absurd cc
used_next true false room (inr h) used = absurd cc
used_next false parameter room (inl h) used = absurd cc
used_next false parameter room (inr h) used = absurd cc

-- The tests of an invocation that is taken in, in their order.
abbrev added_by : (timely used : Bool) → Option AddFault
added_by timely used = if timely then (if used then Some InUse else None) else Some BadTimeout

added_none : (timely used : Bool) → timely ≡ true → used ≡ false → added_by timely used ≡ None
added_none timely used t u = rw (t, u) refl

-- ---- an Invoke

module _ (number : ℕ) (d : Dialogue) (id : ℤ) (class : Class) (code : CodeParts) (parameter : Option (List ℕ)) (linked : Option ℤ) (timeout : ℕ) where
  -- TC-INVOKE.
  abbrev pub invoking : Request
  invoking = Request.component (ComponentRequest.invoke id class code parameter linked timeout)

  abbrev component : ComponentParts
  component = ComponentParts.invoke id linked code parameter

  abbrev timely : Bool
  timely = nat_lt 0 timeout && nat_le timeout moment_limit

  abbrev used : Bool
  used = is_some (entry_at d.invocations.rows id)

  abbrev is_fitting : Bool
  is_fitting = fits queue_limit d.standing.queue (queued None component)

  -- What is refused is due.
  pub invoke-due : number < 2 ^ 64 - 1 → invoke_refusal d id timeout component ≡ due_on (situation (asked 0 number) d invoking) invoking
  invoke-due left =
      let spent : are_numbers_spent number ≡ false = grind (arith, nat_tests) in
      refused_due timely (has_code (coded_part component)) (has_parameter (coded_part component)) used (are_numbers_spent number) is_fitting spent

  -- Where none is due, memory may be wanted.
  pub invoke-wants : due_on (situation (asked 0 number) d invoking) invoking ≡ None → IsTrue (takes_memory (requested 0 number d invoking).0)
  invoke-wants due = subst (λ (o : Option Fault). IsTrue (takes_memory (outcome (requested_by (asked 0 number) d invoking o)).0)) (sym due) refl

  -- What the check finds: a fault but want of room, or none.
  pub check-fault : (f : Fault) → f ≢ Fault.too_long → invoke_refusal d id timeout component ≡ Some f → Some f ≡ invoke_fault (situation (asked 0 number) d invoking) invoking
  check-fault f n e = checked_fault timely (has_code (coded_part component)) (has_parameter (coded_part component)) used is_fitting f n e

  pub check-none : invoke_refusal d id timeout component ≡ None → None ≡ invoke_fault (situation (asked 0 number) d invoking) invoking
  check-none e = checked_none timely (has_code (coded_part component)) (has_parameter (coded_part component)) used is_fitting e

  pub check-room : invoke_refusal d id timeout component ≡ Some Fault.too_long → None ≡ invoke_fault (situation (asked 0 number) d invoking) invoking
  check-room e = checked_room timely (has_code (coded_part component)) (has_parameter (coded_part component)) used is_fitting e

-- ---- the judging of an Invoke, by what is judged of its component

-- The fault is that room is missing.
abbrev pub IsLong : RequestFault → Type 0
IsLong f = f ≡ fault.TooLong

-- Only that fault is so.
pub long-only : (f : RequestFault) → fault_view f ≡ Fault.too_long → IsLong f
long-only fault.OutOfMemory e = absurd cc
long-only fault.UnknownDialogue e = absurd cc
long-only fault.WrongState e = absurd cc
long-only fault.InvokeIdInUse e = absurd cc
long-only fault.NoSuchInvocation e = absurd cc
long-only fault.BadTimeout e = absurd cc
long-only fault.TooLong e = refl
long-only fault.DialoguesFull e = absurd cc
long-only fault.DialogueIdsSpent e = absurd cc
long-only fault.NumbersSpent e = absurd cc
long-only fault.BadOid e = absurd cc
long-only fault.BadParameter e = absurd cc
long-only fault.NotClassFour e = absurd cc
long-only fault.MomentTooLate e = absurd cc
long-only fault.NoContext e = absurd cc

module _ (d : Dialogue) (id : ℤ) (timeout : ℕ) (c : ComponentParts) where
  abbrev in_time : Bool
  in_time = nat_lt 0 timeout && nat_le timeout moment_limit

  abbrev in_use : Bool
  in_use = is_some (entry_at d.invocations.rows id)

  abbrev has_room : Bool
  has_room = fits queue_limit d.standing.queue (queued None c)

  -- What can't be written is refused.
  pub misspelled : (r : Result ℕ RequestFault) → ¬ IfErr r IsLong → in_time ≡ true → IfErr r (λ f. queue_fault d.standing.queue c ≡ Some (fault_view f))
      → IfErr r (λ f. invoke_refusal d id timeout c ≡ Some (fault_view f))
  misspelled (Ok n) not_long t e = tt
  misspelled (Err f) not_long t e =
      subst (λ (b : Bool). refused_by b (has_code (coded_part c)) (has_parameter (coded_part c)) in_use has_room ≡ Some (fault_view f)) (sym t)
      (spelled_first (has_code (coded_part c)) (has_parameter (coded_part c)) in_use has_room (fault_view f) (λ q. not_long (long-only f q)) e)

  at_most_long : (r : Result ℕ RequestFault) → IfErr r IsLong → OnOk r (queue_fault d.standing.queue c ≡ None) → IfErr r (λ f. queue_fault d.standing.queue c ≡ Some (fault_view f))
      → queue_fault d.standing.queue c ≡ None ⊎ queue_fault d.standing.queue c ≡ Some Fault.too_long
  at_most_long (Ok n) long ok err = inl ok
  at_most_long (Err f) long ok err = inr (err ∙ ap (λ (x : RequestFault). Some (fault_view x)) long)

  -- What can be written is refused where the identifier is in use, and else where room is missing.
  pub spelled : (r : Result ℕ RequestFault) → IfErr r IsLong → in_time ≡ true → OnOk r (queue_fault d.standing.queue c ≡ None) → IfErr r (λ f. queue_fault d.standing.queue c ≡ Some (fault_view f))
      → invoke_refusal d id timeout c ≡ (if in_use then Some Fault.invoke_id_in_use else queue_fault d.standing.queue c)
  spelled r long t ok err =
      subst (λ (b : Bool). refused_by b (has_code (coded_part c)) (has_parameter (coded_part c)) in_use has_room ≡ (if in_use then Some Fault.invoke_id_in_use else queue_fault d.standing.queue c)) (sym t)
      (used_next (has_code (coded_part c)) (has_parameter (coded_part c)) has_room (at_most_long r long ok err) in_use)

  -- Then the invocation can be taken in.
  pub free : in_time ≡ true → in_use ≡ false → add_fault d.invocations.rows id timeout ≡ None
  free t u = added_none in_time in_use t u

-- What holds anyway holds of a good result.
pub held : {P : Type 0} (r : Result ℕ RequestFault) → P → OnOk r P
held (Ok n) p = p
held (Err f) p = tt
