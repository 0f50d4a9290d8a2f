-- The first due fault of a request of dialogue handling, and what it gives.
use Rattle.std.proofs.Common.{◌≡◌, ◌∙◌, Bool, true, false, cond, List, [], ◌∷◌, ◌++◌, Option, Some, None, Result, Ok, Err, refl, sym, ap}
use Rattle.std.specs.Prelude.{IfOk, IfErr}
use Rattle.tcap_dialogue.specs.RequestMessages.{early_faults}
use Rattle.tcap_model.specs.Procedures.RequestMessage.{message_of}
use Rattle.tcap_primitives.specs.declared.fault.Fault.{Fault as RequestFault}
use Rattle.tcap_primitives.specs.declared.fault.Fault.TheVariants as too_long
use Rattle.tcap_primitives.specs.FaultViews.{fault_view}
use Rattle.tcap_model.specs.Words.Fault.{Fault}
use Rattle.tcap_pdu.specs.FrameSpelling.{Message}
use Rattle.tcap_model.specs.Procedures.Refusals.{Situation, due_on, first_that, holds, passes_message}
use Rattle.tcap_model.specs.Words.Request.{DialogueRequest, Request}

-- One order of the faults for all five requests: those that a request lacks never hold for it.
abbrev pub request_faults : List Fault
request_faults = Fault.wrong_state ∷ Fault.bad_oid ∷ Fault.bad_parameter ∷ Fault.no_context ∷ Fault.not_class_four ∷ Fault.too_long ∷ []

pub request-due : (s : Situation) (a : DialogueRequest) → due_on s (Request.dialogue a) ≡ first_that (holds s (Request.dialogue a)) request_faults
request-due s (DialogueRequest.uni to context info) = refl
request-due s (DialogueRequest.begin to context info) = refl
request-due s (DialogueRequest.go_on context info) = refl
request-due s (DialogueRequest.finish ending context info) = refl
request-due s (DialogueRequest.u_abort why info) = refl

-- What comes first of some faults comes first of more; where nothing does, one more comes if it holds.
module _ (h : Fault → Bool) (last : Fault) where
  first-longer : (fs : List Fault) (f : Fault) → first_that h fs ≡ Some f → first_that h (fs ++ last ∷ []) ≡ Some f
  first-longer [] f e = absurd cc
  first-longer (g ∷ gs) f e = go (h g) e (first-longer gs f)
    where
      go : (b : Bool) → cond b (Some g) (first_that h gs) ≡ Some f → (first_that h gs ≡ Some f → first_that h (gs ++ last ∷ []) ≡ Some f) → cond b (Some g) (first_that h (gs ++ last ∷ [])) ≡ Some f
      go true e ih = e
      go false e ih = ih e

  last-first : (fs : List Fault) → first_that h fs ≡ None → first_that h (fs ++ last ∷ []) ≡ cond (h last) (Some last) None
  last-first [] e = refl
  last-first (g ∷ gs) e = go (h g) e (last-first gs)
    where
      go : (b : Bool) → cond b (Some g) (first_that h gs) ≡ None → (first_that h gs ≡ None → first_that h (gs ++ last ∷ []) ≡ cond (h last) (Some last) None) → cond b (Some g) (first_that h (gs ++ last ∷ [])) ≡ cond (h last) (Some last) None
      go true e ih = absurd cc
      go false e ih = ih e

-- A fault that is due before the message is looked at is due.
pub early-due : (s : Situation) (a : DialogueRequest) (f : Fault) → Some f ≡ first_that (holds s (Request.dialogue a)) early_faults → due_on s (Request.dialogue a) ≡ Some f
early-due s a f e = request-due s a ∙ first-longer (holds s (Request.dialogue a)) Fault.too_long early_faults f (sym e)

-- Where none is, the message alone decides.
module _ (s : Situation) (a : DialogueRequest) (none : None ≡ first_that (holds s (Request.dialogue a)) early_faults) where
  late-due : due_on s (Request.dialogue a) ≡ cond (passes_message (message_of s.standing (Request.dialogue a))) (Some Fault.too_long) None
  late-due = request-due s a ∙ last-first (holds s (Request.dialogue a)) Fault.too_long early_faults (sym none)

  -- A message within the limit is not refused, and one above it is too long.
  pub within-due : {V W : Type 0} (r : Result V W) (view : V → Option Message) (m : Option Message) → m ≡ message_of s.standing (Request.dialogue a)
      → IfOk r (λ v. (view v ≡ m) × (passes_message m ≡ false)) → IfOk r (λ v. (view v ≡ message_of s.standing (Request.dialogue a)) × (due_on s (Request.dialogue a) ≡ None))
  within-due (Ok v) view m is h = (h.0 ∙ is, late-due ∙ ap (λ (b : Bool). cond b (Some Fault.too_long) None) (ap passes_message (sym is) ∙ h.1))
  within-due (Err f) view m is h = tt

  pub long-due : {V : Type 0} (r : Result V RequestFault) (m : Option Message) → m ≡ message_of s.standing (Request.dialogue a)
      → IfErr r (λ f. (f ≡ too_long.TooLong) × (passes_message m ≡ true)) → IfErr r (λ f. due_on s (Request.dialogue a) ≡ Some (fault_view f))
  long-due (Ok v) m is h = tt
  long-due (Err f) m is h = late-due ∙ ap (λ (b : Bool). cond b (Some Fault.too_long) None) (ap passes_message (sym is) ∙ h.1) ∙ ap (λ (x : RequestFault). Some (fault_view x)) (sym h.0)
