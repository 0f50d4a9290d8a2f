-- The first fault that is due, by its tests.
use Rattle.std.proofs.Common.{◌≡◌, ℕ, ◌≤◌, ◌<◌, true, List, length, Option, Some, None, Ok, Err, refl, inl, inr}
use Rattle.std.specs.Prelude.{IfSome}
use Rattle.std.proofs.lemmas.Bool.{cases_Bool, lt-ltb, le-ltb}
use Rattle.ber_core.proofs.CallerLemmas.{object_identifier_takes}
use Rattle.tcap_pdu.specs.declared.fault.PduFault.{PduFault}
use Rattle.tcap_pdu.specs.declared.fault.PduFault.TheVariants.{TooLong, BadOid}
use Rattle.tcap_pdu.specs.DialogueSpelling.{PduValue}
use Rattle.tcap_pdu.specs.DialogueDue.{context_of, is_context, content_fault, due_fault, length_at, portion_length}
use Rattle.tcap_pdu.proofs.DialogueLength.{length-dialogue}

pub due_content : (p : PduValue) (f : PduFault) → content_fault p ≡ Some f → length_at p ≡ Err f
unfolding due_fault
due_content p f e = rw e refl

pub due_long : (p : PduValue) → content_fault p ≡ None → 65535 < portion_length p → length_at p ≡ Err TooLong
unfolding due_fault
due_long p e lt = rw (e, length-dialogue p, lt-ltb 65535 (portion_length p) lt) refl

pub due_none : (p : PduValue) → content_fault p ≡ None → portion_length p ≤ 65535 → length_at p ≡ Ok (portion_length p)
unfolding due_fault
due_none p e le = rw (e, length-dialogue p, le-ltb 65535 (portion_length p) le) refl

pub context_short : (o : Option (List ℕ)) → is_context o ≡ true → IfSome o (λ c. length c ≤ 255)
context_short None h = tt
context_short (Some c) h = (object_identifier_takes c h).is_short

-- where the contents have no fault, the context is an object identifier
pub context_passed : (p : PduValue) → content_fault p ≡ None → is_context (context_of p) ≡ true
context_passed p e = elim (cases_Bool (is_context (context_of p))) [
  | inl y ↦ y
  | inr other ↦ let e = e in let never : Some BadOid ≡ None = rw other at e in absurd cc
]
