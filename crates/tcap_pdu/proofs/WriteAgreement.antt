-- From the first fault that is due to the faults of writing.
use Rattle.std.proofs.Common.{◌≡◌, ℕ, ◌≤◌, ltb, true, List, length, Option, Some, None, Ok, Err, refl, sym, subst, ◌∙◌, inl, inr, arith}
use Rattle.std.specs.Prelude.{IfSome, IfNone, Result}
use Rattle.std.specs.Result.{result_ok}
use Rattle.std.proofs.lemmas.Bool.{cases_Bool, false≢true, le-ltb, ltb-true, ltb-false}
use Rattle.ber_core.proofs.CallerLemmas.{refused_is, read_is, not_read, not_refused, object_identifier_takes, object_identifier_again}
use Rattle.tcap_pdu.specs.declared.fault.PduFault.{PduFault}
use Rattle.tcap_pdu.specs.DialogueSpelling.{PduValue, IsForeign, SpellsDialogue}
use Rattle.tcap_pdu.specs.DialogueSpelling.PduValue.{aarq, audt, aare, abrt, foreign}
use Rattle.tcap_pdu.specs.DialogueReading.{pdu_at}
use Rattle.tcap_pdu.specs.DialogueWritten.{written_dialogue, IsContextGood, IsInformationGood, IsWritable, WriteFault}
use Rattle.tcap_pdu.specs.DialogueDue.{context_of, is_context, is_foreign, is_information_good, due_fault, unless, length_at, portion_length}
use Rattle.tcap_pdu.proofs.DialogueLength.{length-dialogue}
use Rattle.tcap_pdu.proofs.DueSteps.{context_short}
use Rattle.tcap_pdu.proofs.DialogueParts.{information_takes, information_again}
use Rattle.tcap_pdu.proofs.PortionGrammar.{pdu_takes, pdu_again}

context_takes : (p : PduValue) → is_context (context_of p) ≡ true → IsContextGood p
context_takes (aarq v c i) h = object_identifier_takes c h
context_takes (audt v c i) h = object_identifier_takes c h
context_takes (aare v c a d i) h = object_identifier_takes c h
context_takes (abrt b i) h = tt
context_takes (foreign e) h = tt

context_again : (p : PduValue) → IsContextGood p → is_context (context_of p) ≡ true
context_again (aarq v c i) h = object_identifier_again c h
context_again (audt v c i) h = object_identifier_again c h
context_again (aare v c a d i) h = object_identifier_again c h
context_again (abrt b i) h = refl
context_again (foreign e) h = refl

foreign_by_read : (bytes : List ℕ) (o : Option PduValue) → pdu_at bytes ≡ o → is_foreign o ≡ true → IsForeign bytes
unfolding SpellsDialogue
foreign_by_read bytes None is h = absurd (false≢true h)
foreign_by_read bytes (Some (aarq v c i)) is h = absurd (false≢true h)
foreign_by_read bytes (Some (audt v c i)) is h = absurd (false≢true h)
foreign_by_read bytes (Some (aare v c a d i)) is h = absurd (false≢true h)
foreign_by_read bytes (Some (abrt b i)) is h = absurd (false≢true h)
foreign_by_read bytes (Some (foreign e)) is h = let s : SpellsDialogue (foreign e) bytes = pdu_takes bytes (foreign e) is in subst IsForeign (sym s.0) s.1

foreign_read : (bytes : List ℕ) → IsForeign bytes → is_foreign (pdu_at bytes) ≡ true
unfolding SpellsDialogue
foreign_read bytes h = let s : SpellsDialogue (foreign bytes) bytes = (refl, h) in rw (pdu_again (foreign bytes) bytes s) refl

information_is : (p : PduValue) → is_information_good p ≡ true → IsInformationGood p
information_is (aarq v c i) h = information_takes i h
information_is (audt v c i) h = information_takes i h
information_is (aare v c a d i) h = information_takes i h
information_is (abrt b i) h = information_takes i h
information_is (foreign e) h = foreign_by_read e (pdu_at e) refl h

information_has : (p : PduValue) → IsInformationGood p → is_information_good p ≡ true
information_has (aarq v c i) h = information_again i h
information_has (audt v c i) h = information_again i h
information_has (aare v c a d i) h = information_again i h
information_has (abrt b i) h = information_again i h
information_has (foreign e) h = foreign_read e h

-- why the first fault that is due is so
abbrev IsDue : PduValue → Option PduFault → Type 0
IsDue p None = IsWritable p
IsDue p (Some f) = WriteFault p f

due_is : (p : PduValue) → IsDue p (due_fault p)
unfolding due_fault
due_is p = elim (cases_Bool (is_context (context_of p))) [
  | inr c ↦ rw c (λ h. false≢true (sym c ∙ context_again p h))
  | inl c ↦ elim (cases_Bool (is_information_good p)) [
    | inr i ↦ rw (c, i) (context_takes p c, λ h. false≢true (sym i ∙ information_has p h))
    | inl i ↦ elim (cases_Bool (ltb 65535 (length (written_dialogue p)))) [
      | inl long ↦ rw (c, i, long) (context_takes p c, information_is p i, ltb-true 65535 (length (written_dialogue p)) long)
      | inr short ↦ rw (c, i, short) (record { is_context_good = context_takes p c; is_information_good = information_is p i; is_short = ltb-false 65535 (length (written_dialogue p)) short })
    ]
  ]
]

due_none : (p : PduValue) → IsWritable p → due_fault p ≡ None
unfolding due_fault
due_none p w = rw (context_again p w.is_context_good, information_has p w.is_information_good, le-ltb 65535 (length (written_dialogue p)) w.is_short) refl

by_due : (p : PduValue) (n : ℕ) (o : Option PduFault) → IsDue p o → unless o (length (written_dialogue p)) ≡ Ok n → IsWritable p × (n ≡ length (written_dialogue p))
by_due p n None d e = (d, sym (read_is {E = PduFault} (length (written_dialogue p)) n e))
by_due p n (Some f) d e = absurd (not_read f n e)

-- a length that is told is that of a PDU that can be written
pub length_told : (p : PduValue) (n : ℕ) → length_at p ≡ Ok n → IsWritable p × (n ≡ length (written_dialogue p))
length_told p n e = by_due p n (due_fault p) (due_is p) e

by_refused : (p : PduValue) (f : PduFault) (o : Option PduFault) → IsDue p o → unless o (length (written_dialogue p)) ≡ Err f → WriteFault p f
by_refused p f None d e = absurd (not_refused f (length (written_dialogue p)) e)
by_refused p f (Some g) d e = subst (WriteFault p) (refused_is {A = ℕ} g f e) d

-- a fault that is told is the first that is due
pub fault_told : (p : PduValue) (f : PduFault) → length_at p ≡ Err f → WriteFault p f
fault_told p f e = by_refused p f (due_fault p) (due_is p) e

pub not_writable : (p : PduValue) (f : PduFault) → length_at p ≡ Err f → IsWritable p → ⊥
not_writable p f e w = let e = e in not_refused f (length (written_dialogue p)) (rw (due_none p w) at e)

-- what a PDU that can be written says of its lengths
pub context_within : (p : PduValue) → IsWritable p → IfSome (context_of p) (λ c. length c ≤ 255)
context_within p w = context_short (context_of p) (context_again p w.is_context_good)

pub short_within : (p : PduValue) → IsWritable p → portion_length p ≤ 65535
short_within p w = let l = length-dialogue p in let s = w.is_short in omega (arith, l, s)

-- the same of a length that may be told
pub length_some : (p : PduValue) (r : Result ℕ PduFault) → length_at p ≡ r → IfSome (result_ok r) (λ n. IsWritable p × (n ≡ length (written_dialogue p)))
length_some p (Ok n) e = length_told p n e
length_some p (Err f) e = tt

pub length_none : (p : PduValue) (r : Result ℕ PduFault) → length_at p ≡ r → IfNone (result_ok r) (IsWritable p → ⊥)
length_none p (Ok n) e = tt
length_none p (Err f) e = not_writable p f e
