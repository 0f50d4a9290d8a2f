-- Why a component can't be written, and that what is written is the component.
use Rattle.std.proofs.Common.{◌≡◌, ℕ, ◌<◌, ◌≤◌, Bool, true, false, ltb, List, length, Option, Some, None, refl, sym, ap, ◌∙◌, inl, inr, arith}
use Rattle.std.proofs.lemmas.Bool.{cases_Bool, lt-ltb, le-ltb, ltb-true, ltb-false}
use Rattle.ber_core.specs.SequenceReading.{alone_at}
use Rattle.ber_core.proofs.CallerLemmas.{some, some_is, by_option, alone_takes, alone_again, object_identifier_takes, object_identifier_again, length-written}
use Rattle.ber_core.specs.WrittenLength.{element_length}
use Rattle.tcap_component.specs.declared.fault.WriteFault.{WriteFault}
use Rattle.tcap_component.specs.declared.fault.WriteFault.TheVariants.{BadOid, BadParameter, TooLong}
use Rattle.tcap_component.specs.Component.{CodeParts, BodyParts, ComponentParts, component_tag}
use Rattle.tcap_component.specs.Component.CodeParts.{local, global}
use Rattle.tcap_component.specs.Written.{written_contents, written_component, coded_part, CanCode, CanHold, HasCode, HasParameter, CanWriteComponent, IsWriteFault, can_code, can_hold, has_code, has_parameter, write_fault, length_if_any}
use Rattle.tcap_component.specs.Written.IsWriteFault.{bad_oid, bad_parameter, too_long}

-- ---- the tests

can_code-takes : (c : CodeParts) → can_code c ≡ true → CanCode c
can_code-takes (local n) h = tt
can_code-takes (global o) h = object_identifier_takes o h

can_code-again : (c : CodeParts) → CanCode c → can_code c ≡ true
can_code-again (local n) h = refl
can_code-again (global o) h = object_identifier_again o h

can_hold-takes : (o : Option (List ℕ)) → can_hold o ≡ true → CanHold o
can_hold-takes None h = tt
can_hold-takes (Some w) h = elim (by_option (alone_at w)) [
  | inl n ↦ let h = h in let no : false ≡ true = rw n at h in absurd cc
  | inr e ↦ let t = alone_takes w e.0 e.1 in (e.0, t.0, t.1)
]

can_hold-again : (o : Option (List ℕ)) → CanHold o → can_hold o ≡ true
can_hold-again None h = refl
can_hold-again (Some w) h = rw h.2 (rw (alone_again h.0 h.1) refl)

pub has_code-takes : (o : Option BodyParts) → has_code o ≡ true → HasCode o
has_code-takes None h = tt
has_code-takes (Some b) h = can_code-takes b.code h

has_code-again : (o : Option BodyParts) → HasCode o → has_code o ≡ true
has_code-again None h = refl
has_code-again (Some b) h = can_code-again b.code h

has_parameter-takes : (o : Option BodyParts) → has_parameter o ≡ true → HasParameter o
has_parameter-takes None h = tt
has_parameter-takes (Some b) h = can_hold-takes b.parameter h

has_parameter-again : (o : Option BodyParts) → HasParameter o → has_parameter o ≡ true
has_parameter-again None h = refl
has_parameter-again (Some b) h = can_hold-again b.parameter h

-- ---- the faults

abbrev pub Judged : ComponentParts → Option WriteFault → Type 0
Judged c None = CanWriteComponent c
Judged c (Some f) = IsWriteFault c f

true_not_false : (b : Bool) → b ≡ false → b ≡ true → ⊥
true_not_false b n y = let both : true ≡ false = sym y ∙ n in cc

pub write_fault-judged : (c : ComponentParts) → Judged c (write_fault c)
unfolding write_fault
write_fault-judged c = elim (cases_Bool (has_code (coded_part c))) [
  | inl y ↦ elim (cases_Bool (has_parameter (coded_part c))) [
    | inl z ↦ elim (cases_Bool (ltb 65535 (length (written_component c)))) [
      | inl l ↦ rw (y, z, l) (too_long c (has_code-takes _ y) (has_parameter-takes _ z) (ltb-true 65535 _ l))
      | inr l ↦ rw (y, z, l) (record { has_code = has_code-takes _ y; has_parameter = has_parameter-takes _ z; is_short = ltb-false 65535 _ l })
    ]
    | inr z ↦ rw (y, z) (bad_parameter c (has_code-takes _ y) (λ h. true_not_false _ z (has_parameter-again _ h)))
  ]
  | inr n ↦ rw n (bad_oid c (λ h. true_not_false _ n (has_code-again _ h)))
]

pub write_fault-none : (c : ComponentParts) → CanWriteComponent c → write_fault c ≡ None
unfolding write_fault
write_fault-none c h = rw (has_code-again _ h.has_code, has_parameter-again _ h.has_parameter, le-ltb 65535 _ h.is_short) refl

pub write_fault-told : (c : ComponentParts) (f : WriteFault) → IsWriteFault c f → write_fault c ≡ Some f
unfolding write_fault
write_fault-told c f (bad_oid d h) = elim (cases_Bool (has_code (coded_part d))) [
  | inl y ↦ absurd (h (has_code-takes _ y))
  | inr n ↦ rw n refl
]
write_fault-told c f (bad_parameter d g h) = elim (cases_Bool (has_parameter (coded_part d))) [
  | inl y ↦ absurd (h (has_parameter-takes _ y))
  | inr n ↦ rw (has_code-again _ g, n) refl
]
write_fault-told c f (too_long d g h l) = rw (has_code-again _ g, has_parameter-again _ h, lt-ltb 65535 _ l) refl

-- ---- what a caller of `write_fault` learns

pub not_refused_by : (c : ComponentParts) (f : WriteFault) → CanWriteComponent c → IsWriteFault c f → ⊥
not_refused_by c f h g = let both : None ≡ some f = sym (write_fault-none c h) ∙ write_fault-told c f g in cc

pub one_due : (c : ComponentParts) (f g : WriteFault) → IsWriteFault c f → IsWriteFault c g → f ≡ g
one_due c f g h k = some_is f g (sym (write_fault-told c f h) ∙ write_fault-told c g k)

-- ---- the tests in their order

pub due_code : (c : ComponentParts) → has_code (coded_part c) ≡ false → IsWriteFault c BadOid
due_code c n = bad_oid c (λ h. true_not_false _ n (has_code-again _ h))

pub due_parameter : (c : ComponentParts) → has_code (coded_part c) ≡ true → has_parameter (coded_part c) ≡ false → IsWriteFault c BadParameter
due_parameter c y n = bad_parameter c (has_code-takes _ y) (λ h. true_not_false _ n (has_parameter-again _ h))

module _ (c : ComponentParts) (len whole : ℕ) (code : has_code (coded_part c) ≡ true) (parameter : has_parameter (coded_part c) ≡ true) (is : len ≡ length (written_contents c)) (is_whole : whole ≡ element_length len) where
  same : length (written_component c) ≡ whole
  same = length-written (component_tag c) (written_contents c) ∙ sym (is_whole ∙ ap element_length is)

  pub due_length : 65535 < whole → IsWriteFault c TooLong
  due_length lt = too_long c (has_code-takes _ code) (has_parameter-takes _ parameter) (omega (arith, lt, same))

  pub can_write : whole ≤ 65535 → CanWriteComponent c
  can_write le = record { has_code = has_code-takes _ code; has_parameter = has_parameter-takes _ parameter; is_short = omega (arith, le, same) }

pub length_known : (c : ComponentParts) (whole len : ℕ) → CanWriteComponent c → len ≡ length (written_contents c) → whole ≡ element_length len → Some whole ≡ length_if_any (written_component c) (write_fault c)
length_known c whole len can is is_whole =
    let e : whole ≡ length (written_component c) = is_whole ∙ (ap element_length is ∙ sym (length-written (component_tag c) (written_contents c))) in
    rw (write_fault-none c can) (ap some e)

pub length_unknown : (c : ComponentParts) (f : WriteFault) → IsWriteFault c f → None ≡ length_if_any (written_component c) (write_fault c)
length_unknown c f h = rw (write_fault-told c f h) refl

-- what a call that writes nothing cites
pub ruleset fault_rules = (write_fault-none, write_fault-told)

pub ruleset length_rules = (length_known, length_unknown, not_refused_by)

pub ruleset written_rules = (length-written)
