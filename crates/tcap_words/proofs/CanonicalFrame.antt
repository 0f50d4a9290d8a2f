-- A message in the canonical form: its cause, its identifiers, and a part that is too long.
use Rattle.std.proofs.Common.{◌≡◌, ℕ, ◌≤◌, List, [], length, Option, Some, None, unwrap_or, option_map, refl, sym, ap, subst, arith}
use Rattle.std.specs.List.{flat_map}
use Rattle.tcap_pdu.specs.FrameSpelling.{Reason, Message, IsReason, HasIds, HasCause}
use Rattle.tcap_pdu.specs.FrameSpelling.Reason.{nothing, cause, portion}
use Rattle.tcap_pdu.specs.FrameSpelling.Message.{unidirectional, begin, end, go_on, abort}
use Rattle.tcap_pdu.specs.FrameLength.{reason_with, dialogue_of}
use Rattle.tcap_pdu.specs.FramePortions.{components_in, with_portions}
use Rattle.tcap_pdu.specs.FrameWritten.{written_frame}
use Rattle.tcap_pdu.proofs.CallerLemmas.{content-fits, contents_within, filled_least, dialogue_within}
use Rattle.tcap_component.proofs.CallerLemmas.{components_of-empty}
use Rattle.tcap_words.specs.declared.rewrite.CanonFault.{CanonFault}
use Rattle.tcap_words.specs.declared.rewrite.CanonFault.TheVariants as canon
use Rattle.tcap_words.specs.Canonical.{canonical_item, canonical_components, canonical_dialogue, canonical_message, canonical_frame, IsCanonFault}

-- ---- what stays

reason-kept : (d : Option (List ℕ)) (r : Reason) → IsReason r → IsReason (reason_with d r)
reason-kept None nothing h = tt
reason-kept (Some d) nothing h = tt
reason-kept d (cause n) h = h
reason-kept None (portion own) h = tt
reason-kept (Some d) (portion own) h = tt

pub cause_kept : (d : Option (List ℕ)) (c : List ℕ) (m : Message) → HasCause m → HasCause (with_portions d c m)
cause_kept d c (unidirectional own mine) h = tt
cause_kept d c (begin o own mine) h = tt
cause_kept d c (end t own mine) h = tt
cause_kept d c (go_on o t own mine) h = tt
cause_kept d c (abort t r) h = reason-kept d r h

pub ids_kept : (d : Option (List ℕ)) (c : List ℕ) (m : Message) → HasIds m → HasIds (with_portions d c m)
ids_kept d c (unidirectional own mine) h = h
ids_kept d c (begin o own mine) h = h
ids_kept d c (end t own mine) h = h
ids_kept d c (go_on o t own mine) h = h
ids_kept d c (abort t r) h = h

-- ---- the portions of the canonical form

pub dialogue_of-canonical : (m : Message) → dialogue_of (canonical_message m) ≡ option_map canonical_dialogue (dialogue_of m)
dialogue_of-canonical (unidirectional d c) = refl
dialogue_of-canonical (begin o d c) = refl
dialogue_of-canonical (end t d c) = refl
dialogue_of-canonical (go_on o t d c) = refl
dialogue_of-canonical (abort t nothing) = refl
dialogue_of-canonical (abort t (cause n)) = refl
dialogue_of-canonical (abort t (portion d)) = refl

pub components_in-canonical : (m : Message) → components_in (canonical_message m) ≡ canonical_components (components_in m)
components_in-canonical (unidirectional d c) = refl
components_in-canonical (begin o d c) = refl
components_in-canonical (end t d c) = refl
components_in-canonical (go_on o t d c) = refl
components_in-canonical (abort t r) = sym (ap (λ xs. flat_map canonical_item xs) components_of-empty)

pub components_within : (m : Message) → length (components_in m) ≤ length (written_frame m)
components_within (unidirectional d c) = omega (arith, contents_within (unidirectional d c), content-fits (length c))
components_within (begin o d c) = omega (arith, contents_within (begin o d c), filled_least c)
components_within (end t d c) = omega (arith, contents_within (end t d c), filled_least c)
components_within (go_on o t d c) = omega (arith, contents_within (go_on o t d c), filled_least c)
components_within (abort t r) = omega arith

pub portion-within : (m : Message) → length (unwrap_or (option_map canonical_dialogue (dialogue_of m)) []) ≤ length (canonical_frame m)
portion-within m = subst (λ (o : Option (List ℕ)). length (unwrap_or o []) ≤ length (canonical_frame m)) (dialogue_of-canonical m) (dialogue_within (canonical_message m))

pub canonical-within : (m : Message) → length (canonical_components (components_in m)) ≤ length (canonical_frame m)
canonical-within m = subst (λ (w : List ℕ). length w ≤ length (canonical_frame m)) (components_in-canonical m) (components_within (canonical_message m))

-- ---- a part that is too long

pub fault_within : (part whole : List ℕ) (f : CanonFault) → length part ≤ length whole → IsCanonFault part f → IsCanonFault whole f
fault_within part whole canon.OutOfMemory le h = tt
fault_within part whole canon.TooLong le h = omega (arith, le, h)

pub components_fault : (m : Message) (w : List ℕ) (f : CanonFault) → w ≡ components_in m → IsCanonFault (canonical_components w) f → IsCanonFault (canonical_frame m) f
components_fault m w f is h =
    let here : IsCanonFault (canonical_components (components_in m)) f = subst (λ (x : List ℕ). IsCanonFault (canonical_components x) f) is h in
    fault_within (canonical_components (components_in m)) (canonical_frame m) f (canonical-within m) here
