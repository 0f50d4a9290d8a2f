-- The parts of a component: what is read stands there, and what stands there is read.
use Rattle.std.proofs.Common.{◌≡◌, ◌<◌, ℕ, ℤ, ltb, eqb, List, [], ◌∷◌, length, Option, Some, None, refl, sym, ap, subst, ◌∙◌, arith, eqb-true}
use Rattle.std.specs.Option.{option_map}
use Rattle.std.proofs.lemmas.Bool.{lt-ltb, ltb-true}
use Rattle.ber_core.specs.Options.{◌>>=◌}
use Rattle.ber_core.specs.Integer.{signed_octet, octet_of, integer_at, integer_octets}
use Rattle.ber_core.specs.ObjectIdentifier.{is_object_identifier}
use Rattle.ber_core.specs.Sequence.{Field, SpellsSequence}
use Rattle.ber_core.specs.Sequence.Field.{must, may, any}
use Rattle.ber_core.specs.ElementReading.{element_at}
use Rattle.ber_core.specs.HeadReading.{head_at, tag_at}
use Rattle.ber_core.specs.SequenceReading.{tagged, content_at, first_whole, ending}
use Rattle.ber_core.proofs.CallerLemmas.{Apart, some, some_is, bind_some, test_some, ending-is, ending-again, content_at-is, must_takes, must_again, may_takes, may_again, any_takes, any_again, end_takes, other_first, integer_takes, integer_again, integer-octets, integer_spelled, integer-fits, octet_of-signed_octet, signed_octet-octet_of, octet_of-below, signed_octet-fits, object_identifier_takes, object_identifier_again}
use Rattle.tcap_component.specs.Component.{CodeParts, BodyParts, identifier, code_field, rejected_field, body_fields, IsIdentifier, IsIdentifierIfAny, IsCode}
use Rattle.tcap_component.specs.Component.CodeParts.{local, global}
use Rattle.tcap_component.specs.ComponentReading.{with_rest, identifier_of, identifier_at, some_identifier, linked_from, linked_at, global_from, code_from, code_at, coded, body_at, null_from, rejected_from, rejected_at, result_at}

-- ---- identifiers

pub identifier_takes : (c : List ℕ) (z : ℤ) → identifier_of c ≡ Some z → (c ≡ identifier z) × IsIdentifier z
unfolding identifier_of
identifier_takes [] z e = absurd cc
identifier_takes (b ∷ []) z e =
    let t = test_some (ltb b 256) (some (signed_octet b)) z e in
    let below = ltb-true b 256 t.0 in
    let is : signed_octet b ≡ z = some_is (signed_octet b) z t.1 in
    (ap (λ (n : ℕ). n ∷ []) (sym (octet_of-signed_octet b below) ∙ ap octet_of is), subst IsIdentifier is (signed_octet-fits b below))
identifier_takes (b ∷ c ∷ more) z e = absurd cc

pub identifier_again : (z : ℤ) → IsIdentifier z → identifier_of (identifier z) ≡ Some z
unfolding identifier_of
identifier_again z h = rw (lt-ltb (octet_of z) 256 (octet_of-below z h)) (ap (λ (x : ℤ). some x) (signed_octet-octet_of z h))

pub identifier_at-takes : (fs : List Field) (bytes : List ℕ) (p : ℤ × List ℕ) → identifier_at bytes ≡ Some p → SpellsSequence fs p.1 → SpellsSequence (must 0x02 (identifier p.0) ∷ fs) bytes × IsIdentifier p.0
unfolding identifier_at
identifier_at-takes fs bytes p e s =
    let c = bind_some (content_at 0x02 bytes) (λ c. identifier_of c.0 >>= (λ id. some (with_rest id c.1))) p e in
    let i = bind_some (identifier_of c.0.0) (λ id. some (with_rest id c.0.1)) p c.2 in
    let same = some_is (with_rest i.0 c.0.1) p i.2 in
    let t = identifier_takes c.0.0 i.0 i.1 in
    let s : SpellsSequence fs c.0.1 = subst (λ (q : ℤ × List ℕ). SpellsSequence fs q.1) (sym same) s in
    subst (λ (q : ℤ × List ℕ). SpellsSequence (must 0x02 (identifier q.0) ∷ fs) bytes × IsIdentifier q.0) same
    (subst (λ (w : List ℕ). SpellsSequence (must 0x02 w ∷ fs) bytes) t.0 (must_takes 0x02 fs bytes c.0 c.1 s), t.1)

pub identifier_at-again : (z : ℤ) (fs : List Field) (bytes : List ℕ) → IsIdentifier z → SpellsSequence (must 0x02 (identifier z) ∷ fs) bytes → (rest : List ℕ) × (identifier_at bytes ≡ Some (z, rest)) × SpellsSequence fs rest
unfolding identifier_at
identifier_at-again z fs bytes h s =
    let m = must_again 0x02 (identifier z) fs bytes s in
    (m.0, rw m.1 (rw (identifier_again z h) refl), m.2)

some_identifier-is : (content rest : List ℕ) (p : Option ℤ × List ℕ) → some_identifier content rest ≡ Some p → (z : ℤ) × (content ≡ identifier z) × IsIdentifier z × ((Some z, rest) ≡ p)
some_identifier-is content rest p e =
    let i = bind_some (identifier_of content) (λ id. some (with_rest (some id) rest)) p e in
    let t = identifier_takes content i.0 i.1 in
    (i.0, t.0, t.1, some_is (with_rest (some i.0) rest) p i.2)

abbrev Linked : List Field → List ℕ → Option ℤ × List ℕ → Type 0
Linked fs bytes p = SpellsSequence fs p.1 → SpellsSequence (may 0x80 (option_map identifier p.0) ∷ fs) bytes × IsIdentifierIfAny p.0

linked_from-takes : (fs : List Field) (bytes : List ℕ) (o : Option (List ℕ)) (rest : List ℕ) (p : Option ℤ × List ℕ) → (tagged 0x80 bytes).0 ≡ o → (tagged 0x80 bytes).1 ≡ rest → linked_from o rest ≡ Some p → Linked fs bytes p
linked_from-takes fs bytes None rest p is then e =
    let same = some_is (with_rest None rest) p e in
    subst (Linked fs bytes) same (λ s. (subst (λ (o : Option (List ℕ)). SpellsSequence (may 0x80 o ∷ fs) bytes) is (may_takes 0x80 fs bytes (subst (SpellsSequence fs) (sym then) s)), tt))
linked_from-takes fs bytes (Some c) rest p is then e =
    let i = some_identifier-is c rest p e in
    let at : (tagged 0x80 bytes).0 ≡ Some (identifier i.0) = is ∙ ap (λ (w : List ℕ). some w) i.1 in
    subst (Linked fs bytes) i.3 (λ s. (subst (λ (o : Option (List ℕ)). SpellsSequence (may 0x80 o ∷ fs) bytes) at (may_takes 0x80 fs bytes (subst (SpellsSequence fs) (sym then) s)), i.2))

pub linked_takes : (fs : List Field) (bytes : List ℕ) (p : Option ℤ × List ℕ) → linked_at bytes ≡ Some p → SpellsSequence fs p.1 → SpellsSequence (may 0x80 (option_map identifier p.0) ∷ fs) bytes × IsIdentifierIfAny p.0
unfolding linked_at
linked_takes fs bytes p e s = linked_from-takes fs bytes (tagged 0x80 bytes).0 (tagged 0x80 bytes).1 p refl refl e s

pub linked_again : (o : Option ℤ) (fs : List Field) (bytes : List ℕ) → Apart 0x80 fs → IsIdentifierIfAny o → SpellsSequence (may 0x80 (option_map identifier o) ∷ fs) bytes → (rest : List ℕ) × (linked_at bytes ≡ Some (o, rest)) × SpellsSequence fs rest
unfolding linked_at
linked_again None fs bytes a h s =
    let m = may_again 0x80 None fs bytes a s in
    ((tagged 0x80 bytes).1, rw m.0 refl, m.1)
linked_again (Some z) fs bytes a h s =
    let m = may_again 0x80 (Some (identifier z)) fs bytes a s in
    ((tagged 0x80 bytes).1, rw m.0 (rw (identifier_again z h) refl), m.1)

-- ---- codes

abbrev Coded : List Field → List ℕ → CodeParts × List ℕ → Type 0
Coded fs bytes p = SpellsSequence fs p.1 → SpellsSequence (code_field p.0 ∷ fs) bytes × IsCode p.0

code_from-takes : (fs : List Field) (bytes : List ℕ) (o : Option (List ℕ)) (rest : List ℕ) (p : CodeParts × List ℕ) → (tagged 0x02 bytes).0 ≡ o → (tagged 0x02 bytes).1 ≡ rest → code_from bytes o rest ≡ Some p → Coded fs bytes p
code_from-takes fs bytes None rest p is then e =
    let c = bind_some (content_at 0x06 bytes) global_from p e in
    let g = test_some (is_object_identifier c.0.0) (some (with_rest (global c.0.0) c.0.1)) p c.2 in
    let same = some_is (with_rest (global c.0.0) c.0.1) p g.1 in
    subst (Coded fs bytes) same (λ s. (must_takes 0x06 fs bytes c.0 c.1 s, object_identifier_takes c.0.0 g.0))
code_from-takes fs bytes (Some c) rest p is then e =
    let n = bind_some (integer_at c) (λ number. some (with_rest (local number) rest)) p e in
    let same = some_is (with_rest (local n.0) rest) p n.2 in
    let i = integer_takes c n.0 n.1 in
    let content : content_at 0x02 bytes ≡ Some (c, rest) = rw (is, then) refl in
    subst (Coded fs bytes) same (λ s. (subst (λ (w : List ℕ). SpellsSequence (must 0x02 w ∷ fs) bytes) (integer-octets n.0 c i) (must_takes 0x02 fs bytes (c, rest) content s), integer-fits n.0 c i))

pub code_takes : (fs : List Field) (bytes : List ℕ) (p : CodeParts × List ℕ) → code_at bytes ≡ Some p → SpellsSequence fs p.1 → SpellsSequence (code_field p.0 ∷ fs) bytes × IsCode p.0
unfolding code_at
code_takes fs bytes p e s = code_from-takes fs bytes (tagged 0x02 bytes).0 (tagged 0x02 bytes).1 p refl refl e s

pub code_again : (c : CodeParts) (fs : List Field) (bytes : List ℕ) → IsCode c → SpellsSequence (code_field c ∷ fs) bytes → (rest : List ℕ) × (code_at bytes ≡ Some (c, rest)) × SpellsSequence fs rest
unfolding code_at
code_again (local n) fs bytes h s =
    let m = must_again 0x02 (integer_octets n) fs bytes s in
    let t = content_at-is 0x02 bytes (integer_octets n, m.0) m.1 in
    (m.0, rw (t.0, t.1) (rw (integer_again (integer_octets n) n (integer_spelled n h)) refl), m.2)
code_again (global o) fs bytes h s =
    let m = must_again 0x06 o fs bytes s in
    (m.0, rw (other_first 0x02 0x06 o fs bytes refl s, m.1) (rw (object_identifier_again o h) refl), m.2)

pub code-apart : (c : CodeParts) (fs : List Field) → Apart 0x80 (code_field c ∷ fs)
code-apart (local c) fs = refl
code-apart (global c) fs = refl

-- ---- code and parameter

pub body_takes : (bytes : List ℕ) (b : BodyParts) → body_at bytes ≡ Some b → SpellsSequence (body_fields b) bytes × IsCode b.code
unfolding body_at
body_takes bytes b e =
    let c = bind_some (code_at bytes) (λ c. ending (coded c.0 (first_whole c.1).0) (first_whole c.1).1) b e in
    let z = ending-is (coded c.0.0 (first_whole c.0.1).0) b (first_whole c.0.1).1 c.2 in
    subst (λ (w : BodyParts). SpellsSequence (body_fields w) bytes × IsCode w.code) z.1
    (code_takes (any (first_whole c.0.1).0 ∷ []) bytes c.0 c.1 (any_takes [] c.0.1 (end_takes _ z.0)))

pub body_again : (b : BodyParts) (bytes : List ℕ) → IsCode b.code → SpellsSequence (body_fields b) bytes → body_at bytes ≡ Some b
unfolding body_at
body_again b bytes h s =
    let c = code_again b.code (any b.parameter ∷ []) bytes h s in
    let p = any_again b.parameter c.0 c.2 in
    rw c.1 (rw p.0 (ending-again b (first_whole c.0).1 p.1))

-- ---- a Reject's identifier

abbrev Rejected : List Field → List ℕ → Option ℤ × List ℕ → Type 0
Rejected fs bytes p = SpellsSequence fs p.1 → SpellsSequence (rejected_field p.0 ∷ fs) bytes × IsIdentifierIfAny p.0

nothing : (xs : List ℕ) → length xs ≡ 0 → xs ≡ []
nothing [] e = refl
nothing (x ∷ xs) e = absurd (omega (arith, e))

rejected_from-takes : (fs : List Field) (bytes : List ℕ) (o : Option (List ℕ)) (rest : List ℕ) (p : Option ℤ × List ℕ) → (tagged 0x02 bytes).0 ≡ o → (tagged 0x02 bytes).1 ≡ rest → rejected_from bytes o rest ≡ Some p → Rejected fs bytes p
rejected_from-takes fs bytes None rest p is then e =
    let c = bind_some (content_at 0x05 bytes) null_from p e in
    let g = test_some (eqb (length c.0.0) 0) (some (with_rest None c.0.1)) p c.2 in
    let same = some_is (with_rest None c.0.1) p g.1 in
    let empty = nothing c.0.0 (eqb-true (length c.0.0) 0 g.0) in
    subst (Rejected fs bytes) same (λ s. (subst (λ (w : List ℕ). SpellsSequence (must 0x05 w ∷ fs) bytes) empty (must_takes 0x05 fs bytes c.0 c.1 s), tt))
rejected_from-takes fs bytes (Some c) rest p is then e =
    let i = some_identifier-is c rest p e in
    let content : content_at 0x02 bytes ≡ Some (c, rest) = rw (is, then) refl in
    subst (Rejected fs bytes) i.3 (λ s. (subst (λ (w : List ℕ). SpellsSequence (must 0x02 w ∷ fs) bytes) i.1 (must_takes 0x02 fs bytes (c, rest) content s), i.2))

pub rejected_takes : (fs : List Field) (bytes : List ℕ) (p : Option ℤ × List ℕ) → rejected_at bytes ≡ Some p → SpellsSequence fs p.1 → SpellsSequence (rejected_field p.0 ∷ fs) bytes × IsIdentifierIfAny p.0
unfolding rejected_at
rejected_takes fs bytes p e s = rejected_from-takes fs bytes (tagged 0x02 bytes).0 (tagged 0x02 bytes).1 p refl refl e s

pub rejected_again : (o : Option ℤ) (fs : List Field) (bytes : List ℕ) → IsIdentifierIfAny o → SpellsSequence (rejected_field o ∷ fs) bytes → (rest : List ℕ) × (rejected_at bytes ≡ Some (o, rest)) × SpellsSequence fs rest
unfolding rejected_at
rejected_again None fs bytes h s =
    let m = must_again 0x05 [] fs bytes s in
    (m.0, rw (other_first 0x02 0x05 [] fs bytes refl s, m.1) refl, m.2)
rejected_again (Some z) fs bytes h s =
    let m = must_again 0x02 (identifier z) fs bytes s in
    let t = content_at-is 0x02 bytes (identifier z, m.0) m.1 in
    (m.0, rw (t.0, t.1) (rw (identifier_again z h) refl), m.2)

-- A 02 with one octet and nothing after it is a result without a body.
pub bare_result : (bytes rest : List ℕ) (octet : ℕ) → tagged 0x02 bytes ≡ (Some (octet ∷ []), rest) → length rest ≡ 0 → octet < 256 → result_at bytes ≡ Some (signed_octet octet, None)
unfolding result_at identifier_at identifier_of tagged element_at head_at tag_at
bare_result bytes rest octet is none below = rw (is, lt-ltb octet 256 below, nothing rest none) refl
