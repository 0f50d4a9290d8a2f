-- A dialogue portion that is read is spelled so, and what is spelled so is read.
use Rattle.std.proofs.Common.{◌≡◌, ◌≢◌, ℕ, Bool, true, false, cond, eqb, List, [], ◌∷◌, ◌++◌, is_ok, Some, None, refl, sym, ap, subst, ◌∙◌, inl, inr, eqb-true}
use Rattle.std.proofs.lemmas.Bool.{cases_Bool, false≢true}
use Rattle.std.proofs.lemmas.Slice.Eq.{bytes_eq-Decides}
use Rattle.std.specs.List.{list_all}
use Rattle.std.specs.Str.{bytes_eq}
use Rattle.ber_core.specs.Options.{◌>>=◌}
use Rattle.ber_core.specs.Element.{Parts, IsElement, joined}
use Rattle.ber_core.specs.ElementReading.{element_at}
use Rattle.ber_core.specs.ListReading.{items_of}
use Rattle.ber_core.specs.ObjectIdentifier.{is_object_identifier}
use Rattle.ber_core.specs.Sequence.{Holds, SpellsSequence, IsOnly}
use Rattle.ber_core.specs.Sequence.Field.{must}
use Rattle.ber_core.specs.SequenceReading.{is_tag, tagged, content_at, only_at}
use Rattle.ber_core.proofs.CallerLemmas.{some_is, not_some, by_result, bind_some, test_some, is_tag-is, is_tag-one, element_takes, element_again, must_takes, must_again, only_takes, only_again, list_takes, list_again, list_from, object_identifier_takes, object_identifier_again}
use Rattle.tcap_pdu.specs.DialogueSpelling.{PduValue, structured_syntax, unstructured_syntax, SpellsRequest, SpellsResponse, SpellsAbort, SpellsExternal, IsForeign, SpellsDialogue}
use Rattle.tcap_pdu.specs.DialogueSpelling.PduValue.{aarq, audt, aare, abrt, foreign}
use Rattle.tcap_pdu.specs.DialoguePartsReading.{one_at}
use Rattle.tcap_pdu.specs.DialogueReading.{request_at, abort_at, aarq_of, audt_of, structured_by, structured_at, unstructured_at, foreign_by, pdu_by, pdu_at}
use Rattle.tcap_pdu.proofs.DialogueParts.{some, one_takes, one_again}
use Rattle.tcap_pdu.proofs.DialogueGrammar.{request_takes, request_again, IsResponse, response_takes, response_again, IsAbort, abort_takes, abort_again}

-- ---- the PDU, alone

abbrev InOne : ℕ → (List ℕ → Type 0) → List ℕ → Type 0
InOne tag Spells bytes = (content : List ℕ) × IsOnly tag content bytes × Spells content

-- the bytes are this PDU of a structured dialogue
abbrev IsStructured : List ℕ → PduValue → Type 0
IsStructured bytes (aarq v c i) = InOne 0x60 (SpellsRequest v c i) bytes
IsStructured bytes (audt v c i) = ⊥
IsStructured bytes (aare v c a d i) = InOne 0x61 (SpellsResponse v c a d i) bytes
IsStructured bytes (abrt b i) = InOne 0x64 (SpellsAbort b i) bytes
IsStructured bytes (foreign x) = ⊥

-- the bytes are this PDU of an unstructured dialogue
abbrev IsUnstructured : List ℕ → PduValue → Type 0
IsUnstructured bytes (aarq v c i) = ⊥
IsUnstructured bytes (audt v c i) = InOne 0x60 (SpellsRequest v c i) bytes
IsUnstructured bytes (aare v c a d i) = ⊥
IsUnstructured bytes (abrt b i) = ⊥
IsUnstructured bytes (foreign x) = ⊥

with_response : (p : PduValue) (content bytes : List ℕ) → IsOnly 0x61 content bytes → IsResponse content p → IsStructured bytes p
with_response (aarq v c i) content bytes o h = absurd h
with_response (audt v c i) content bytes o h = absurd h
with_response (aare v c a d i) content bytes o h = (content, o, h)
with_response (abrt b i) content bytes o h = absurd h
with_response (foreign x) content bytes o h = absurd h

with_abort : (p : PduValue) (content bytes : List ℕ) → IsOnly 0x64 content bytes → IsAbort content p → IsStructured bytes p
with_abort (aarq v c i) content bytes o h = absurd h
with_abort (audt v c i) content bytes o h = absurd h
with_abort (aare v c a d i) content bytes o h = absurd h
with_abort (abrt b i) content bytes o h = (content, o, h)
with_abort (foreign x) content bytes o h = absurd h

with_tag : (tag other : ℕ) (content bytes : List ℕ) → eqb tag other ≡ true → IsOnly tag content bytes → IsOnly other content bytes
with_tag tag other content bytes e o = subst (λ (x : ℕ). IsOnly x content bytes) (eqb-true tag other e) o

structured_by_takes : (tag : ℕ) (content bytes : List ℕ) (p : PduValue) → IsOnly tag content bytes → structured_by tag content ≡ Some p → IsStructured bytes p
structured_by_takes tag content bytes p o e = elim (cases_Bool (eqb tag 0x60)) [
  | inl y ↦
      let e = e in
      let r = bind_some (request_at content) aarq_of p (rw y at e) in
      subst (IsStructured bytes) (some_is (aarq r.0.0 r.0.1 r.0.2) p r.2) (content, with_tag tag 0x60 content bytes y o, request_takes content r.0 r.1)
  | inr other ↦ elim (cases_Bool (eqb tag 0x61)) [
    | inl y ↦
        let e = e in
        with_response p content bytes (with_tag tag 0x61 content bytes y o) (response_takes content p (rw (other, y) at e))
    | inr others ↦
        let e = e in
        let t = test_some (eqb tag 0x64) (abort_at content) p (rw (other, others) at e) in
        with_abort p content bytes (with_tag tag 0x64 content bytes t.0 o) (abort_takes content p t.1)
  ]
]

structured_takes : (bytes : List ℕ) (p : PduValue) → structured_at bytes ≡ Some p → IsStructured bytes p
unfolding structured_at
structured_takes bytes p e =
    let h = bind_some (one_at bytes) (λ h. structured_by h.0 h.1) p e in
    structured_by_takes h.0.0 h.0.1 bytes p (one_takes bytes h.0 h.1) h.2

structured_again : (p : PduValue) (bytes : List ℕ) → IsStructured bytes p → structured_at bytes ≡ Some p
unfolding structured_at
structured_again (aarq v c i) bytes s = rw (one_again 0x60 s.0 bytes s.1) (rw (request_again v c i s.0 s.2) refl)
structured_again (audt v c i) bytes s = absurd s
structured_again (aare v c a d i) bytes s = rw (one_again 0x61 s.0 bytes s.1) (response_again v c a d i s.0 s.2)
structured_again (abrt b i) bytes s = rw (one_again 0x64 s.0 bytes s.1) (abort_again b i s.0 s.2)
structured_again (foreign x) bytes s = absurd s

unstructured_takes : (bytes : List ℕ) (p : PduValue) → unstructured_at bytes ≡ Some p → IsUnstructured bytes p
unfolding unstructured_at
unstructured_takes bytes p e =
    let c = bind_some (only_at 0x60 bytes) (λ c. request_at c >>= audt_of) p e in
    let r = bind_some (request_at c.0) audt_of p c.2 in
    subst (IsUnstructured bytes) (some_is (audt r.0.0 r.0.1 r.0.2) p r.2) (c.0, only_takes 0x60 bytes c.0 c.1, request_takes c.0 r.0 r.1)

unstructured_again : (version1 : Bool) (context info bytes : List ℕ) → InOne 0x60 (SpellsRequest version1 context info) bytes → unstructured_at bytes ≡ Some (audt version1 context info)
unfolding unstructured_at
unstructured_again version1 context info bytes s = rw (only_again 0x60 s.0 bytes s.1) (rw (request_again version1 context info s.0 s.2) refl)

-- ---- the EXTERNAL

external_from : (syntax : List ℕ) (tag : ℕ) (Spells : List ℕ → Type 0) (bytes external single : List ℕ) → IsOnly 0x28 external bytes → SpellsSequence (must 0x06 syntax ∷ must 0xa0 single ∷ []) external → InOne tag Spells single → SpellsExternal syntax tag Spells bytes
external_from syntax tag Spells bytes external single o s i = record { external = external; single = single; content = i.0; is_external = o; in_sequence = s; is_pdu = i.1; is_content = i.2 }

structured_spells : (p : PduValue) (bytes external single : List ℕ) → IsOnly 0x28 external bytes → SpellsSequence (must 0x06 structured_syntax ∷ must 0xa0 single ∷ []) external → IsStructured single p → SpellsDialogue p bytes
unfolding SpellsDialogue
structured_spells (aarq v c i) bytes external single o s h = external_from structured_syntax 0x60 (SpellsRequest v c i) bytes external single o s h
structured_spells (audt v c i) bytes external single o s h = absurd h
structured_spells (aare v c a d i) bytes external single o s h = external_from structured_syntax 0x61 (SpellsResponse v c a d i) bytes external single o s h
structured_spells (abrt b i) bytes external single o s h = external_from structured_syntax 0x64 (SpellsAbort b i) bytes external single o s h
structured_spells (foreign x) bytes external single o s h = absurd h

unstructured_spells : (p : PduValue) (bytes external single : List ℕ) → IsOnly 0x28 external bytes → SpellsSequence (must 0x06 unstructured_syntax ∷ must 0xa0 single ∷ []) external → IsUnstructured single p → SpellsDialogue p bytes
unfolding SpellsDialogue
unstructured_spells (aarq v c i) bytes external single o s h = absurd h
unstructured_spells (audt v c i) bytes external single o s h = external_from unstructured_syntax 0x60 (SpellsRequest v c i) bytes external single o s h
unstructured_spells (aare v c a d i) bytes external single o s h = absurd h
unstructured_spells (abrt b i) bytes external single o s h = absurd h
unstructured_spells (foreign x) bytes external single o s h = absurd h

-- ---- a foreign EXTERNAL

-- the first element, with this tag and content, and what follows it
abbrev Front : ℕ → List ℕ → List ℕ × List ℕ → Type 0
Front tag bytes c = (e : Parts) × IsElement 32 e × (bytes ≡ e.whole ++ c.1) × Holds tag c.0 e

front_takes : (tag : ℕ) (bytes : List ℕ) (c : List ℕ × List ℕ) → content_at tag bytes ≡ Some c → Front tag bytes c
unfolding tagged
front_takes tag bytes c is = elim (by_result (element_at 32 bytes)) [
  | inl f ↦ let is = is in absurd (not_some c (rw f.1 at is))
  | inr r ↦
      let t = element_takes 32 bytes r.0 r.1 in
      elim (cases_Bool (is_tag tag r.0.0.tag)) [
        | inl y ↦
            let is = is in
            subst (Front tag bytes) (some_is (r.0.0.content, r.0.1) c (rw (r.1, y) at is)) (r.0.0, t.0, t.1, (is_tag-is tag r.0.0.tag y, refl))
        | inr other ↦ let is = is in absurd (not_some c (rw (r.1, other) at is))
      ]
]

front_again : (tag : ℕ) (e : Parts) (content rest : List ℕ) → IsElement 32 e → Holds tag content e → content_at tag (e.whole ++ rest) ≡ Some (content, rest)
unfolding tagged
front_again tag e content rest i h = rw (element_again 32 e rest i, is_tag-one tag e.tag h.0, h.1) refl

foreign_takes : (bytes external syntax rest : List ℕ) (p : PduValue) → IsOnly 0x28 external bytes → content_at 0x06 external ≡ Some (syntax, rest) → (syntax ≢ structured_syntax) → (syntax ≢ unstructured_syntax) → foreign_by bytes syntax rest ≡ Some p → SpellsDialogue p bytes
unfolding foreign_by SpellsDialogue
foreign_takes bytes external syntax rest p o c not_structured not_unstructured e =
    let t = test_some (is_object_identifier syntax) (cond (list_all is_ok (items_of rest)) (some (foreign bytes)) None) p e in
    let u = test_some (list_all is_ok (items_of rest)) (some (foreign bytes)) p t.1 in
    let l = list_takes rest u.0 in
    let f = front_takes 0x06 external (syntax, rest) c in
    subst (λ (x : PduValue). SpellsDialogue x bytes) (some_is (foreign bytes) p u.1) (
      refl,
      record {
        content = external;
        syntax = syntax;
        first = f.0;
        others = l.0;
        is_external = o;
        is_list = list_from f.0 external rest l.0 f.1 f.2 l.1;
        is_syntax = f.3;
        is_identifier = object_identifier_takes syntax t.0;
        not_structured = not_structured;
        not_unstructured = not_unstructured;
      },
    )

not_true : (b : Bool) → (b ≡ true → ⊥) → b ≡ false
not_true true h = absurd (h refl)
not_true false h = refl

not_same : (xs ys : List ℕ) → bytes_eq xs ys ≡ false → xs ≢ ys
not_same xs ys e is = false≢true (sym e ∙ (bytes_eq-Decides xs ys).1 is)

other_syntax : (xs ys : List ℕ) → (xs ≢ ys) → bytes_eq xs ys ≡ false
other_syntax xs ys h = not_true (bytes_eq xs ys) (λ e. h ((bytes_eq-Decides xs ys).0 e))

foreign_again : (bytes : List ℕ) → IsForeign bytes → pdu_at bytes ≡ Some (foreign bytes)
unfolding pdu_at pdu_by foreign_by
foreign_again bytes s =
    let rest = joined s.others in
    let front : content_at 0x06 s.content ≡ Some (s.syntax, rest) = ap (content_at 0x06) s.is_list.is_joined ∙ front_again 0x06 s.first s.syntax rest s.is_list.each.0 s.is_syntax in
    rw (only_again 0x28 s.content bytes s.is_external) (rw front (rw (other_syntax s.syntax structured_syntax s.not_structured, other_syntax s.syntax unstructured_syntax s.not_unstructured, object_identifier_again s.syntax s.is_identifier) (rw (list_again s.others rest (record { each = s.is_list.each.1; is_joined = refl })) refl)))

-- ---- the portion

by_takes : (bytes external syntax rest : List ℕ) (p : PduValue) → IsOnly 0x28 external bytes → content_at 0x06 external ≡ Some (syntax, rest) → pdu_by bytes syntax rest ≡ Some p → SpellsDialogue p bytes
unfolding pdu_by
by_takes bytes external syntax rest p o c e = elim (cases_Bool (bytes_eq syntax structured_syntax)) [
  | inl y ↦
      let e = e in
      let s = bind_some (only_at 0xa0 rest) structured_at p (rw y at e) in
      let is = (bytes_eq-Decides syntax structured_syntax).0 y in
      let q = must_takes 0x06 (must 0xa0 s.0 ∷ []) external (syntax, rest) c (only_takes 0xa0 rest s.0 s.1) in
      structured_spells p bytes external s.0 o (subst (λ (x : List ℕ). SpellsSequence (must 0x06 x ∷ must 0xa0 s.0 ∷ []) external) is q) (structured_takes s.0 p s.2)
  | inr other ↦ elim (cases_Bool (bytes_eq syntax unstructured_syntax)) [
    | inl y ↦
        let e = e in
        let s = bind_some (only_at 0xa0 rest) unstructured_at p (rw (other, y) at e) in
        let is = (bytes_eq-Decides syntax unstructured_syntax).0 y in
        let q = must_takes 0x06 (must 0xa0 s.0 ∷ []) external (syntax, rest) c (only_takes 0xa0 rest s.0 s.1) in
        unstructured_spells p bytes external s.0 o (subst (λ (x : List ℕ). SpellsSequence (must 0x06 x ∷ must 0xa0 s.0 ∷ []) external) is q) (unstructured_takes s.0 p s.2)
    | inr others ↦
        let e = e in
        foreign_takes bytes external syntax rest p o c (not_same syntax structured_syntax other) (not_same syntax unstructured_syntax others) (rw (other, others) at e)
  ]
]

pub pdu_takes : (bytes : List ℕ) (p : PduValue) → pdu_at bytes ≡ Some p → SpellsDialogue p bytes
unfolding pdu_at
pdu_takes bytes p e =
    let x = bind_some (only_at 0x28 bytes) (λ x. content_at 0x06 x >>= (λ s. pdu_by bytes s.0 s.1)) p e in
    let s = bind_some (content_at 0x06 x.0) (λ s. pdu_by bytes s.0 s.1) p x.2 in
    by_takes bytes x.0 s.0.0 s.0.1 p (only_takes 0x28 bytes x.0 x.1) s.1 s.2

structured_read : (p : PduValue) (tag : ℕ) (Spells : List ℕ → Type 0) (bytes : List ℕ) → ((single : List ℕ) → InOne tag Spells single → structured_at single ≡ Some p) → SpellsExternal structured_syntax tag Spells bytes → pdu_at bytes ≡ Some p
unfolding pdu_at pdu_by
structured_read p tag Spells bytes again s =
    let m = must_again 0x06 structured_syntax (must 0xa0 s.single ∷ []) s.external s.in_sequence in
    rw (only_again 0x28 s.external bytes s.is_external) (rw m.1 (rw (only_again 0xa0 s.single m.0 m.2) (again s.single (s.content, s.is_pdu, s.is_content))))

pub pdu_again : (p : PduValue) (bytes : List ℕ) → SpellsDialogue p bytes → pdu_at bytes ≡ Some p
unfolding SpellsDialogue pdu_at pdu_by
pdu_again (aarq v c i) bytes s = structured_read (aarq v c i) 0x60 (SpellsRequest v c i) bytes (λ x h. structured_again (aarq v c i) x h) s
pdu_again (audt v c i) bytes s =
    let m = must_again 0x06 unstructured_syntax (must 0xa0 s.single ∷ []) s.external s.in_sequence in
    rw (only_again 0x28 s.external bytes s.is_external) (rw m.1 (rw (only_again 0xa0 s.single m.0 m.2) (unstructured_again v c i s.single (s.content, s.is_pdu, s.is_content))))
pdu_again (aare v c a d i) bytes s = structured_read (aare v c a d i) 0x61 (SpellsResponse v c a d i) bytes (λ x h. structured_again (aare v c a d i) x h) s
pdu_again (abrt b i) bytes s = structured_read (abrt b i) 0x64 (SpellsAbort b i) bytes (λ x h. structured_again (abrt b i) x h) s
pdu_again (foreign x) bytes s = let again = foreign_again x s.1 in rw s.0 again
