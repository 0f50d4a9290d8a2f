-- A dialogue PDU that is read is spelled so, and what is spelled so is read.
use Rattle.std.proofs.Common.{◌≡◌, ℕ, Bool, true, false, eqb, List, [], ◌∷◌, Some, refl, ap, subst, ◌∙◌, inl, inr, eqb-true}
use Rattle.std.proofs.lemmas.Bool.{cases_Bool}
use Rattle.ber_core.specs.Options.{◌>>=◌}
use Rattle.ber_core.specs.Sequence.{SpellsSequence, IsOnly}
use Rattle.ber_core.specs.Sequence.Field.{must, filled}
use Rattle.ber_core.specs.SequenceReading.{content_at}
use Rattle.ber_core.proofs.CallerLemmas.{some_is, bind_some, test_some, must_takes, must_again}
use Rattle.tcap_pdu.specs.DialogueSpelling.{Source, PduValue, result_number, abort_source, SpellsRequest, SpellsResponse, SpellsAbort}
use Rattle.tcap_pdu.specs.DialogueSpelling.PduValue.{aarq, audt, aare, abrt, foreign}
use Rattle.tcap_pdu.specs.DialoguePartsReading.{one_octet, information_at, Opening, opening, opening_at, number_at, diagnostic_at}
use Rattle.tcap_pdu.specs.DialogueReading.{request_at, accepted_of, by_provider_of, response_at, abort_at}
use Rattle.tcap_pdu.proofs.DialogueParts.{some, information_at_takes, information_at_again, one_octet-is, one_octet-one, opening_takes, opening_again, number_takes, number_again, diagnostic_takes, diagnostic_again}

-- ---- the contents

pub request_takes : (bytes : List ℕ) (r : Opening) → request_at bytes ≡ Some r → SpellsRequest r.0 r.1 r.2 bytes
unfolding request_at
request_takes bytes r e =
    let o = bind_some (opening_at bytes) (λ o. information_at o.2 >>= (λ info. some (opening o.0 o.1 info))) r e in
    let i = bind_some (information_at o.0.2) (λ info. some (opening o.0.0 o.0.1 info)) r o.2 in
    let t = information_at_takes o.0.2 i.0 i.1 in
    let s = opening_takes (filled 0xbe i.0 ∷ []) bytes o.0 o.1 t.0 in
    subst (λ (x : Opening). SpellsRequest x.0 x.1 x.2 bytes) (some_is (opening o.0.0 o.0.1 i.0) r i.2) (record {
      version = s.version;
      name = s.name;
      in_sequence = s.in_sequence;
      says_version = s.says_version;
      holds_context = s.holds_context;
      is_context = s.is_context;
      is_information = t.1;
    })

pub request_again : (version1 : Bool) (context info bytes : List ℕ) → SpellsRequest version1 context info bytes → request_at bytes ≡ Some (opening version1 context info)
unfolding request_at
request_again version1 context info bytes s =
    let o = opening_again (filled 0xbe info ∷ []) version1 context bytes (record { version = s.version; name = s.name; in_sequence = s.in_sequence; says_version = s.says_version; holds_context = s.holds_context; is_context = s.is_context }) in
    rw o.1 (rw (information_at_again o.0 info o.2 s.is_information) refl)

accepted_takes : (n : ℕ) (accepted : Bool) → accepted_of n ≡ Some accepted → n ≡ result_number accepted
accepted_takes n accepted e = elim (cases_Bool (eqb n 0)) [
  | inl y ↦
      let e = e in
      subst (λ (x : Bool). n ≡ result_number x) (some_is true accepted (rw y at e)) (eqb-true n 0 y)
  | inr other ↦
      let e = e in
      let t = test_some (eqb n 1) (some false) accepted (rw other at e) in
      subst (λ (x : Bool). n ≡ result_number x) (some_is false accepted t.1) (eqb-true n 1 t.0)
]

accepted_again : (accepted : Bool) → accepted_of (result_number accepted) ≡ Some accepted
accepted_again true = refl
accepted_again false = refl

by_provider_takes : (n : ℕ) (by_provider : Bool) → by_provider_of n ≡ Some by_provider → n ≡ abort_source by_provider
by_provider_takes n by_provider e = elim (cases_Bool (eqb n 0)) [
  | inl y ↦
      let e = e in
      subst (λ (x : Bool). n ≡ abort_source x) (some_is false by_provider (rw y at e)) (eqb-true n 0 y)
  | inr other ↦
      let e = e in
      let t = test_some (eqb n 1) (some true) by_provider (rw other at e) in
      subst (λ (x : Bool). n ≡ abort_source x) (some_is true by_provider t.1) (eqb-true n 1 t.0)
]

by_provider_again : (by_provider : Bool) → by_provider_of (abort_source by_provider) ≡ Some by_provider
by_provider_again true = refl
by_provider_again false = refl

-- the PDU is an AARE with these contents
abbrev pub IsResponse : List ℕ → PduValue → Type 0
IsResponse bytes (aarq v c i) = ⊥
IsResponse bytes (audt v c i) = ⊥
IsResponse bytes (aare v c a d i) = SpellsResponse v c a d i bytes
IsResponse bytes (abrt b i) = ⊥
IsResponse bytes (foreign x) = ⊥

pub response_takes : (bytes : List ℕ) (p : PduValue) → response_at bytes ≡ Some p → IsResponse bytes p
unfolding response_at
response_takes bytes p e =
    let last = λ (o : Opening) (a : Bool) (d : Source) (i : List ℕ). some (aare o.0 o.1 a d i) in
    let o = bind_some (opening_at bytes) (λ o. content_at 0xa2 o.2 >>= (λ r. number_at r.0 >>= (λ n. accepted_of n >>= (λ a. content_at 0xa3 r.1 >>= (λ s. diagnostic_at s.0 >>= (λ d. information_at s.1 >>= last o a d)))))) p e in
    let r = bind_some (content_at 0xa2 o.0.2) (λ r. number_at r.0 >>= (λ n. accepted_of n >>= (λ a. content_at 0xa3 r.1 >>= (λ s. diagnostic_at s.0 >>= (λ d. information_at s.1 >>= last o.0 a d))))) p o.2 in
    let n = bind_some (number_at r.0.0) (λ n. accepted_of n >>= (λ a. content_at 0xa3 r.0.1 >>= (λ s. diagnostic_at s.0 >>= (λ d. information_at s.1 >>= last o.0 a d)))) p r.2 in
    let a = bind_some (accepted_of n.0) (λ a. content_at 0xa3 r.0.1 >>= (λ s. diagnostic_at s.0 >>= (λ d. information_at s.1 >>= last o.0 a d))) p n.2 in
    let s = bind_some (content_at 0xa3 r.0.1) (λ s. diagnostic_at s.0 >>= (λ d. information_at s.1 >>= last o.0 a.0 d)) p a.2 in
    let d = bind_some (diagnostic_at s.0.0) (λ d. information_at s.0.1 >>= last o.0 a.0 d) p s.2 in
    let i = bind_some (information_at s.0.1) (last o.0 a.0 d.0) p d.2 in
    let t = information_at_takes s.0.1 i.0 i.1 in
    let q = must_takes 0xa2 (must 0xa3 s.0.0 ∷ filled 0xbe i.0 ∷ []) o.0.2 r.0 r.1 (must_takes 0xa3 (filled 0xbe i.0 ∷ []) r.0.1 s.0 s.1 t.0) in
    let h = opening_takes (must 0xa2 r.0.0 ∷ must 0xa3 s.0.0 ∷ filled 0xbe i.0 ∷ []) bytes o.0 o.1 q in
    subst (IsResponse bytes) (some_is (aare o.0.0 o.0.1 a.0 d.0 i.0) p i.2) (record {
      version = h.version;
      name = h.name;
      result = r.0.0;
      source = s.0.0;
      in_sequence = h.in_sequence;
      says_version = h.says_version;
      holds_context = h.holds_context;
      is_context = h.is_context;
      holds_result = subst (λ (x : ℕ). IsOnly 0x02 (x ∷ []) r.0.0) (accepted_takes n.0 a.0 a.1) (number_takes r.0.0 n.0 n.1);
      is_diagnostic = diagnostic_takes s.0.0 d.0 d.1;
      is_information = t.1;
    })

pub response_again : (version1 : Bool) (context : List ℕ) (accepted : Bool) (diagnostic : Source) (info bytes : List ℕ) → SpellsResponse version1 context accepted diagnostic info bytes → response_at bytes ≡ Some (aare version1 context accepted diagnostic info)
unfolding response_at
response_again version1 context accepted diagnostic info bytes s =
    let o = opening_again (must 0xa2 s.result ∷ must 0xa3 s.source ∷ filled 0xbe info ∷ []) version1 context bytes (record { version = s.version; name = s.name; in_sequence = s.in_sequence; says_version = s.says_version; holds_context = s.holds_context; is_context = s.is_context }) in
    let r = must_again 0xa2 s.result (must 0xa3 s.source ∷ filled 0xbe info ∷ []) o.0 o.2 in
    let d = must_again 0xa3 s.source (filled 0xbe info ∷ []) r.0 r.2 in
    rw (o.1, r.1) (rw (number_again s.result (result_number accepted) s.holds_result) (rw (accepted_again accepted) (rw (d.1, diagnostic_again s.source diagnostic s.is_diagnostic) (rw (information_at_again d.0 info d.2 s.is_information) refl))))

-- the PDU is an ABRT with these contents
abbrev pub IsAbort : List ℕ → PduValue → Type 0
IsAbort bytes (aarq v c i) = ⊥
IsAbort bytes (audt v c i) = ⊥
IsAbort bytes (aare v c a d i) = ⊥
IsAbort bytes (abrt b i) = SpellsAbort b i bytes
IsAbort bytes (foreign x) = ⊥

pub abort_takes : (bytes : List ℕ) (p : PduValue) → abort_at bytes ≡ Some p → IsAbort bytes p
unfolding abort_at
abort_takes bytes p e =
    let s = bind_some (content_at 0x80 bytes) (λ s. one_octet s.0 >>= (λ n. by_provider_of n >>= (λ b. information_at s.1 >>= (λ i. some (abrt b i))))) p e in
    let n = bind_some (one_octet s.0.0) (λ n. by_provider_of n >>= (λ b. information_at s.0.1 >>= (λ i. some (abrt b i)))) p s.2 in
    let b = bind_some (by_provider_of n.0) (λ b. information_at s.0.1 >>= (λ i. some (abrt b i))) p n.2 in
    let i = bind_some (information_at s.0.1) (λ i. some (abrt b.0 i)) p b.2 in
    let t = information_at_takes s.0.1 i.0 i.1 in
    let octets : s.0.0 ≡ abort_source b.0 ∷ [] = one_octet-is s.0.0 n.0 n.1 ∙ ap (λ (x : ℕ). x ∷ []) (by_provider_takes n.0 b.0 b.1) in
    subst (IsAbort bytes) (some_is (abrt b.0 i.0) p i.2) (record {
      in_sequence = subst (λ (x : List ℕ). SpellsSequence (must 0x80 x ∷ filled 0xbe i.0 ∷ []) bytes) octets (must_takes 0x80 (filled 0xbe i.0 ∷ []) bytes s.0 s.1 t.0);
      is_information = t.1;
    })

pub abort_again : (by_provider : Bool) (info bytes : List ℕ) → SpellsAbort by_provider info bytes → abort_at bytes ≡ Some (abrt by_provider info)
unfolding abort_at
abort_again by_provider info bytes s =
    let m = must_again 0x80 (abort_source by_provider ∷ []) (filled 0xbe info ∷ []) bytes s.in_sequence in
    rw m.1 (rw (one_octet-one (abort_source by_provider)) (rw (by_provider_again by_provider) (rw (information_at_again m.0 info m.2 s.is_information) refl)))
