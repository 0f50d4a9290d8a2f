-- The parts of a dialogue PDU: what is read is spelled so, and what is spelled so is read.
use Rattle.std.proofs.Common.{◌≡◌, ℕ, ◌≤◌, Bool, true, false, cond, ltb, leb, eqb, ◌&&◌, List, [], ◌∷◌, length, map, is_ok, Option, Some, None, Ok, Err, Result, unwrap_or, refl, sym, ap, subst, ◌∙◌, inl, inr, eqb-true, append-nil}
use Rattle.std.proofs.lemmas.Bool.{cases_Bool, ltb-false, le-ltb}
use Rattle.std.specs.List.{AllByRecursion, list_all}
use Rattle.ber_core.specs.declared.fault.BerFault.{BerFault}
use Rattle.ber_core.specs.Options.{◌>>=◌}
use Rattle.ber_core.specs.Element.{Parts}
use Rattle.ber_core.specs.ElementList.{IsList}
use Rattle.ber_core.specs.ListReading.{items_of}
use Rattle.ber_core.specs.ObjectIdentifier.{IsObjectIdentifier, is_object_identifier}
use Rattle.ber_core.specs.Sequence.{Field, InOrder, SpellsSequence, IsOnly}
use Rattle.ber_core.specs.Sequence.Field.{must, may, filled}
use Rattle.ber_core.specs.SequenceReading.{tagged, content_at, only_at, alone_at, ending}
use Rattle.ber_core.proofs.CallerLemmas.{some_is, not_some, bind_some, guard_some, test_some, ending-is, ending-again, items_of-list, items_of-none, is_tag-is, is_tag-one, may_takes, must_takes, filled_takes, end_takes, may_again, must_again, filled_again, end_again, only_takes, only_again, alone_takes, alone_again, list_takes, object_identifier_takes, object_identifier_again}
use Rattle.tcap_pdu.specs.DialogueSpelling.{Source, source_tag, source_number, SaysVersion, IsExternal, IsInformation, SpellsDiagnostic}
use Rattle.tcap_pdu.specs.DialogueSpelling.Source.{user, provider}
use Rattle.tcap_pdu.specs.DialoguePartsReading.{one_octet, Tagged, tag_and, one_at, is_external, is_information, information_at, version_of, version_and, version_at, context_at, Opening, opening, opening_at, number_at, source_of, diagnostic_at}

abbrev pub some : {A : Type 0} → A → Option A
some x = Some x

-- ---- user information

both : (a b : Bool) → (a && b) ≡ true → (a ≡ true) × (b ≡ true)
both true b e = (refl, e)
both false b e = absurd cc

all_read : (items : List (Result Parts BerFault)) → list_all is_external items ≡ true → list_all is_ok items ≡ true
all_read [] h = refl
all_read (Ok e ∷ items) h = all_read items (both (is_external (Ok e)) (list_all is_external items) h).1
all_read (Err f ∷ items) h = absurd cc

abbrev item : Parts → Result Parts BerFault
item e = Ok e

each_external : (es : List Parts) → list_all is_external (map item es) ≡ true → AllByRecursion IsExternal es
each_external [] h = tt
each_external (e ∷ es) h = let b = both (is_external (item e)) (list_all is_external (map item es)) h in (is_tag-is 0x28 e.tag b.0, each_external es b.1)

all_external : (es : List Parts) → AllByRecursion IsExternal es → list_all is_external (map item es) ≡ true
all_external [] h = refl
all_external (e ∷ es) h = rw (is_tag-one 0x28 e.tag h.0) (all_external es h.1)

items-are : (es : List Parts) (bytes : List ℕ) → IsList es bytes → items_of bytes ≡ map item es
items-are es bytes l = ap items_of l.is_joined ∙ items_of-list es l.each

pub information_takes : (info : List ℕ) → is_information info ≡ true → IsInformation info
information_takes info h =
    let l = list_takes info (all_read (items_of info) h) in
    let h = h in
    record { externals = l.0; is_list = l.1; each = each_external l.0 (rw (items-are l.0 info l.1) at h) }

pub information_again : (info : List ℕ) → IsInformation info → is_information info ≡ true
information_again info i = rw (items-are i.externals info i.is_list) (all_external i.externals i.each)

pub information_at_takes : (bytes info : List ℕ) → information_at bytes ≡ Some info → SpellsSequence (filled 0xbe info ∷ []) bytes × IsInformation info
unfolding information_at
information_at_takes bytes info e =
    let u = unwrap_or (tagged 0xbe bytes).0 [] in
    let t = test_some (is_information u) (ending u (tagged 0xbe bytes).1) info e in
    let z = ending-is u info (tagged 0xbe bytes).1 t.1 in
    subst (λ (x : List ℕ). SpellsSequence (filled 0xbe x ∷ []) bytes × IsInformation x) z.1 (filled_takes 0xbe [] bytes (end_takes (tagged 0xbe bytes).1 z.0), information_takes u t.0)

pub information_at_again : (bytes info : List ℕ) → SpellsSequence (filled 0xbe info ∷ []) bytes → IsInformation info → information_at bytes ≡ Some info
unfolding information_at
information_at_again bytes info s i =
    let f = filled_again 0xbe info [] bytes tt s in
    rw f.0 (rw (information_again info i) (ending-again info (tagged 0xbe bytes).1 (end_again (tagged 0xbe bytes).1 f.1)))

-- ---- one element of any tag of one octet

pub one_octet-is : (content : List ℕ) (n : ℕ) → one_octet content ≡ Some n → content ≡ n ∷ []
unfolding one_octet
one_octet-is [] n e = absurd (not_some n e)
one_octet-is (m ∷ []) n e = ap (λ (k : ℕ). k ∷ []) (some_is m n e)
one_octet-is (m ∷ k ∷ more) n e = absurd (not_some n e)

pub one_octet-one : (n : ℕ) → one_octet (n ∷ []) ≡ Some n
unfolding one_octet
one_octet-one n = refl

pub one_takes : (bytes : List ℕ) (h : Tagged) → one_at bytes ≡ Some h → IsOnly h.0 h.1 bytes
unfolding one_at InOrder
one_takes bytes h is =
    let e = bind_some (alone_at bytes) (λ e. one_octet e.tag >>= (λ tag. some (tag_and tag e.content))) h is in
    let t = bind_some (one_octet e.0.tag) (λ tag. some (tag_and tag e.0.content)) h e.2 in
    let a = alone_takes bytes e.0 e.1 in
    subst (λ (x : Tagged). IsOnly x.0 x.1 bytes) (some_is (tag_and t.0 e.0.content) h t.2) (record {
      elements = e.0 ∷ [];
      is_list = record { each = (a.0, tt); is_joined = a.1 ∙ sym (append-nil e.0.whole) };
      in_order = inl ((one_octet-is e.0.tag t.0 t.1, refl), tt);
    })

one_of : (tag : ℕ) (content : List ℕ) (es : List Parts) → InOrder (must tag content ∷ []) es → (e : Parts) × (es ≡ e ∷ []) × (e.tag ≡ tag ∷ []) × (e.content ≡ content)
unfolding InOrder
one_of tag content [] h = absurd h.0
one_of tag content (e ∷ []) (inl h) = (e, refl, h.0.0, h.0.1)
one_of tag content (e ∷ []) (inr h) = absurd h.0
one_of tag content (e ∷ f ∷ es) (inl h) = absurd h.1
one_of tag content (e ∷ f ∷ es) (inr h) = absurd h.0

one_by : (e : Parts) (bytes : List ℕ) (es : List Parts) → es ≡ e ∷ [] → IsList es bytes → alone_at bytes ≡ Some e
one_by e bytes es is l =
    let l = l in
    let m : IsList (e ∷ []) bytes = rw is at l in
    ap alone_at (m.is_joined ∙ append-nil e.whole) ∙ alone_again e m.each.0

pub one_again : (tag : ℕ) (content bytes : List ℕ) → IsOnly tag content bytes → one_at bytes ≡ Some (tag_and tag content)
unfolding one_at
one_again tag content bytes s =
    let o = one_of tag content s.elements s.in_order in
    rw (one_by o.0 bytes s.elements o.1 s.is_list) (rw (o.2, one_octet-one tag, o.3) refl)

-- ---- version, context and what follows them

version_takes : (o : Option (List ℕ)) (v : Bool) → version_of o ≡ Some v → SaysVersion o v
unfolding version_of
version_takes None v e = sym (some_is true v e)
version_takes (Some []) v e = absurd (not_some v e)
version_takes (Some (unused ∷ [])) v e = let t = test_some (eqb unused 0) (some false) v e in (eqb-true unused 0 t.0, sym (some_is false v t.1))
version_takes (Some (unused ∷ bits ∷ more)) v e = let g = guard_some (ltb 7 unused) (some (leb 0x80 bits)) v e in (ltb-false 7 unused g.0, sym (some_is (leb 0x80 bits) v g.1))

version_again : (o : Option (List ℕ)) (v : Bool) → SaysVersion o v → version_of o ≡ Some v
unfolding version_of
version_again None v h = ap some (sym h)
version_again (Some []) v h = absurd h
version_again (Some (unused ∷ [])) v h = rw (h.0, h.1) refl
version_again (Some (unused ∷ bits ∷ more)) v h = rw (le-ltb 7 unused h.0, h.1) refl

pub context_takes : (bytes context : List ℕ) → context_at bytes ≡ Some context → IsOnly 0x06 context bytes × IsObjectIdentifier context
unfolding context_at
context_takes bytes context e =
    let b = bind_some (only_at 0x06 bytes) (λ c. cond (is_object_identifier c) (some c) None) context e in
    let t = test_some (is_object_identifier b.0) (some b.0) context b.2 in
    subst (λ (x : List ℕ). IsOnly 0x06 x bytes × IsObjectIdentifier x) (some_is b.0 context t.1) (only_takes 0x06 bytes b.0 b.1, object_identifier_takes b.0 t.0)

pub context_again : (bytes context : List ℕ) → IsOnly 0x06 context bytes → IsObjectIdentifier context → context_at bytes ≡ Some context
unfolding context_at
context_again bytes context s i = rw (only_again 0x06 context bytes s) (rw (object_identifier_again context i) refl)

-- version and context at the front, and the parts behind them
pub record Opens (fs : List Field) (version1 : Bool) (context bytes : List ℕ) : Type 0 where
  pub version : Option (List ℕ)
  pub name : List ℕ
  pub in_sequence : SpellsSequence (may 0x80 version ∷ must 0xa1 name ∷ fs) bytes
  pub says_version : SaysVersion version version1
  pub holds_context : IsOnly 0x06 context name
  pub is_context : IsObjectIdentifier context

pub opening_takes : (fs : List Field) (bytes : List ℕ) (o : Opening) → opening_at bytes ≡ Some o → SpellsSequence fs o.2 → Opens fs o.0 o.1 bytes
unfolding opening_at version_at
opening_takes fs bytes o e s =
    let rest = (tagged 0x80 bytes).1 in
    let last = λ (v : Bool × List ℕ) (n : List ℕ × List ℕ) (c : List ℕ). some (opening v.0 c n.1) in
    let v = bind_some (version_at bytes) (λ v. content_at 0xa1 v.1 >>= (λ n. context_at n.0 >>= last v n)) o e in
    let w = bind_some (version_of (tagged 0x80 bytes).0) (λ w. some (version_and w rest)) v.0 v.1 in
    let n = bind_some (content_at 0xa1 v.0.1) (λ n. context_at n.0 >>= last v.0 n) o v.2 in
    let c = bind_some (context_at n.0.0) (last v.0 n.0) o n.2 in
    let t = context_takes n.0.0 c.0 c.1 in
    let same : opening v.0.0 c.0 n.0.1 ≡ o = some_is (opening v.0.0 c.0 n.0.1) o c.2 in
    let was : version_and w.0 rest ≡ v.0 = some_is (version_and w.0 rest) v.0 w.2 in
    let behind : SpellsSequence (must 0xa1 n.0.0 ∷ fs) v.0.1 = must_takes 0xa1 fs v.0.1 n.0 n.1 (subst (SpellsSequence fs) (sym (ap (λ (x : Opening). x.2) same)) s) in
    subst (λ (x : Opening). Opens fs x.0 x.1 bytes) same (record {
      version = (tagged 0x80 bytes).0;
      name = n.0.0;
      in_sequence = may_takes 0x80 (must 0xa1 n.0.0 ∷ fs) bytes (subst (SpellsSequence (must 0xa1 n.0.0 ∷ fs)) (sym (ap (λ (x : Bool × List ℕ). x.1) was)) behind);
      says_version = subst (SaysVersion (tagged 0x80 bytes).0) (ap (λ (x : Bool × List ℕ). x.0) was) (version_takes (tagged 0x80 bytes).0 w.0 w.1);
      holds_context = t.0;
      is_context = t.1;
    })

pub opening_again : (fs : List Field) (version1 : Bool) (context bytes : List ℕ) → Opens fs version1 context bytes → (rest : List ℕ) × (opening_at bytes ≡ Some (opening version1 context rest)) × SpellsSequence fs rest
unfolding opening_at version_at
opening_again fs version1 context bytes h =
    let p = may_again 0x80 h.version (must 0xa1 h.name ∷ fs) bytes refl h.in_sequence in
    let q = must_again 0xa1 h.name fs (tagged 0x80 bytes).1 p.1 in
    (q.0, rw (p.0, version_again h.version version1 h.says_version, q.1) (rw (context_again h.name context h.holds_context h.is_context) refl), q.2)

-- ---- the number of one octet, and the diagnostic

pub number_takes : (bytes : List ℕ) (n : ℕ) → number_at bytes ≡ Some n → IsOnly 0x02 (n ∷ []) bytes
unfolding number_at
number_takes bytes n e =
    let b = bind_some (only_at 0x02 bytes) one_octet n e in
    subst (λ (x : List ℕ). IsOnly 0x02 x bytes) (one_octet-is b.0 n b.2) (only_takes 0x02 bytes b.0 b.1)

pub number_again : (bytes : List ℕ) (n : ℕ) → IsOnly 0x02 (n ∷ []) bytes → number_at bytes ≡ Some n
unfolding number_at
number_again bytes n s = rw (only_again 0x02 (n ∷ []) bytes s) (one_octet-one n)

-- the tag and the number of a diagnostic, which is in range
abbrev IsSource : ℕ → ℕ → Source → Type 0
IsSource tag n d = (source_tag d ≡ tag) × (source_number d ≡ n) × (n ≤ 127)

source_takes : (tag n : ℕ) (d : Source) → source_of tag n ≡ Some d → IsSource tag n d
source_takes tag n d e =
    let g = guard_some (ltb 127 n) (cond (eqb tag 0xa1) (some (user n)) (cond (eqb tag 0xa2) (some (provider n)) None)) d e in
    let le = ltb-false 127 n g.0 in
    elim (cases_Bool (eqb tag 0xa1)) [
      | inl y ↦
          let g1 = g.1 in
          let is : user n ≡ d = some_is (user n) d (rw y at g1) in
          subst (IsSource tag n) is (sym (eqb-true tag 0xa1 y), refl, le)
      | inr other ↦
          let g1 = g.1 in
          let t = test_some (eqb tag 0xa2) (some (provider n)) d (rw other at g1) in
          subst (IsSource tag n) (some_is (provider n) d t.1) (sym (eqb-true tag 0xa2 t.0), refl, le)
    ]

source_again : (d : Source) → source_number d ≤ 127 → source_of (source_tag d) (source_number d) ≡ Some d
source_again (user n) le = rw (le-ltb 127 n le) refl
source_again (provider n) le = rw (le-ltb 127 n le) refl

pub diagnostic_takes : (bytes : List ℕ) (d : Source) → diagnostic_at bytes ≡ Some d → SpellsDiagnostic d bytes
unfolding diagnostic_at
diagnostic_takes bytes d e =
    let h = bind_some (one_at bytes) (λ h. number_at h.1 >>= (λ n. source_of h.0 n)) d e in
    let n = bind_some (number_at h.0.1) (λ n. source_of h.0.0 n) d h.2 in
    let i = source_takes h.0.0 n.0 d n.2 in
    record {
      held = h.0.1;
      holds_number = subst (λ (x : ℕ). IsOnly 0x02 (x ∷ []) h.0.1) (sym i.1) (number_takes h.0.1 n.0 n.1);
      is_source = subst (λ (x : ℕ). IsOnly x h.0.1 bytes) (sym i.0) (one_takes bytes h.0 h.1);
      in_range = subst (λ (x : ℕ). x ≤ 127) (sym i.1) i.2;
    }

pub diagnostic_again : (bytes : List ℕ) (d : Source) → SpellsDiagnostic d bytes → diagnostic_at bytes ≡ Some d
unfolding diagnostic_at
diagnostic_again bytes d s = rw (one_again (source_tag d) s.held bytes s.is_source) (rw (number_again s.held (source_number d) s.holds_number) (source_again d s.in_range))

pub information_none : (bytes : List ℕ) → length bytes ≡ 0 → is_information bytes ≡ true
information_none bytes e = rw (items_of-none bytes e) refl
