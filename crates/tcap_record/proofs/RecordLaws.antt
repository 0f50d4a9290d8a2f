-- Records: each event has one, what is read is one, and where octets stop being one.
use Rattle.std.proofs.Common.{◌≡◌, ℕ, suc, ◌+◌, ◌-◌, ◌<◌, ◌≤◌, false, cond, eqb, List, [], ◌∷◌, ◌++◌, length, take, drop, Some, Result, Ok, Err, refl, sym, ap, subst, ◌∙◌, append_assoc, arith, inl, inr}
use Rattle.std.proofs.lemmas.Bool.{cases_lt, ne_eqb}
use Rattle.std.proofs.lemmas.List.{append-nil, length-append, take_at, take-append-drop, take-take}
use Rattle.std.proofs.Math.Seq.{take-append-add}
use Rattle.std.proofs.lemmas.List.Concat.{flat_map-cons}
use Rattle.ber_core.specs.Results.{◌>>=◌}
use Rattle.tcap_model.specs.Words.Event.{Event}
use Rattle.tcap_record.specs.declared.kind.EventKind.{EventKind}
use Rattle.tcap_record.specs.declared.kind.EventKind.TheVariants as kind
use Rattle.tcap_record.specs.Fields.{listed, choice_at}
use Rattle.tcap_record.specs.Layout.{Fields, event_of, kind_fields_at, event_at, event_table, version_table, versioned_at, record_at, alone, alone_at}
use Rattle.tcap_record.specs.Records.{version, event_octet, kind_of, fields_of, record_of, log_of, AllHaveRecords, HasRecord, Begins, StopsAt, DamagedFirst, Damaged}
use Rattle.tcap_record.proofs.OctetLemmas.{AreOctets}
use Rattle.tcap_record.proofs.FieldLaws.{IsField, IsNaming, Stopped, not_both, bind_ok, bind_err, ok_is}
use Rattle.tcap_record.proofs.ChoiceLaws.{IsView, OfKind, as_field, choice_field, refitted}
use Rattle.tcap_record.proofs.PartLaws.{listed_naming}
use Rattle.tcap_record.proofs.KindLaws.{fit_of, octets_in, field_in, kind_is, octets_same}
use Rattle.tcap_record.proofs.EventLaws.{fielded, has_record}

-- ---- a record is a field

event_naming : IsNaming (λ (k : EventKind). Unit {0}) event_octet (listed event_table)
event_naming = listed_naming event_octet event_table (refl, (refl, (refl, (refl, (refl, (refl, (refl, (refl, (refl, (refl, (refl, (refl, (refl, (refl, tt)))))))))))))) all kind.NewDialogue
  where
    all : (k : EventKind) → listed event_table (event_octet k) ≡ Some k
    all kind.NewDialogue = refl
    all kind.Invoke = refl
    all kind.ResultLast = refl
    all kind.ResultMore = refl
    all kind.ErrorBack = refl
    all kind.Reject = refl
    all kind.Cancel = refl
    all kind.Uni = refl
    all kind.Begin = refl
    all kind.Continue = refl
    all kind.End = refl
    all kind.Abort = refl
    all kind.Bytes = refl
    all kind.Moment = refl

-- The fields of an event of a kind.
abbrev FieldedAs : Event → EventKind → Type 0
FieldedAs e k = (f : Fields k) × (event_of k f ≡ e) × fit_of k f

kind_view : (k : EventKind) → IsView (fit_of k) (OfKind kind_of HasRecord k) (octets_in k) fields_of (event_of k)
kind_view k = record {
  fit = λ f fit. (kind_is k f, has_record k f fit);
  same = λ f fit. octets_same k f;
  back = λ e fit. let x = fielded e fit.1 in subst (FieldedAs e) fit.0 (x.fields, x.is, x.fit);
}

kind_field : (k : EventKind) → IsField (OfKind kind_of HasRecord k) fields_of (event_at k)
kind_field k = as_field (fit_of k) (OfKind kind_of HasRecord k) (octets_in k) fields_of (event_of k) (kind_fields_at k) (kind_view k) (field_in k)

abbrev kinded : Event → List ℕ
kinded e = event_octet (kind_of e) ∷ fields_of e

kinded_field : IsField HasRecord kinded (choice_at (listed event_table) event_at)
kinded_field = choice_field HasRecord event_octet (listed event_table) kind_of fields_of event_at event_naming kind_field

abbrev one_version : Event → Unit {0}
one_version e = tt

abbrev version_octet : Unit {0} → ℕ
version_octet v = version

version_naming : IsNaming (λ (v : Unit {0}). Unit {0}) version_octet (listed version_table)
version_naming = listed_naming version_octet version_table (refl, tt) (λ v. refl) tt

pub record_field : IsField HasRecord record_of record_at
unfolding record_at
record_field = choice_field HasRecord version_octet (listed version_table) one_version kinded versioned_at version_naming
    (λ v. refitted HasRecord (OfKind one_version HasRecord v) kinded (versioned_at v) (λ e has. (refl, has)) (λ e both. both.1) kinded_field)

-- ---- what is read

pub record_found : (octets : List ℕ) (e : Event) (rest : List ℕ) → AreOctets octets → record_at octets ≡ Ok (e, rest)
    → HasRecord e × (octets ≡ record_of e ++ rest)
record_found octets e rest are r = let t = record_field.takes octets e rest are r in (t.fit, t.parts)

pub record_again : (e : Event) (rest : List ℕ) → HasRecord e → record_at (record_of e ++ rest) ≡ Ok (e, rest)
record_again e rest has = record_field.again e rest has

abbrev read : Event → List ℕ → Event × List ℕ
read e rest = (e, rest)

-- No record is the front of another.
pub one_event : (e f : Event) (r s : List ℕ) → HasRecord e → HasRecord f → record_of e ++ r ≡ record_of f ++ s → (e ≡ f) × (r ≡ s)
one_event e f r s has_e has_f same =
    let p : read e r ≡ read f s = ok_is (read e r) (read f s) (sym (record_again e r has_e) ∙ ap record_at same ∙ record_again f s has_f) in
    (ap (λ (x : Event × List ℕ). x.0) p, ap (λ (x : Event × List ℕ). x.1) p)

-- ---- where octets are none

take-one : (front more : List ℕ) (b : ℕ) → take (length front + 1) (front ++ (b ∷ more)) ≡ front ++ (b ∷ [])
take-one front more b = take-append-add front (b ∷ more) 1

-- Octets that begin a record, and at which reading stops whatever follows.
stops_by : (octets front rest : List ℕ) → octets ≡ front ++ rest → Begins front
    → ((b : ℕ) (more : List ℕ) → rest ≡ b ∷ more → Begins (front ++ (b ∷ [])) → ⊥) → StopsAt octets (length front)
stops_by octets front rest parts begins ends =
    let len : length octets ≡ length front + length rest = ap (λ (xs : List ℕ). length xs) parts ∙ length-append front rest in
    record {
      within = omega (arith, len);
      begins = subst Begins (sym (ap (take (length front)) parts ∙ take_at front rest (length front) refl)) begins;
      stops = λ below. go rest parts (omega (arith, len, below)) ends;
    }
  where
    go : (rest : List ℕ) → octets ≡ front ++ rest → 0 < length rest → ((b : ℕ) (more : List ℕ) → rest ≡ b ∷ more → Begins (front ++ (b ∷ [])) → ⊥)
        → Begins (take (length front + 1) octets) → ⊥
    go [] parts long ends g = absurd (omega (arith, long))
    go (b ∷ more) parts long ends g = ends b more refl (subst Begins (ap (take (length front + 1)) parts ∙ take-one front more b) g)

pub damaged_first : (octets : List ℕ) (left : ℕ) → AreOctets octets → record_at octets ≡ Err left → DamagedFirst octets (length octets - left)
damaged_first octets left are stop =
    let s = record_field.stops octets left are stop in
    let len : length octets ≡ length s.front + length s.rest = ap (λ (xs : List ℕ). length xs) s.parts ∙ length-append s.front s.rest in
    let place : length s.front ≡ length octets - left = omega (arith, len, s.is_left) in
    record {
      no_record = λ e rest has is. not_both (read e rest) left (record_at octets) (ap record_at is ∙ record_again e rest has) stop;
      stops_at = subst (StopsAt octets) place (stops_by octets s.front s.rest s.parts
          (record { event = s.begun.value; more = s.begun.more; has_record = s.begun.fit; is_record = s.begun.is })
          (λ b more is g.
          let again : record_at (s.front ++ (b ∷ g.more)) ≡ Ok (read g.event []) =
          ap record_at (sym (append_assoc s.front (b ∷ []) g.more) ∙ sym g.is_record ∙ sym (append-nil (record_of g.event))) ∙ record_again g.event [] g.has_record in
          not_both (read g.event []) (suc (length g.more)) (record_at (s.front ++ (b ∷ g.more))) again (s.stays b more g.more is)));
    }

-- ---- one record alone

some_left : (n : ℕ) → eqb (suc n) 0 ≡ false
some_left n = ne_eqb (suc n) 0 (λ h. omega (arith, h))

abbrev stop : ℕ → Result Event ℕ
stop n = Err n

alone_ok : (x : Event × List ℕ) (e : Event) → alone x ≡ Ok e → (x.0 ≡ e) × (x.1 ≡ [])
alone_ok x e h = go x.1 h
  where
    go : (rest : List ℕ) → cond (eqb (length rest) 0) (Ok x.0) (Err (length rest)) ≡ Ok e → (x.0 ≡ e) × (rest ≡ [])
    go [] h = (cc, refl)
    go (b ∷ rest) h = let p : Err (suc (length rest)) ≡ Ok e = rw (some_left (length rest)) at h in absurd cc

alone_err : (x : Event × List ℕ) (left : ℕ) → alone x ≡ Err left → (b : ℕ) × (more : List ℕ) × (x.1 ≡ b ∷ more) × (left ≡ length x.1)
alone_err x left h = go x.1 h
  where
    go : (rest : List ℕ) → cond (eqb (length rest) 0) (Ok x.0) (Err (length rest)) ≡ Err left → (b : ℕ) × (more : List ℕ) × (rest ≡ b ∷ more) × (left ≡ length rest)
    go [] h = absurd cc
    go (b ∷ rest) h = let p : Err (suc (length rest)) ≡ stop left = rw (some_left (length rest)) at h in (b, rest, refl, cc)

pub alone_found : (octets : List ℕ) (e : Event) → AreOctets octets → alone_at octets ≡ Ok e → HasRecord e × (octets ≡ record_of e)
alone_found octets e are h =
    let x = bind_ok (record_at octets) alone e h in
    let p = alone_ok x.0 e x.2 in
    let f = record_found octets x.0.0 x.0.1 are x.1 in
    (subst HasRecord p.0 f.0, f.1 ∙ ap (λ (xs : List ℕ). record_of x.0.0 ++ xs) p.1 ∙ append-nil (record_of x.0.0) ∙ ap record_of p.0)

pub alone_again : (e : Event) → HasRecord e → alone_at (record_of e) ≡ Ok e
alone_again e has = ap (λ (xs : List ℕ). record_at xs >>= alone) (sym (append-nil (record_of e))) ∙ rw (record_again e [] has) refl

pub damaged_alone : (octets : List ℕ) (left : ℕ) → AreOctets octets → alone_at octets ≡ Err left → Damaged octets (length octets - left)
damaged_alone octets left are h =
    elim (bind_err (record_at octets) alone left h) [
      | Stopped.first stop ↦
          let d = damaged_first octets left are stop in
          record { no_record = λ e has is. d.no_record e [] has (is ∙ sym (append-nil (record_of e))); stops_at = d.stops_at }
      | Stopped.then x ok stop ↦
          let f = record_found octets x.0 x.1 are ok in
          let a = alone_err x left stop in
          let len : length octets ≡ length (record_of x.0) + length x.1 = ap (λ (xs : List ℕ). length xs) f.1 ∙ length-append (record_of x.0) x.1 in
          let place : length (record_of x.0) ≡ length octets - left = omega (arith, len, a.3) in
          record {
            no_record = λ e has is.
                let p = one_event x.0 e x.1 [] f.0 has (sym f.1 ∙ is ∙ sym (append-nil (record_of e))) in
                let q : a.0 ∷ a.1 ≡ [] = sym a.2 ∙ p.1 in absurd cc;
            stops_at = subst (StopsAt octets) place (stops_by octets (record_of x.0) x.1 f.1
                (record { event = x.0; more = []; has_record = f.0; is_record = sym (append-nil (record_of x.0)) })
                (λ b more is g.
                let p = one_event x.0 g.event (b ∷ g.more) [] f.0 g.has_record
                (sym (append_assoc (record_of x.0) (b ∷ []) g.more) ∙ sym g.is_record ∙ sym (append-nil (record_of g.event))) in
                let q : b ∷ g.more ≡ [] = p.1 in absurd cc));
          }
    ]

-- ---- one place

begins_before : (octets : List ℕ) (p q : ℕ) → p ≤ q → Begins (take q octets) → Begins (take p octets)
begins_before octets p q le g =
    let cut : take q octets ≡ take p octets ++ drop p (take q octets) =
    sym (take-append-drop p (take q octets)) ∙ ap (λ (xs : List ℕ). xs ++ drop p (take q octets)) (take-take p q octets le) in
    record {
      event = g.event;
      more = drop p (take q octets) ++ g.more;
      has_record = g.has_record;
      is_record = g.is_record ∙ ap (λ (xs : List ℕ). xs ++ g.more) cut ∙ append_assoc (take p octets) (drop p (take q octets)) g.more;
    }

not_below : (octets : List ℕ) (p q : ℕ) → StopsAt octets p → StopsAt octets q → p < q → ⊥
not_below octets p q one other below =
    one.stops (omega (arith, other.within, below)) (begins_before octets (p + 1) q (omega (arith, below)) other.begins)

pub one_place : (octets : List ℕ) (p q : ℕ) → StopsAt octets p → StopsAt octets q → p ≡ q
one_place octets p q one other =
    elim (cases_lt p q) [
      | inl below ↦ absurd (not_below octets p q one other below)
      | inr le ↦ elim (cases_lt q p) [
        | inl below ↦ absurd (not_below octets q p other one below)
        | inr ge ↦ omega (arith, le, ge)
      ]
    ]

-- ---- what a reader answers

pub left_within : (octets : List ℕ) (left : ℕ) → AreOctets octets → record_at octets ≡ Err left → left ≤ length octets
left_within octets left are stop =
    let s = record_field.stops octets left are stop in
    let len : length octets ≡ length s.front + length s.rest = ap (λ (xs : List ℕ). length xs) s.parts ∙ length-append s.front s.rest in
    omega (arith, len, s.is_left)

pub left_alone : (octets : List ℕ) (left : ℕ) → AreOctets octets → alone_at octets ≡ Err left → left ≤ length octets
left_alone octets left are h =
    elim (bind_err (record_at octets) alone left h) [
      | Stopped.first stop ↦ left_within octets left are stop
      | Stopped.then x ok stop ↦
          let f = record_found octets x.0 x.1 are ok in
          let a = alone_err x left stop in
          let len : length octets ≡ length (record_of x.0) + length x.1 = ap (λ (xs : List ℕ). length xs) f.1 ∙ length-append (record_of x.0) x.1 in
          omega (arith, len, a.3)
    ]

pub read_only : (octets : List ℕ) (e : Event) (rest : List ℕ) → record_at octets ≡ Ok (e, rest) → (f : Event) (s : List ℕ) → HasRecord f
    → octets ≡ record_of f ++ s → (e ≡ f) × (rest ≡ s)
read_only octets e rest r f s has is =
    let p : read e rest ≡ read f s = ok_is (read e rest) (read f s) (sym r ∙ ap record_at is ∙ record_again f s has) in
    (ap (λ (x : Event × List ℕ). x.0) p, ap (λ (x : Event × List ℕ). x.1) p)

pub alone_only : (octets : List ℕ) (e : Event) → alone_at octets ≡ Ok e → (f : Event) → HasRecord f → octets ≡ record_of f → e ≡ f
alone_only octets e r f has is = ok_is e f (sym r ∙ ap alone_at is ∙ alone_again f has)

-- ---- logs

one_log_rest : (es fs : List Event) → AllHaveRecords es → AllHaveRecords fs → log_of es ≡ log_of fs → es ≡ fs
one_log_rest [] [] all others same = refl
one_log_rest [] (f ∷ fs) all others same =
    let p : [] ≡ record_of f ++ log_of fs = same ∙ flat_map-cons record_of f fs in absurd cc
one_log_rest (e ∷ es) [] all others same =
    let p : record_of e ++ log_of es ≡ [] = sym (flat_map-cons record_of e es) ∙ same in absurd cc
one_log_rest (e ∷ es) (f ∷ fs) all others same =
    let p = one_event e f (log_of es) (log_of fs) all.0 others.0 (sym (flat_map-cons record_of e es) ∙ same ∙ flat_map-cons record_of f fs) in
    ap (λ (x : Event). x ∷ es) p.0 ∙ ap (λ (xs : List Event). f ∷ xs) (one_log_rest es fs all.1 others.1 p.1)

pub one_log : (es fs : List Event) → AllHaveRecords es → AllHaveRecords fs → log_of es ≡ log_of fs → es ≡ fs
one_log es fs all others same = one_log_rest es fs all others same
