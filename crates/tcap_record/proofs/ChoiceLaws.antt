-- The laws of fields one after the other, as values of another type, and of one of several.
use Rattle.std.proofs.Common.{◌≡◌, ℕ, List, [], ◌∷◌, ◌++◌, Option, Ok, Err, refl, sym, ap, subst, ◌∙◌, append_assoc}
use Rattle.ber_core.specs.Results.{◌>>=◌}
use Rattle.tcap_record.specs.Fields.{Reading, named_at, pair, pair_at, as_at, choice_at}
use Rattle.tcap_record.proofs.OctetLemmas.{AreOctets}
use Rattle.tcap_record.proofs.FieldLaws.{bind_ok, bind_err, Stopped, read, ok_is, Takes, Stops, IsField, IsNaming, named_takes, named_stops}

-- ---- one after the other

abbrev pub PairFits : {X Y : Type 0} → (X → Type 0) → (Y → Type 0) → X × Y → Type 0
PairFits fit1 fit2 both = fit1 both.0 × fit2 both.1

pair_takes : {X Y : Type 0} (fit1 : X → Type 0) (fit2 : Y → Type 0) (octets1 : X → List ℕ) (octets2 : Y → List ℕ) (at1 : List ℕ → Reading X) (at2 : List ℕ → Reading Y)
    → IsField fit1 octets1 at1 → IsField fit2 octets2 at2 → (bytes : List ℕ) (both : X × Y) (rest : List ℕ) → AreOctets bytes
    → pair_at at1 at2 bytes ≡ Ok (both, rest) → Takes (PairFits fit1 fit2) (pair octets1 octets2) bytes both rest
pair_takes fit1 fit2 octets1 octets2 at1 at2 one two bytes both rest are e =
    let a = bind_ok (at1 bytes) (λ x. at2 x.1 >>= (λ y. Ok ((x.0, y.0), y.1))) (both, rest) e in
    let b = bind_ok (at2 a.0.1) (λ y. Ok ((a.0.0, y.0), y.1)) (both, rest) a.2 in
    let t1 = one.takes bytes a.0.0 a.0.1 are a.1 in
    let t2 = two.takes a.0.1 b.0.0 b.0.1 t1.rest_octets b.1 in
    let made : Takes (PairFits fit1 fit2) (pair octets1 octets2) bytes (a.0.0, b.0.0) b.0.1 = record {
      parts = t1.parts ∙ ap (λ (xs : List ℕ). octets1 a.0.0 ++ xs) t2.parts ∙ sym (append_assoc (octets1 a.0.0) (octets2 b.0.0) b.0.1);
      fit = (t1.fit, t2.fit);
      rest_octets = t2.rest_octets;
    } in
    subst (λ (p : (_ × _) × List ℕ). Takes (PairFits fit1 fit2) (pair octets1 octets2) bytes p.0 p.1) (ok_is ((a.0.0, b.0.0), b.0.1) (both, rest) b.2) made

pair_again : {X Y : Type 0} (fit1 : X → Type 0) (fit2 : Y → Type 0) (octets1 : X → List ℕ) (octets2 : Y → List ℕ) (at1 : List ℕ → Reading X) (at2 : List ℕ → Reading Y)
    → IsField fit1 octets1 at1 → IsField fit2 octets2 at2 → (both : X × Y) (rest : List ℕ) → PairFits fit1 fit2 both
    → pair_at at1 at2 (pair octets1 octets2 both ++ rest) ≡ Ok (both, rest)
pair_again fit1 fit2 octets1 octets2 at1 at2 one two both rest fit =
    ap (pair_at at1 at2) (append_assoc (octets1 both.0) (octets2 both.1) rest)
    ∙ rw (one.again both.0 (octets2 both.1 ++ rest) fit.0, two.again both.1 rest fit.1) refl

pair_stops : {X Y : Type 0} (fit1 : X → Type 0) (fit2 : Y → Type 0) (octets1 : X → List ℕ) (octets2 : Y → List ℕ) (at1 : List ℕ → Reading X) (at2 : List ℕ → Reading Y)
    → IsField fit1 octets1 at1 → IsField fit2 octets2 at2 → (bytes : List ℕ) (left : ℕ) → AreOctets bytes
    → pair_at at1 at2 bytes ≡ Err left → Stops (PairFits fit1 fit2) (pair octets1 octets2) (pair_at at1 at2) bytes left
pair_stops fit1 fit2 octets1 octets2 at1 at2 one two bytes left are e =
    elim (bind_err (at1 bytes) (λ x. at2 x.1 >>= (λ y. Ok ((x.0, y.0), y.1))) left e) [
      | Stopped.first h ↦
          let s = one.stops bytes left are h in
          record {
            front = s.front;
            rest = s.rest;
            parts = s.parts;
            is_left = s.is_left;
            begun = record {
              value = (s.begun.value, two.some);
              more = s.begun.more ++ octets2 two.some;
              fit = (s.begun.fit, two.some_fit);
              is = ap (λ (xs : List ℕ). xs ++ octets2 two.some) s.begun.is ∙ append_assoc s.front s.begun.more (octets2 two.some);
            };
            stays = λ b more other h. rw (s.stays b more other h) refl;
          }
      | Stopped.then x h f ↦
          elim (bind_err (at2 x.1) (λ y. Ok ((x.0, y.0), y.1)) left f) [
            | Stopped.first k ↦
                let t = one.takes bytes x.0 x.1 are h in
                let s = two.stops x.1 left t.rest_octets k in
                record {
                  front = octets1 x.0 ++ s.front;
                  rest = s.rest;
                  is_left = s.is_left;
                  parts = t.parts ∙ ap (λ (xs : List ℕ). octets1 x.0 ++ xs) s.parts ∙ sym (append_assoc (octets1 x.0) s.front s.rest);
                  begun = record {
                    value = (x.0, s.begun.value);
                    more = s.begun.more;
                    fit = (t.fit, s.begun.fit);
                    is = ap (λ (xs : List ℕ). octets1 x.0 ++ xs) s.begun.is ∙ sym (append_assoc (octets1 x.0) s.front s.begun.more);
                  };
                  stays = λ b more other h.
                      ap (pair_at at1 at2) (append_assoc (octets1 x.0) s.front (b ∷ other))
                      ∙ rw (one.again x.0 (s.front ++ (b ∷ other)) t.fit, s.stays b more other h) refl;
                }
            | Stopped.then y k l ↦ absurd cc
          ]
    ]

pub pair_field : {X Y : Type 0} (fit1 : X → Type 0) (fit2 : Y → Type 0) (octets1 : X → List ℕ) (octets2 : Y → List ℕ) (at1 : List ℕ → Reading X) (at2 : List ℕ → Reading Y)
    → IsField fit1 octets1 at1 → IsField fit2 octets2 at2 → IsField (PairFits fit1 fit2) (pair octets1 octets2) (pair_at at1 at2)
pair_field fit1 fit2 octets1 octets2 at1 at2 one two = record {
  takes = λ bytes both rest are e. pair_takes fit1 fit2 octets1 octets2 at1 at2 one two bytes both rest are e;
  again = λ both rest fit. pair_again fit1 fit2 octets1 octets2 at1 at2 one two both rest fit;
  stops = λ bytes left are e. pair_stops fit1 fit2 octets1 octets2 at1 at2 one two bytes left are e;
  some = (one.some, two.some);
  some_fit = (one.some_fit, two.some_fit);
}

-- ---- a field as a value of another type

-- The values of one type as those of another.
pub record IsView {X Y : Type 0} (fit1 : X → Type 0) (fit2 : Y → Type 0) (octets1 : X → List ℕ) (octets2 : Y → List ℕ) (view : X → Y) : Type 0 where
  pub fit : (x : X) → fit1 x → fit2 (view x)
  pub same : (x : X) → fit1 x → octets2 (view x) ≡ octets1 x
  pub back : (y : Y) → fit2 y → (x : X) × (view x ≡ y) × fit1 x

as_takes : {X Y : Type 0} (fit1 : X → Type 0) (fit2 : Y → Type 0) (octets1 : X → List ℕ) (octets2 : Y → List ℕ) (view : X → Y) (at : List ℕ → Reading X)
    → IsView fit1 fit2 octets1 octets2 view → IsField fit1 octets1 at → (bytes : List ℕ) (y : Y) (rest : List ℕ) → AreOctets bytes
    → as_at view at bytes ≡ Ok (y, rest) → Takes fit2 octets2 bytes y rest
as_takes fit1 fit2 octets1 octets2 view at is field bytes y rest are e =
    let b = bind_ok (at bytes) (λ x. Ok (view x.0, x.1)) (y, rest) e in
    let t = field.takes bytes b.0.0 b.0.1 are b.1 in
    let made : Takes fit2 octets2 bytes (view b.0.0) b.0.1 = record {
      parts = t.parts ∙ ap (λ (xs : List ℕ). xs ++ b.0.1) (sym (is.same b.0.0 t.fit));
      fit = is.fit b.0.0 t.fit;
      rest_octets = t.rest_octets;
    } in
    subst (λ (p : _ × List ℕ). Takes fit2 octets2 bytes p.0 p.1) (ok_is (view b.0.0, b.0.1) (y, rest) b.2) made

as_again : {X Y : Type 0} (fit1 : X → Type 0) (fit2 : Y → Type 0) (octets1 : X → List ℕ) (octets2 : Y → List ℕ) (view : X → Y) (at : List ℕ → Reading X)
    → IsView fit1 fit2 octets1 octets2 view → IsField fit1 octets1 at → (y : Y) (rest : List ℕ) → fit2 y → as_at view at (octets2 y ++ rest) ≡ Ok (y, rest)
as_again fit1 fit2 octets1 octets2 view at is field y rest fit =
    let x = is.back y fit in
    let same : octets2 y ≡ octets1 x.0 = ap octets2 (sym x.1) ∙ is.same x.0 x.2 in
    ap (λ (xs : List ℕ). as_at view at (xs ++ rest)) same ∙ rw (field.again x.0 rest x.2) (ap (λ z. Ok (z, rest)) x.1)

as_stops : {X Y : Type 0} (fit1 : X → Type 0) (fit2 : Y → Type 0) (octets1 : X → List ℕ) (octets2 : Y → List ℕ) (view : X → Y) (at : List ℕ → Reading X)
    → IsView fit1 fit2 octets1 octets2 view → IsField fit1 octets1 at → (bytes : List ℕ) (left : ℕ) → AreOctets bytes
    → as_at view at bytes ≡ Err left → Stops fit2 octets2 (as_at view at) bytes left
as_stops fit1 fit2 octets1 octets2 view at is field bytes left are e =
    elim (bind_err (at bytes) (λ x. Ok (view x.0, x.1)) left e) [
      | Stopped.first h ↦
          let s = field.stops bytes left are h in
          record {
            front = s.front;
            rest = s.rest;
            parts = s.parts;
            is_left = s.is_left;
            begun = record {
              value = view s.begun.value;
              more = s.begun.more;
              fit = is.fit s.begun.value s.begun.fit;
              is = is.same s.begun.value s.begun.fit ∙ s.begun.is;
            };
            stays = λ b more other h. rw (s.stays b more other h) refl;
          }
      | Stopped.then x h f ↦ absurd cc
    ]

pub as_field : {X Y : Type 0} (fit1 : X → Type 0) (fit2 : Y → Type 0) (octets1 : X → List ℕ) (octets2 : Y → List ℕ) (view : X → Y) (at : List ℕ → Reading X)
    → IsView fit1 fit2 octets1 octets2 view → IsField fit1 octets1 at → IsField fit2 octets2 (as_at view at)
as_field fit1 fit2 octets1 octets2 view at is field = record {
  takes = λ bytes y rest are e. as_takes fit1 fit2 octets1 octets2 view at is field bytes y rest are e;
  again = λ y rest fit. as_again fit1 fit2 octets1 octets2 view at is field y rest fit;
  stops = λ bytes left are e. as_stops fit1 fit2 octets1 octets2 view at is field bytes left are e;
  some = view field.some;
  some_fit = is.fit field.some field.some_fit;
}

-- Nothing stands for one value.
pub nothing_field : {X : Type 0} (one : X) (octets : X → List ℕ) → octets one ≡ [] → IsField (λ (x : X). one ≡ x) octets (λ (bytes : List ℕ). Ok (one, bytes))
nothing_field one octets none = record {
  takes = λ bytes x rest are e.
      let made : Takes (λ (y : _). one ≡ y) octets bytes one bytes = record { parts = ap (λ (xs : List ℕ). xs ++ bytes) (sym none); fit = refl; rest_octets = are } in
      subst (λ (p : _ × List ℕ). Takes (λ (y : _). one ≡ y) octets bytes p.0 p.1) (ok_is (one, bytes) (x, rest) e) made;
  again = λ x rest fit. subst (λ (y : _). read one (octets y ++ rest) ≡ read y rest) fit (ap (λ (xs : List ℕ). read one (xs ++ rest)) none);
  stops = λ bytes left are e. absurd cc;
  some = one;
  some_fit = refl;
}

-- ---- one of several

-- The value is of this kind.
abbrev pub OfKind : {T X : Type 0} → (X → T) → (X → Type 0) → T → X → Type 0
OfKind kind fits t x = (kind x ≡ t) × fits x

-- The kind's octet, and the octets of the kind's fields.
abbrev pub chosen : {T X : Type 0} → (T → ℕ) → (X → T) → (X → List ℕ) → X → List ℕ
chosen octet kind octets x = octet (kind x) ∷ octets x

choice_takes : {T X : Type 0} (fits : X → Type 0) (octet : T → ℕ) (name : ℕ → Option T) (kind : X → T) (octets : X → List ℕ) (at : T → List ℕ → Reading X)
    → IsNaming (λ (t : T). Unit {0}) octet name → ((t : T) → IsField (OfKind kind fits t) octets (at t))
    → (bytes : List ℕ) (x : X) (rest : List ℕ) → AreOctets bytes → choice_at name at bytes ≡ Ok (x, rest) → Takes fits (chosen octet kind octets) bytes x rest
choice_takes fits octet name kind octets at naming field bytes x rest are e =
    let b = bind_ok (named_at name bytes) (λ t. at t.0 t.1) (x, rest) e in
    let s = named_takes (λ _. Unit {0}) octet name naming bytes b.0.0 b.0.1 are b.1 in
    let t = (field b.0.0).takes b.0.1 x rest s.rest_octets b.2 in
    record {
      parts = s.parts ∙ ap (λ (xs : List ℕ). octet b.0.0 ∷ xs) t.parts ∙ ap (λ k. octet k ∷ (octets x ++ rest)) (sym t.fit.0);
      fit = t.fit.1;
      rest_octets = t.rest_octets;
    }

choice_again : {T X : Type 0} (fits : X → Type 0) (octet : T → ℕ) (name : ℕ → Option T) (kind : X → T) (octets : X → List ℕ) (at : T → List ℕ → Reading X)
    → IsNaming (λ (t : T). Unit {0}) octet name → ((t : T) → IsField (OfKind kind fits t) octets (at t))
    → (x : X) (rest : List ℕ) → fits x → choice_at name at (chosen octet kind octets x ++ rest) ≡ Ok (x, rest)
choice_again fits octet name kind octets at naming field x rest fit =
    rw (naming.named (kind x) tt) ((field (kind x)).again x rest (refl, fit))

choice_stops : {T X : Type 0} (fits : X → Type 0) (octet : T → ℕ) (name : ℕ → Option T) (kind : X → T) (octets : X → List ℕ) (at : T → List ℕ → Reading X)
    → IsNaming (λ (t : T). Unit {0}) octet name → ((t : T) → IsField (OfKind kind fits t) octets (at t))
    → (bytes : List ℕ) (left : ℕ) → AreOctets bytes → choice_at name at bytes ≡ Err left → Stops fits (chosen octet kind octets) (choice_at name at) bytes left
choice_stops fits octet name kind octets at naming field bytes left are e =
    elim (bind_err (named_at name bytes) (λ t. at t.0 t.1) left e) [
      | Stopped.first h ↦
          let s = named_stops (λ _. Unit {0}) octet name naming bytes left h in
          let f = field s.begun.value in
          let x = f.some in
          record {
            front = s.front;
            rest = s.rest;
            parts = s.parts;
            is_left = s.is_left;
            begun = record {
              value = x;
              more = s.begun.more ++ octets x;
              fit = f.some_fit.1;
              is = ap (λ k. octet k ∷ octets x) f.some_fit.0 ∙ ap (λ (xs : List ℕ). xs ++ octets x) s.begun.is ∙ append_assoc s.front s.begun.more (octets x);
            };
            stays = λ b more other h. rw (s.stays b more other h) refl;
          }
      | Stopped.then t h f ↦
          let s = named_takes (λ _. Unit {0}) octet name naming bytes t.0 t.1 are h in
          let r = (field t.0).stops t.1 left s.rest_octets f in
          record {
            front = octet t.0 ∷ r.front;
            rest = r.rest;
            is_left = r.is_left;
            parts = s.parts ∙ ap (λ (xs : List ℕ). octet t.0 ∷ xs) r.parts;
            begun = record {
              value = r.begun.value;
              more = r.begun.more;
              fit = r.begun.fit.1;
              is = ap (λ k. octet k ∷ octets r.begun.value) r.begun.fit.0 ∙ ap (λ (xs : List ℕ). octet t.0 ∷ xs) r.begun.is;
            };
            stays = λ b more other h. rw (naming.named t.0 tt) (r.stays b more other h);
          }
    ]

pub choice_field : {T X : Type 0} (fits : X → Type 0) (octet : T → ℕ) (name : ℕ → Option T) (kind : X → T) (octets : X → List ℕ) (at : T → List ℕ → Reading X)
    → IsNaming (λ (t : T). Unit {0}) octet name → ((t : T) → IsField (OfKind kind fits t) octets (at t))
    → IsField fits (chosen octet kind octets) (choice_at name at)
choice_field fits octet name kind octets at naming field = record {
  takes = λ bytes x rest are e. choice_takes fits octet name kind octets at naming field bytes x rest are e;
  again = λ x rest fit. choice_again fits octet name kind octets at naming field x rest fit;
  stops = λ bytes left are e. choice_stops fits octet name kind octets at naming field bytes left are e;
  some = (field naming.one).some;
  some_fit = (field naming.one).some_fit.1;
}

-- The same octets, written in another way.
pub respelled : {X : Type 0} (fits : X → Type 0) (one two : X → List ℕ) (at : List ℕ → Reading X) → ((x : X) → two x ≡ one x) → IsField fits one at → IsField fits two at
respelled fits one two at same field = record {
  takes = λ bytes x rest are e.
      let t = field.takes bytes x rest are e in
      record { parts = t.parts ∙ ap (λ (xs : List ℕ). xs ++ rest) (sym (same x)); fit = t.fit; rest_octets = t.rest_octets };
  again = λ x rest fit. ap (λ (xs : List ℕ). at (xs ++ rest)) (same x) ∙ field.again x rest fit;
  stops = λ bytes left are e.
      let s = field.stops bytes left are e in
      record {
        front = s.front;
        rest = s.rest;
        parts = s.parts;
        is_left = s.is_left;
        begun = record { value = s.begun.value; more = s.begun.more; fit = s.begun.fit; is = same s.begun.value ∙ s.begun.is };
        stays = s.stays;
      };
  some = field.some;
  some_fit = field.some_fit;
}

-- The same values, said in another way.
pub refitted : {X : Type 0} (one two : X → Type 0) (octets : X → List ℕ) (at : List ℕ → Reading X) → ((x : X) → one x → two x) → ((x : X) → two x → one x)
    → IsField one octets at → IsField two octets at
refitted one two octets at to back field = record {
  takes = λ bytes x rest are e.
      let t = field.takes bytes x rest are e in
      record { parts = t.parts; fit = to x t.fit; rest_octets = t.rest_octets };
  again = λ x rest fit. field.again x rest (back x fit);
  stops = λ bytes left are e.
      let s = field.stops bytes left are e in
      record {
        front = s.front;
        rest = s.rest;
        parts = s.parts;
        is_left = s.is_left;
        begun = record { value = s.begun.value; more = s.begun.more; fit = to s.begun.value s.begun.fit; is = s.begun.is };
        stays = s.stays;
      };
  some = field.some;
  some_fit = to field.some field.some_fit;
}
