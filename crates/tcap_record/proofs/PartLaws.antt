-- The laws of numbers, octet strings and what may be missing as fields.
use Rattle.std.proofs.Common.{◌≡◌, ℕ, ℤ, pos, negsuc, ◌^◌, ◌<◌, Bool, true, false, List, [], ◌∷◌, Option, Some, None, Ok, refl, sym, ap, subst, ◌∙◌, arith, inl, inr}
use Rattle.std.specs.Prelude.{IsTrue, nat_lt, nat_le, ◌==◌, FitsSigned}
use Rattle.std.specs.List.{AllByRecursion}
use Rattle.std.specs.Int.{w8, w32, w64, cast_signed, cast_unsigned}
use Rattle.std.proofs.lemmas.Bool.{cases_Bool, eqb-true, lt-ltb, leb-true, le-leb}
use Rattle.std.proofs.lemmas.Int.{to_z-of_z, of_z-to_z}
use Rattle.std.proofs.Math.Facts.{sfits_to_z}
use Rattle.tcap_model.specs.Words.InRange.{is_identifier, is_long, is_short}
use Rattle.tcap_record.specs.Fields.{Reading, listed}
use Rattle.tcap_record.specs.Parts
use Rattle.tcap_record.proofs.OctetLemmas.{wide32, wide64, both_true, true_both}
use Rattle.tcap_record.proofs.FieldLaws.{IsField, IsNaming, CountedFits, number_field, named_field, counted_field}
use Rattle.tcap_record.proofs.ChoiceLaws.{IsView, OfKind, as_field, nothing_field, choice_field, chosen, respelled}

-- ---- what is listed

pub some_is : {A : Type 0} (x y : A) → Some x ≡ Some y → x ≡ y
some_is x y e = cc

-- What a table lists stands behind its octet.
pub listed_found : {X : Type 0} (octet : X → ℕ) (table : List (ℕ × X)) → AllByRecursion (λ (row : ℕ × X). octet row.1 ≡ row.0) table
    → (b : ℕ) (x : X) → listed table b ≡ Some x → octet x ≡ b
listed_found octet [] rows b x e = absurd cc
listed_found octet (row ∷ table) rows b x e =
    elim (cases_Bool (b == row.0)) [
      | inl same ↦ let p : Some row.1 ≡ Some x = rw same at e in ap octet (sym (some_is row.1 x p)) ∙ rows.0 ∙ sym (eqb-true b row.0 same)
      | inr other ↦ let p : listed table b ≡ Some x = rw other at e in listed_found octet table rows.1 b x p
    ]

pub listed_naming : {X : Type 0} (octet : X → ℕ) (table : List (ℕ × X)) → AllByRecursion (λ (row : ℕ × X). octet row.1 ≡ row.0) table
    → ((x : X) → listed table (octet x) ≡ Some x) → X → IsNaming (λ (x : X). Unit {0}) octet (listed table)
listed_naming octet table rows all one = record {
  found = λ b x below e. (listed_found octet table rows b x e, tt);
  named = λ x fit. all x;
  one = one;
  one_fits = tt;
}

-- ---- numbers

pub short_field : IsField (λ (n : ℕ). IsTrue (is_short n)) Parts.short Parts.short_at
short_field = number_field w32 (2 ^ 32) wide32 refl

pub long_field : IsField (λ (n : ℕ). IsTrue (is_long n)) Parts.long Parts.long_at
long_field = number_field w64 (2 ^ 64) wide64 refl

pub octet_naming : IsNaming (λ (n : ℕ). IsTrue (nat_lt n 256)) (λ (n : ℕ). n) Some
octet_naming = record {
  found = λ b x below e. let p = some_is b x e in (sym p, subst (λ (n : ℕ). IsTrue (nat_lt n 256)) p (lt-ltb b 256 below));
  named = λ x fit. refl;
  one = 0;
  one_fits = refl;
}

pub octet_field : IsField (λ (n : ℕ). IsTrue (nat_lt n 256)) Parts.octet Parts.octet_at
octet_field = named_field (λ (n : ℕ). IsTrue (nat_lt n 256)) (λ (n : ℕ). n) Some octet_naming

pub identifier_fits : (id : ℤ) → IsTrue (is_identifier id) → FitsSigned w8 id
identifier_fits (pos n) h = record { sfits = omega (arith, leb-true n 127 h) }
identifier_fits (negsuc n) h = record { sfits = omega (arith, leb-true n 127 (both_true (nat_le n 127) true h).0) }

pub fits_identifier : (id : ℤ) → FitsSigned w8 id → IsTrue (is_identifier id)
fits_identifier (pos n) h = let small : n < 128 = h.sfits in le-leb n 127 (omega arith)
fits_identifier (negsuc n) h = let small : n < 128 = h.sfits in true_both (nat_le n 127) true (le-leb n 127 (omega arith)) refl

identifier_naming : IsNaming (λ (id : ℤ). IsTrue (is_identifier id)) (λ (id : ℤ). cast_unsigned w8 id) Parts.identifier_named
identifier_naming = record {
  found = λ b x below e.
      let p : cast_signed w8 b ≡ x = some_is (cast_signed w8 b) x e in
      (ap (cast_unsigned w8) (sym p) ∙ of_z-to_z w8 b below, subst (λ (id : ℤ). IsTrue (is_identifier id)) p (fits_identifier (cast_signed w8 b) (sfits_to_z {w = w8} {n = b} (record { fits = below }))));
  named = λ x fit. ap (λ (id : ℤ). Some id) (to_z-of_z w8 x (identifier_fits x fit));
  one = pos 0;
  one_fits = refl;
}

pub identifier_field : IsField (λ (id : ℤ). IsTrue (is_identifier id)) Parts.identifier Parts.identifier_at
identifier_field = named_field (λ (id : ℤ). IsTrue (is_identifier id)) (λ (id : ℤ). cast_unsigned w8 id) Parts.identifier_named identifier_naming

-- ---- octets

pub octet_string_field : IsField (CountedFits (λ (n : ℕ). IsTrue (is_short n))) Parts.octet_string Parts.octet_string_at
octet_string_field = counted_field (λ (n : ℕ). IsTrue (is_short n)) Parts.short Parts.short_at short_field refl

pub address_field : IsField (CountedFits (λ (n : ℕ). IsTrue (nat_lt n 256))) Parts.address Parts.address_at
address_field = counted_field (λ (n : ℕ). IsTrue (nat_lt n 256)) Parts.octet Parts.octet_at octet_field refl

-- ---- what may be missing

-- A part fits where it is there.
abbrev pub OptionFits : {X : Type 0} → (X → Type 0) → Option X → Type 0
OptionFits fits None = Unit {0}
OptionFits fits (Some x) = fits x

-- The octets of a part behind the octet that says whether it is there.
abbrev part : {X : Type 0} → (X → List ℕ) → Option X → List ℕ
part field None = []
part field (Some x) = field x

abbrev is_there : {X : Type 0} → Option X → Bool
is_there None = false
is_there (Some x) = true

abbrev presence : Bool → ℕ
presence false = 0
presence true = 1

presence_naming : IsNaming (λ (p : Bool). Unit {0}) presence (listed Parts.presence_table)
presence_naming = listed_naming presence Parts.presence_table (refl, (refl, tt)) all false
  where
    all : (p : Bool) → listed Parts.presence_table (presence p) ≡ Some p
    all false = refl
    all true = refl

none_only : {X : Type 0} (fits : X → Type 0) (octets : X → List ℕ) → IsField (OfKind is_there (OptionFits fits) false) (part octets) (λ (bytes : List ℕ). Ok (None, bytes))
none_only {X = X} fits octets =
    let none : Option X = None in
    record {
      takes = λ bytes x rest are e. let t = (nothing_field none (part octets) refl).takes bytes x rest are e in
          record { parts = t.parts; fit = subst (λ (o : Option X). OfKind is_there (OptionFits fits) false o) t.fit (refl, tt); rest_octets = t.rest_octets };
      again = λ x rest fit. (nothing_field none (part octets) refl).again x rest (missing x fit.0);
      stops = λ bytes left are e. absurd cc;
      some = none;
      some_fit = (refl, tt);
    }
  where
    missing : {X : Type 0} (x : Option X) → is_there x ≡ false → None ≡ x
    missing None e = refl
    missing (Some y) e = absurd cc

some_view : {X : Type 0} (fits : X → Type 0) (octets : X → List ℕ) → IsView fits (OfKind is_there (OptionFits fits) true) octets (part octets) Some
some_view {X = X} fits octets = record {
  fit = λ x fit. (refl, fit);
  same = λ x fit. refl;
  back = λ o fit. back o fit.0 fit.1;
}
  where
    back : (o : Option X) → is_there o ≡ true → OptionFits fits o → (x : X) × (Some x ≡ o) × fits x
    back None e fit = absurd cc
    back (Some x) e fit = (x, refl, fit)

pub optional_field : {X : Type 0} (fits : X → Type 0) (octets : X → List ℕ) (at : List ℕ → Reading X) → IsField fits octets at
    → IsField (OptionFits fits) (Parts.optional octets) (Parts.optional_at at)
optional_field {X = X} fits octets at field =
    respelled (OptionFits fits) (chosen presence is_there (part octets)) (Parts.optional octets) (Parts.optional_at at) same
    (choice_field (OptionFits fits) presence (listed Parts.presence_table) is_there (part octets) (Parts.part_at at) presence_naming fields)
  where
    same : (o : Option X) → Parts.optional octets o ≡ chosen presence is_there (part octets) o
    same None = refl
    same (Some x) = refl

    fields : (p : Bool) → IsField (OfKind is_there (OptionFits fits) p) (part octets) (Parts.part_at at p)
    fields false = none_only fits octets
    fields true = as_field fits (OfKind is_there (OptionFits fits) true) octets (part octets) Some at (some_view fits octets) field
