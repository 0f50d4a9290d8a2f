-- What is written of octets is octets.
use Rattle.std.proofs.Common.{◌≡◌, ◌∙◌, ◌/◌, ◌%◌, ◌≤◌, ◌<◌, ℕ, ltb, true, List, [], ◌∷◌, ◌++◌, length, nat_lt, Some, None, refl, sym, inl, inr, arith, length-append}
use Rattle.std.specs.List.{AllByRecursion, list_all}
use Rattle.std.proofs.lemmas.Bool.{cases_Bool, and_parts, lt-ltb, ltb-true}
use Rattle.std.proofs.lemmas.List.Folds.{list_all-append}
use Rattle.ber_core.specs.Sequence.{Field}
use Rattle.ber_core.specs.Sequence.Field.{must, may, filled, any}
use Rattle.ber_core.specs.Written.{length_octets, written, written_head, written_field, written_fields}

-- each is an octet
abbrev pub Octets : List ℕ → Type 0
Octets xs = list_all (λ b. nat_lt b 0x100) xs ≡ true

-- each is an octet, where a length can count them
abbrev pub Fine : List ℕ → Type 0
Fine xs = length xs ≤ 65535 → Octets xs

pub octets-cons : (b : ℕ) (xs : List ℕ) → b < 256 → Octets xs → Octets (b ∷ xs)
octets-cons b xs low octets = rw (lt-ltb b 256 low) octets

pub octets-one : (b : ℕ) → nat_lt b 0x100 ≡ true → Octets (b ∷ [])
octets-one b low = rw low refl

pub octets-append : (xs ys : List ℕ) → Octets xs → Octets ys → Octets (xs ++ ys)
octets-append xs ys a b = list_all-append (λ b. nat_lt b 0x100) xs ys ∙ rw (a, b) refl

pub octets-parts : (xs ys : List ℕ) → Octets (xs ++ ys) → Octets xs × Octets ys
octets-parts xs ys e =
    and_parts (list_all (λ b. nat_lt b 0x100) xs) (list_all (λ b. nat_lt b 0x100) ys)
    (sym (list_all-append (λ b. nat_lt b 0x100) xs ys) ∙ e)

pub fine-append : (xs ys : List ℕ) → Fine xs → Fine ys → Fine (xs ++ ys)
fine-append xs ys a b = λ short.
    let all = length-append xs ys in
    octets-append xs ys (a (omega (arith, short, all))) (b (omega (arith, short, all)))

-- the octets of a length
pub length-octets : (n : ℕ) → n ≤ 65535 → Octets (length_octets n)
length-octets n short = elim (cases_Bool (ltb n 0x80)) [
  | inl a ↦ let low = ltb-true n 0x80 a in rw a (octets-cons n [] (omega (arith, low)) refl)
  | inr a ↦ elim (cases_Bool (ltb n 0x100)) [
    | inl b ↦ let low = ltb-true n 0x100 b in rw (a, b) (octets-cons n [] low refl)
    | inr b ↦
        rw (a, b) (octets-cons (n / 0x100) (n % 0x100 ∷ []) (omega (arith, short)) (octets-cons (n % 0x100) [] (omega arith) refl))
  ]
]

pub written-octets : (tag c : List ℕ) → Octets tag → length c ≤ 65535 → Octets c → Octets (written tag c)
written-octets tag c tags short octets =
    octets-append (written_head tag (length c)) c
    (octets-append tag (length_octets (length c)) tags (length-octets (length c) short)) octets

pub written-fine : (tag c : List ℕ) → Octets tag → Fine c → Fine (written tag c)
written-fine tag c tags fine = λ short.
    let all = length-append (written_head tag (length c)) c in
    let within : length c ≤ 65535 = omega (arith, short, all) in
    written-octets tag c tags within (fine within)

-- ---- fields

abbrev pub FieldFine : Field → Type 0
FieldFine (must tag c) = (nat_lt tag 0x100 ≡ true) × Fine c
FieldFine (may tag None) = Unit {0}
FieldFine (may tag (Some c)) = (nat_lt tag 0x100 ≡ true) × Fine c
FieldFine (filled tag c) = (nat_lt tag 0x100 ≡ true) × Fine c
FieldFine (any None) = Unit {0}
FieldFine (any (Some whole)) = Fine whole

abbrev pub FieldsFine : List Field → Type 0
FieldsFine fs = AllByRecursion FieldFine fs

field-fine : (f : Field) → FieldFine f → Fine (written_field f)
field-fine (must tag c) fine = written-fine (tag ∷ []) c (octets-one tag fine.0) fine.1
field-fine (may tag None) fine = λ short. refl
field-fine (may tag (Some c)) fine = written-fine (tag ∷ []) c (octets-one tag fine.0) fine.1
field-fine (filled tag []) fine = λ short. refl
field-fine (filled tag (b ∷ c)) fine = written-fine (tag ∷ []) (b ∷ c) (octets-one tag fine.0) fine.1
field-fine (any None) fine = λ short. refl
field-fine (any (Some whole)) fine = fine

pub fields-fine : (fs : List Field) → FieldsFine fs → Fine (written_fields fs)
fields-fine [] all = λ short. refl
fields-fine (f ∷ fs) all = fine-append (written_field f) (written_fields fs) (field-fine f all.0) (fields-fine fs all.1)
