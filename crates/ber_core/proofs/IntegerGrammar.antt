-- What is read is an integer, each integer is read, and its octets are those that are written for it.
use Rattle.std.proofs.Common.{◌≡◌, ℕ, zero, suc, ◌+◌, ◌-◌, ◌*◌, ◌/◌, ◌%◌, ◌<◌, ◌≤◌, ℤ, pos, negsuc, Bool, true, false, ltb, eqb, List, [], ◌∷◌, length, map, Option, Some, None, refl, sym, ap, subst, ◌∙◌, inl, inr, arith}
use Rattle.std.specs.Prelude.{IfSome}
use Rattle.std.specs.List.{AllByRecursion, list_all}
use Rattle.std.specs.Prelude.{FitsSigned}
use Rattle.std.specs.Int.{w32}
use Rattle.std.proofs.lemmas.Bool.{cases_Bool, lt-ltb, le-ltb, ltb-true, ltb-false, le-leb, lt-leb, eqb-true}
use Rattle.ber_core.specs.Integer.{IsOctet, signed_after, signed_number, IsFewest, IsInteger, is_fewest, integer_at, fewest_octets, integer_octets}
use Rattle.ber_core.proofs.OptionSteps.{some, some_is, test_some, guard_some}

abbrev are_octets : List ℕ → Bool
are_octets xs = list_all (λ b. ltb b 256) xs

octets_take : (xs : List ℕ) → are_octets xs ≡ true → AllByRecursion IsOctet xs
octets_take [] e = tt
octets_take (b ∷ xs) e = elim (cases_Bool (ltb b 256)) [
  | inl y ↦ let e = e in (ltb-true b 256 y, octets_take xs (rw y at e))
  | inr n ↦ let e = e in let no : false ≡ true = rw n at e in absurd cc
]

octets_again : (xs : List ℕ) → AllByRecursion IsOctet xs → are_octets xs ≡ true
octets_again [] h = refl
octets_again (b ∷ xs) h = rw (lt-ltb b 256 h.0) (octets_again xs h.1)

fewest_take : (xs : List ℕ) → is_fewest xs ≡ true → IsFewest xs
fewest_take [] e = absurd cc
fewest_take (a ∷ []) e = tt
fewest_take (a ∷ b ∷ xs) e = (
  (λ z. elim (cases_Bool (ltb b 128)) [
    | inl y ↦ let e = e in let no : false ≡ true = rw (z, y) at e in absurd cc
    | inr n ↦ ltb-false b 128 n
  ]),
  (λ f. elim (cases_Bool (ltb b 128)) [
    | inl y ↦ ltb-true b 128 y
    | inr n ↦ let e = e in let no : false ≡ true = rw (f, le-leb 128 b (ltb-false b 128 n)) at e in absurd cc
  ]),
)

fewest_again : (xs : List ℕ) → IsFewest xs → is_fewest xs ≡ true
fewest_again [] h = absurd h
fewest_again (a ∷ []) h = refl
fewest_again (a ∷ b ∷ xs) h = elim (cases_Bool (eqb a 0)) [
  | inl z ↦ rw (z, le-ltb b 128 (h.0 (eqb-true a 0 z))) refl
  | inr z ↦ elim (cases_Bool (eqb a 255)) [
    | inl f ↦ rw (z, f, lt-leb 128 b (h.1 (eqb-true a 255 f))) refl
    | inr f ↦ rw (z, f) refl
  ]
]

pub integer_takes : (xs : List ℕ) (z : ℤ) → integer_at xs ≡ Some z → IsInteger z xs
unfolding integer_at
integer_takes xs z e =
    let o = test_some (are_octets xs) _ z e in
    let f = test_some (is_fewest xs) _ z o.1 in
    let s = guard_some (ltb 4 (length xs)) (some (signed_number xs)) z f.1 in
    record { are_octets = octets_take xs o.0; is_short = ltb-false 4 (length xs) s.0; is_fewest = fewest_take xs f.0; is_number = sym (some_is (signed_number xs) z s.1) }

pub integer_again : (xs : List ℕ) (z : ℤ) → IsInteger z xs → integer_at xs ≡ Some z
unfolding integer_at
integer_again xs z h =
    rw (octets_again xs h.are_octets, fewest_again xs h.is_fewest, le-ltb 4 (length xs) h.is_short) (ap (λ (x : ℤ). some x) (sym h.is_number))

-- ---- the octets of a number

inverted : (a : ℕ) → a < 256 → 255 - (255 - a) ≡ a
inverted a h = omega arith

least : (a b : ℕ) → (a ≡ 0 → 128 ≤ b) → 128 ≤ a * 256 + b
least zero b f = omega (arith, f refl)
least (suc a) b f = omega arith

fewest_1 : (a : ℕ) → a < 128 → fewest_octets a ≡ a ∷ []
fewest_1 a h = rw (lt-ltb a 128 h) refl

fewest_2 : (a b n : ℕ) → a < 128 → b < 256 → (a ≡ 0 → 128 ≤ b) → n ≡ a * 256 + b → fewest_octets n ≡ a ∷ b ∷ []
fewest_2 a b n h k f e =
    let large : 128 ≤ n = omega (arith, e, least a b f) in
    let small : n < 32768 = omega (arith, e) in
    let p : n / 256 ≡ a = omega (arith, e) in
    let q : n % 256 ≡ b = omega (arith, e) in
    rw (le-ltb n 128 large, lt-ltb n 32768 small, p, q) refl

fewest_3 : (a b c n : ℕ) → a < 128 → b < 256 → c < 256 → (a ≡ 0 → 128 ≤ b) → n ≡ (a * 256 + b) * 256 + c → fewest_octets n ≡ a ∷ b ∷ c ∷ []
fewest_3 a b c n h k l f e =
    let large : 32768 ≤ n = omega (arith, e, least a b f) in
    let small : n < 8388608 = omega (arith, e) in
    let p : n / 65536 ≡ a = omega (arith, e) in
    let q : n / 256 % 256 ≡ b = omega (arith, e) in
    let r : n % 256 ≡ c = omega (arith, e) in
    rw (le-ltb n 128 (omega arith), le-ltb n 32768 large, lt-ltb n 8388608 small, p, q, r) refl

fewest_4 : (a b c d n : ℕ) → a < 128 → b < 256 → c < 256 → d < 256 → (a ≡ 0 → 128 ≤ b) → n ≡ ((a * 256 + b) * 256 + c) * 256 + d → fewest_octets n ≡ a ∷ b ∷ c ∷ d ∷ []
fewest_4 a b c d n h k l m f e =
    let large : 8388608 ≤ n = omega (arith, e, least a b f) in
    let p : n / 16777216 ≡ a = omega (arith, e) in
    let q : n / 65536 % 256 ≡ b = omega (arith, e) in
    let r : n / 256 % 256 ≡ c = omega (arith, e) in
    let s : n % 256 ≡ d = omega (arith, e) in
    rw (le-ltb n 128 (omega arith), le-ltb n 32768 (omega arith), le-ltb n 8388608 large, p, q, r, s) refl

abbrev turned : List ℕ → List ℕ
turned xs = map (λ b. 255 - b) xs

turned_back : (a b : ℕ) → (a ≡ 255 → b < 128) → b < 256 → 128 ≤ a → a < 256 → 255 - a ≡ 0 → 128 ≤ 255 - b
turned_back a b f k low h e = omega (arith, f (omega arith))

-- the octets of an integer are those that are written for it
octets_are : (xs : List ℕ) → AllByRecursion IsOctet xs → IsFewest xs → length xs ≤ 4 → xs ≡ integer_octets (signed_number xs)
unfolding signed_after
octets_are [] o f le = absurd f
octets_are (a ∷ []) o f le = elim (cases_Bool (ltb a 128)) [
  | inl y ↦ rw y (sym (fewest_1 a (ltb-true a 128 y)))
  | inr n ↦
      let high = ltb-false a 128 n in
      rw n (sym (ap turned (fewest_1 (255 - a) (omega arith)) ∙ ap (λ (x : ℕ). x ∷ []) (inverted a o.0)))
]
octets_are (a ∷ b ∷ []) o f le = elim (cases_Bool (ltb a 128)) [
  | inl y ↦ rw y (sym (fewest_2 a b (a * 256 + b) (ltb-true a 128 y) o.1.0 f.0 refl))
  | inr n ↦
      let high = ltb-false a 128 n in
      let back = fewest_2 (255 - a) (255 - b) ((255 - a) * 256 + (255 - b)) (omega arith) (omega arith) (turned_back a b f.1 o.1.0 high o.0) refl in
      rw n (sym (ap turned back ∙ rw (inverted a o.0, inverted b o.1.0) refl))
]
octets_are (a ∷ b ∷ c ∷ []) o f le = elim (cases_Bool (ltb a 128)) [
  | inl y ↦ rw y (sym (fewest_3 a b c ((a * 256 + b) * 256 + c) (ltb-true a 128 y) o.1.0 o.1.1.0 f.0 refl))
  | inr n ↦
      let high = ltb-false a 128 n in
      let back = fewest_3 (255 - a) (255 - b) (255 - c) (((255 - a) * 256 + (255 - b)) * 256 + (255 - c)) (omega arith) (omega arith) (omega arith) (turned_back a b f.1 o.1.0 high o.0) refl in
      rw n (sym (ap turned back ∙ rw (inverted a o.0, inverted b o.1.0, inverted c o.1.1.0) refl))
]
octets_are (a ∷ b ∷ c ∷ d ∷ []) o f le = elim (cases_Bool (ltb a 128)) [
  | inl y ↦ rw y (sym (fewest_4 a b c d (((a * 256 + b) * 256 + c) * 256 + d) (ltb-true a 128 y) o.1.0 o.1.1.0 o.1.1.1.0 f.0 refl))
  | inr n ↦
      let high = ltb-false a 128 n in
      let back = fewest_4 (255 - a) (255 - b) (255 - c) (255 - d) ((((255 - a) * 256 + (255 - b)) * 256 + (255 - c)) * 256 + (255 - d)) (omega arith) (omega arith) (omega arith) (omega arith) (turned_back a b f.1 o.1.0 high o.0) refl in
      rw n (sym (ap turned back ∙ rw (inverted a o.0, inverted b o.1.0, inverted c o.1.1.0, inverted d o.1.1.1.0) refl))
]
octets_are (a ∷ b ∷ c ∷ d ∷ e ∷ xs) o f le = absurd (omega arith)

pub integer-octets : (z : ℤ) (xs : List ℕ) → IsInteger z xs → xs ≡ integer_octets z
integer-octets z xs h = octets_are xs h.are_octets h.is_fewest h.is_short ∙ ap integer_octets (sym h.is_number)

-- ---- what is written is the number

abbrev Spelled : ℕ → List ℕ → Type 0
Spelled n xs = IsInteger (pos n) xs × IsInteger (negsuc n) (turned xs)

turns : (x : ℕ) → x < 128 → ltb (255 - x) 128 ≡ false
turns x h = le-ltb (255 - x) 128 (omega arith)

spelled_1 : (a : ℕ) → a < 128 → Spelled a (a ∷ [])
unfolding signed_after
spelled_1 a h = (
  record { are_octets = (omega arith, tt); is_short = omega arith; is_fewest = tt; is_number = rw (lt-ltb a 128 h) refl },
  record { are_octets = (omega arith, tt); is_short = omega arith; is_fewest = tt; is_number = rw (turns a h, inverted a (omega arith)) refl },
)

spelled_2 : (a b n : ℕ) → a < 128 → b < 256 → (a ≡ 0 → 128 ≤ b) → n ≡ a * 256 + b → Spelled n (a ∷ b ∷ [])
unfolding signed_after
spelled_2 a b n h k f e = (
  record { are_octets = (omega arith, (k, tt)); is_short = omega arith; is_fewest = (f, λ e. absurd (omega arith)); is_number = rw (lt-ltb a 128 h, e) refl },
  record { are_octets = (omega arith, (omega arith, tt)); is_short = omega arith; is_fewest = ((λ e. absurd (omega arith)), λ e. omega (arith, f (omega arith))); is_number = rw (turns a h, inverted a (omega arith), inverted b k, e) refl },
)

spelled_3 : (a b c n : ℕ) → a < 128 → b < 256 → c < 256 → (a ≡ 0 → 128 ≤ b) → n ≡ (a * 256 + b) * 256 + c → Spelled n (a ∷ b ∷ c ∷ [])
unfolding signed_after
spelled_3 a b c n h k l f e = (
  record { are_octets = (omega arith, (k, (l, tt))); is_short = omega arith; is_fewest = (f, λ e. absurd (omega arith)); is_number = rw (lt-ltb a 128 h, e) refl },
  record { are_octets = (omega arith, (omega arith, (omega arith, tt))); is_short = omega arith; is_fewest = ((λ e. absurd (omega arith)), λ e. omega (arith, f (omega arith))); is_number = rw (turns a h, inverted a (omega arith), inverted b k, inverted c l, e) refl },
)

spelled_4 : (a b c d n : ℕ) → a < 128 → b < 256 → c < 256 → d < 256 → (a ≡ 0 → 128 ≤ b) → n ≡ ((a * 256 + b) * 256 + c) * 256 + d → Spelled n (a ∷ b ∷ c ∷ d ∷ [])
unfolding signed_after
spelled_4 a b c d n h k l m f e = (
  record { are_octets = (omega arith, (k, (l, (m, tt)))); is_short = omega arith; is_fewest = (f, λ e. absurd (omega arith)); is_number = rw (lt-ltb a 128 h, e) refl },
  record { are_octets = (omega arith, (omega arith, (omega arith, (omega arith, tt)))); is_short = omega arith; is_fewest = ((λ e. absurd (omega arith)), λ e. omega (arith, f (omega arith))); is_number = rw (turns a h, inverted a (omega arith), inverted b k, inverted c l, inverted d m, e) refl },
)

number-spelled : (n : ℕ) → n < 2147483648 → Spelled n (fewest_octets n)
number-spelled n h = elim (cases_Bool (ltb n 128)) [
  | inl p ↦ rw p (spelled_1 n (ltb-true n 128 p))
  | inr p ↦ elim (cases_Bool (ltb n 32768)) [
    | inl q ↦
        let large = ltb-false n 128 p in
        let small = ltb-true n 32768 q in
        rw (p, q) (spelled_2 (n / 256) (n % 256) n (omega arith) (omega arith) (λ e. omega (arith, e)) (omega arith))
    | inr q ↦ elim (cases_Bool (ltb n 8388608)) [
      | inl r ↦
          let large = ltb-false n 32768 q in
          let small = ltb-true n 8388608 r in
          rw (p, q, r) (spelled_3 (n / 65536) (n / 256 % 256) (n % 256) n (omega arith) (omega arith) (omega arith) (λ e. omega (arith, e)) (omega arith))
      | inr r ↦
          let large = ltb-false n 8388608 r in
          rw (p, q, r) (spelled_4 (n / 16777216) (n / 65536 % 256) (n / 256 % 256) (n % 256) n (omega arith) (omega arith) (omega arith) (omega arith) (λ e. omega (arith, e)) (omega arith))
    ]
  ]
]

pub integer_spelled : (z : ℤ) → FitsSigned w32 z → IsInteger z (integer_octets z)
integer_spelled (pos n) h = (number-spelled n h.sfits).0
integer_spelled (negsuc n) h = (number-spelled n h.sfits).1

-- ---- the clauses of read_int

pub found : (xs : List ℕ) (o : Option ℤ) → o ≡ integer_at xs → IfSome o (λ z. IsInteger z xs)
found xs None e = tt
found xs (Some z) e = integer_takes xs z (sym e)

pub fewest : (xs : List ℕ) (o : Option ℤ) → o ≡ integer_at xs → IfSome o (λ z. xs ≡ integer_octets z)
fewest xs None e = tt
fewest xs (Some z) e = integer-octets z xs (integer_takes xs z (sym e))

-- ---- an integer of at most four octets is one of 32 bits

number-fits : (xs : List ℕ) → AllByRecursion IsOctet xs → length xs ≤ 4 → FitsSigned w32 (signed_number xs)
unfolding signed_after
number-fits [] o le = let small : 0 < 2147483648 = omega arith in record { sfits = small }
number-fits (a ∷ []) o le = elim (cases_Bool (ltb a 128)) [
  | inl y ↦ let low = ltb-true a 128 y in let small : a < 2147483648 = omega arith in rw y (record { sfits = small })
  | inr n ↦ let small : 255 - a < 2147483648 = omega arith in rw n (record { sfits = small })
]
number-fits (a ∷ b ∷ []) o le = elim (cases_Bool (ltb a 128)) [
  | inl y ↦ let low = ltb-true a 128 y in let small : a * 256 + b < 2147483648 = omega (arith, o.1.0) in rw y (record { sfits = small })
  | inr n ↦ let small : (255 - a) * 256 + (255 - b) < 2147483648 = omega arith in rw n (record { sfits = small })
]
number-fits (a ∷ b ∷ c ∷ []) o le = elim (cases_Bool (ltb a 128)) [
  | inl y ↦ let low = ltb-true a 128 y in let small : (a * 256 + b) * 256 + c < 2147483648 = omega (arith, o.1.0, o.1.1.0) in rw y (record { sfits = small })
  | inr n ↦ let small : ((255 - a) * 256 + (255 - b)) * 256 + (255 - c) < 2147483648 = omega arith in rw n (record { sfits = small })
]
number-fits (a ∷ b ∷ c ∷ d ∷ []) o le = elim (cases_Bool (ltb a 128)) [
  | inl y ↦ let low = ltb-true a 128 y in let small : ((a * 256 + b) * 256 + c) * 256 + d < 2147483648 = omega (arith, o.1.0, o.1.1.0, o.1.1.1.0) in rw y (record { sfits = small })
  | inr n ↦
      let high = ltb-false a 128 n in
      let small : (((255 - a) * 256 + (255 - b)) * 256 + (255 - c)) * 256 + (255 - d) < 2147483648 = omega arith in rw n (record { sfits = small })
]
number-fits (a ∷ b ∷ c ∷ d ∷ e ∷ xs) o le = absurd (omega arith)

pub integer-fits : (z : ℤ) (xs : List ℕ) → IsInteger z xs → FitsSigned w32 z
integer-fits z xs h = subst (FitsSigned w32) (sym h.is_number) (number-fits xs h.are_octets h.is_short)
