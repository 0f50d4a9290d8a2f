-- The octets of numbers: what is written is read again, and the other way round.
use Rattle.std.proofs.Common.{inl, inr, ◌≡◌, ◌≢◌, ◌⊎◌, ℕ, zero, suc, ◌+◌, ◌*◌, ◌/◌, ◌%◌, ◌<◌, ◌≤◌, ltb, eqb, List, [], ◌∷◌, ◌++◌, slice_index, map, refl, sym, ap, ◌∙◌, arith, append_assoc, Some, None}
use Rattle.std.specs.List.{flat_map, AllByRecursion}
use Rattle.std.proofs.lemmas.Bool.{cases_Bool, lt-ltb, le-ltb, ltb-true, ltb-false, eqb-true, eqb-false}
use Rattle.std.proofs.lemmas.List.{append-nil}
use Rattle.ber_core.specs.ObjectIdentifier.{IsSeries, IsSubidentifier}
use Rattle.object_identifiers.specs.Arcs.{number_after, number_of, number_limit}
use Rattle.object_identifiers.specs.Contents.{high_onto, subidentifier, numbers_from, number_with}
use Rattle.object_identifiers.proofs.SubidentifierLemmas.{onto_next, onto_suc, none_left}

abbrev pub joined : List (List ℕ) → List ℕ
joined ss = flat_map (λ (s : List ℕ). s) ss

abbrev pub AreOctets : List ℕ → Type 0
AreOctets octets = AllByRecursion (λ (b : ℕ). b < 256) octets

abbrev pub AreSmall : List ℕ → Type 0
AreSmall numbers = AllByRecursion (λ (n : ℕ). n ≤ number_limit) numbers

-- ---- reading

after-least : (s : List ℕ) (n : ℕ) → n ≤ number_after n s
after-least [] n = omega arith
after-least (b ∷ s) n = let more : n * 128 + b % 128 ≤ number_after (n * 128 + b % 128) s = after-least s (n * 128 + b % 128) in omega arith

with_small : (n b : ℕ) → n * 128 + b % 128 ≤ number_limit → number_with n b ≡ Some (n * 128 + b % 128)
with_small n b small = rw (le-ltb number_limit (n * 128 + b % 128) small) refl

with_great : (n b : ℕ) → number_limit < n * 128 + b % 128 → number_with n b ≡ None
with_great n b great = rw (lt-ltb number_limit (n * 128 + b % 128) great) refl

step_last : (ns more : List ℕ) (n b m : ℕ) → b < 128 → number_with n b ≡ Some m → numbers_from ns n (b ∷ more) ≡ numbers_from (ns ++ (m ∷ [])) 0 more
unfolding numbers_from
step_last ns more n b m low w = rw (w, lt-ltb b 128 low) refl

step_high : (ns more : List ℕ) (n b m : ℕ) → 128 ≤ b → number_with n b ≡ Some m → numbers_from ns n (b ∷ more) ≡ numbers_from ns m more
unfolding numbers_from
step_high ns more n b m high w = rw (w, le-ltb b 128 high) refl

step_not : (ns more : List ℕ) (n b : ℕ) → number_with n b ≡ None → numbers_from ns n (b ∷ more) ≡ None
unfolding numbers_from
step_not ns more n b w = rw w refl

at_end : (ns : List ℕ) (n : ℕ) → numbers_from ns n [] ≡ Some ns
unfolding numbers_from
at_end ns n = refl

series_read : (s more ns : List ℕ) (n : ℕ) → IsSeries s → number_after n s ≤ number_limit → numbers_from ns n (s ++ more) ≡ numbers_from (ns ++ (number_after n s ∷ [])) 0 more
series_read [] more ns n h small = absurd h
series_read (b ∷ s) more ns n (inl h) small =
    let none = h.1 in
    let small = small in
    let e : number_after n (b ∷ s) ≡ n * 128 + b % 128 = ap (number_after (n * 128 + b % 128)) none in
    let one = step_last ns more n b (n * 128 + b % 128) h.0 (with_small n b (omega (arith, small, e))) in
    rw none one
series_read (b ∷ s) more ns n (inr h) small =
    let least = after-least s (n * 128 + b % 128) in
    step_high ns (s ++ more) n b (n * 128 + b % 128) h.0 (with_small n b (omega (arith, small, least)))
    ∙ series_read s more ns (n * 128 + b % 128) h.1 small

series_refused : (s more ns : List ℕ) (n : ℕ) → IsSeries s → number_limit < number_after n s → numbers_from ns n (s ++ more) ≡ None
series_refused [] more ns n h great = absurd h
series_refused (b ∷ s) more ns n (inl h) great =
    let e : number_after n (b ∷ s) ≡ n * 128 + b % 128 = ap (number_after (n * 128 + b % 128)) h.1 in
    step_not ns (s ++ more) n b (with_great n b (omega (arith, great, e)))
series_refused (b ∷ s) more ns n (inr h) great = elim (cases_Bool (ltb number_limit (n * 128 + b % 128))) [
  | inl above ↦ step_not ns (s ++ more) n b (with_great n b (ltb-true number_limit (n * 128 + b % 128) above))
  | inr below ↦
      step_high ns (s ++ more) n b (n * 128 + b % 128) h.0 (with_small n b (ltb-false number_limit (n * 128 + b % 128) below))
      ∙ series_refused s more ns (n * 128 + b % 128) h.1 great
]

pub numbers_read : (ss : List (List ℕ)) (ns : List ℕ) → AllByRecursion IsSubidentifier ss → AreSmall (map number_of ss) → numbers_from ns 0 (joined ss) ≡ Some (ns ++ map number_of ss)
numbers_read [] ns h small = at_end ns 0 ∙ ap (λ (w : List ℕ). Some w) (sym (append-nil ns))
numbers_read (s ∷ ss) ns h small =
    series_read s (joined ss) ns 0 h.0.0 small.0
    ∙ (numbers_read ss (ns ++ (number_of s ∷ [])) h.1 small.1
    ∙ ap (λ (w : List ℕ). Some w) (append_assoc ns (number_of s ∷ []) (map number_of ss)))

pub numbers_small : (ss : List (List ℕ)) (ns ms : List ℕ) → AllByRecursion IsSubidentifier ss → numbers_from ns 0 (joined ss) ≡ Some ms → AreSmall (map number_of ss)
numbers_small [] ns ms h e = tt
numbers_small (s ∷ ss) ns ms h e = elim (cases_Bool (ltb number_limit (number_of s))) [
  | inl above ↦
      let none = series_refused s (joined ss) ns 0 h.0.0 (ltb-true number_limit (number_of s) above) in
      absurd (let bad = sym none ∙ e in cc)
  | inr below ↦
      let small : number_of s ≤ number_limit = ltb-false number_limit (number_of s) below in
      (small, numbers_small ss (ns ++ (number_of s ∷ [])) ms h.1 (sym (series_read s (joined ss) ns 0 h.0.0 small) ∙ e))
]

-- ---- writing

onto_series : (k n : ℕ) (s : List ℕ) → IsSeries s → IsSeries (high_onto k n s)
unfolding high_onto
onto_series zero n s h = h
onto_series (suc k) n s h = elim (cases_Bool (eqb n 0)) [
  | inl is ↦ rw is h
  | inr other ↦ rw other (onto_series k (n / 128) ((128 + n % 128) ∷ s) (inr (omega arith, h)))
]

nothing_high : (k : ℕ) (s : List ℕ) → high_onto k 0 s ≡ s
unfolding high_onto
nothing_high zero s = refl
nothing_high (suc k) s = refl

onto_first : (k n : ℕ) (s : List ℕ) → n ≤ k → 0 < n → slice_index (high_onto k n s) 0 ≢ 128
onto_first zero n s within some = absurd (omega arith)
onto_first (suc k) n s within some = elim (cases_Bool (eqb (n / 128) 0)) [
  | inl is ↦
      let none : n / 128 ≡ 0 = eqb-true (n / 128) 0 is in
      let whole : high_onto (suc k) n s ≡ (128 + n % 128) ∷ s =
      onto_suc k n s some ∙ (ap (λ (m : ℕ). high_onto k m ((128 + n % 128) ∷ s)) none ∙ nothing_high k ((128 + n % 128) ∷ s)) in
      rw whole (λ same. omega (arith, same, none, some))
  | inr other ↦
      let more : 0 < n / 128 = omega (arith, eqb-false (n / 128) 0 other) in
      rw (onto_suc k n s some) (onto_first k (n / 128) ((128 + n % 128) ∷ s) (omega arith) more)
]

low_bits : (x : ℕ) → x < 128 → (128 + x) % 128 ≡ x
low_bits x lt = omega arith

onto_number : (k n : ℕ) (s : List ℕ) → n ≤ k → number_after 0 (high_onto k n s) ≡ number_after n s
onto_number zero n s within = let none : n ≡ 0 = omega arith in rw none (ap (number_after 0) (nothing_high 0 s))
onto_number (suc k) n s within = elim (cases_Bool (eqb n 0)) [
  | inl is ↦
      let none : n ≡ 0 = eqb-true n 0 is in
      rw none (ap (number_after 0) (nothing_high (suc k) s))
  | inr other ↦
      let some : 0 < n = omega (arith, eqb-false n 0 other) in
      let low = low_bits (n % 128) (omega arith) in
      let whole : n / 128 * 128 + (128 + n % 128) % 128 ≡ n = omega (arith, low) in
      ap (number_after 0) (onto_suc k n s some)
      ∙ (onto_number k (n / 128) ((128 + n % 128) ∷ s) (omega arith)
      ∙ ap (λ (m : ℕ). number_after m s) whole)
]

pub subidentifier-is : (n : ℕ) → IsSubidentifier (subidentifier n)
unfolding subidentifier
subidentifier-is n = (
  onto_series (n / 128) (n / 128) ((n % 128) ∷ []) (inl (omega arith, refl)),
  elim (cases_Bool (eqb (n / 128) 0)) [
    | inl is ↦
        let none : n / 128 ≡ 0 = eqb-true (n / 128) 0 is in
        let whole : high_onto (n / 128) (n / 128) ((n % 128) ∷ []) ≡ (n % 128) ∷ [] =
        ap (λ (m : ℕ). high_onto m m ((n % 128) ∷ [])) none ∙ none_left _ in
        rw whole (λ same. omega (arith, same))
    | inr other ↦ onto_first (n / 128) (n / 128) ((n % 128) ∷ []) (omega arith) (omega (arith, eqb-false (n / 128) 0 other))
  ],
)

pub subidentifier-number : (n : ℕ) → number_of (subidentifier n) ≡ n
unfolding subidentifier
subidentifier-number n =
    onto_number (n / 128) (n / 128) ((n % 128) ∷ []) (omega arith) ∙ omega arith

onto_octets : (k n : ℕ) (s : List ℕ) → AreOctets s → AreOctets (high_onto k n s)
unfolding high_onto
onto_octets zero n s h = h
onto_octets (suc k) n s h = elim (cases_Bool (eqb n 0)) [
  | inl is ↦ rw is h
  | inr other ↦ rw other (onto_octets k (n / 128) ((128 + n % 128) ∷ s) (omega arith, h))
]

pub subidentifier-octets : (n : ℕ) → AreOctets (subidentifier n)
unfolding subidentifier
subidentifier-octets n = onto_octets (n / 128) (n / 128) ((n % 128) ∷ []) (omega arith, tt)

-- ---- octets, read and written again

begun_is : (n : ℕ) → subidentifier n ≡ high_onto (n / 128) (n / 128) ((n % 128) ∷ [])
unfolding subidentifier
begun_is n = refl

again_from : (s : List ℕ) (v : ℕ) → IsSeries s → AreOctets s → (0 < v) ⊎ (slice_index s 0 ≢ 128) → subidentifier (number_after v s) ≡ high_onto v v s
again_from [] v h bytes starts = absurd h
again_from (b ∷ s) v (inl h) bytes starts =
    let none = h.1 in
    let above : (v * 128 + b % 128) / 128 ≡ v = omega arith in
    let low : (v * 128 + b % 128) % 128 ≡ b = omega (arith, h.0) in
    let one : subidentifier (v * 128 + b % 128) ≡ high_onto v v (b ∷ []) =
    begun_is (v * 128 + b % 128) ∙ (ap (λ (m : ℕ). high_onto m m (((v * 128 + b % 128) % 128) ∷ [])) above ∙ ap (λ (c : ℕ). high_onto v v (c ∷ [])) low) in
    rw none one
again_from (b ∷ s) v (inr h) bytes starts =
    let m : ℕ = v * 128 + b % 128 in
    let some : 0 < v * 128 + b % 128 = elim starts [
      | inl more ↦ omega (arith, more)
      | inr other ↦ omega (arith, other, h.0, bytes.0)
    ] in
    let above : (v * 128 + b % 128) / 128 ≡ v = omega arith in
    let low : 128 + (v * 128 + b % 128) % 128 ≡ b = omega (arith, h.0, bytes.0) in
    again_from s (v * 128 + b % 128) h.1 bytes.1 (inl some)
    ∙ (sym (onto_next (v * 128 + b % 128) s some)
    ∙ (ap (λ (k : ℕ). high_onto k k ((128 + (v * 128 + b % 128) % 128) ∷ s)) above
    ∙ ap (λ (c : ℕ). high_onto v v (c ∷ s)) low))

pub subidentifier-again : (s : List ℕ) → IsSubidentifier s → AreOctets s → subidentifier (number_of s) ≡ s
subidentifier-again s h bytes = again_from s 0 h.0 bytes (inr h.1) ∙ none_left s
