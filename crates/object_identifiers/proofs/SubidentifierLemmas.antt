-- The octets of a number, written from the last one to the first.
use Rattle.std.proofs.Common.{subst, inl, inr, ◌≡◌, ℕ, zero, suc, ◌+◌, ◌-◌, ◌*◌, ◌/◌, ◌%◌, ◌<◌, ◌≤◌, eqb, List, [], ◌∷◌, length, drop, refl, sym, ap, ◌∙◌, arith}
use Rattle.std.proofs.Math.ListN.{set}
use Rattle.std.proofs.lemmas.List.{drop-set}
use Rattle.std.proofs.lemmas.Bool.{cases_Bool, ne_eqb}
use Rattle.object_identifiers.specs.Contents.{high_onto, subidentifier}

-- How great a number may be, of which so many octets have to hold the rest.
abbrev pub room : ℕ → ℕ
room zero = 1
room (suc k) = 128 * room k

pub room_left : (first rest : ℕ) → rest < room first → 0 < rest → 0 < first
room_left zero rest fits some = omega arith
room_left (suc k) rest fits some = omega arith

suc_back : (k : ℕ) → suc k - 1 ≡ k
suc_back k = omega arith

pub room_next : (first rest : ℕ) → rest < room first → 0 < rest → rest / 128 < room (first - 1)
room_next zero rest fits some = absurd (omega arith)
room_next (suc k) rest fits some =
    let below : rest / 128 < room k = omega arith in
    subst (λ (n : ℕ). rest / 128 < room n) (sym (suc_back k)) below

-- more octets than are needed change nothing
pub enough : (j k n : ℕ) (octets : List ℕ) → n ≤ j → n ≤ k → high_onto j n octets ≡ high_onto k n octets
unfolding high_onto
enough zero zero n octets lj lk = refl
enough zero (suc k) n octets lj lk = let none : n ≡ 0 = omega arith in rw none refl
enough (suc j) zero n octets lj lk = let none : n ≡ 0 = omega arith in rw none refl
enough (suc j) (suc k) n octets lj lk = elim (cases_Bool (eqb n 0)) [
  | inl is ↦ rw is refl
  | inr other ↦ rw other (enough j k (n / 128) ((128 + n % 128) ∷ octets) (omega arith) (omega arith))
]

pub onto_suc : (k n : ℕ) (octets : List ℕ) → 0 < n → high_onto (suc k) n octets ≡ high_onto k (n / 128) ((128 + n % 128) ∷ octets)
unfolding high_onto
onto_suc k n octets some = rw (ne_eqb n 0 (λ is. omega (arith, is, some))) refl

pub onto_next : (n : ℕ) (octets : List ℕ) → 0 < n → high_onto (n / 128) (n / 128) ((128 + n % 128) ∷ octets) ≡ high_onto n n octets
onto_next zero octets some = absurd (omega arith)
onto_next (suc n) octets some = enough (suc n / 128) n (suc n / 128) ((128 + suc n % 128) ∷ octets) (omega arith) (omega arith) ∙ sym (onto_suc n (suc n) octets some)

pub subidentifier_begun : (n : ℕ) → high_onto (n / 128) (n / 128) ((n % 128) ∷ []) ≡ subidentifier n
unfolding subidentifier
subidentifier_begun n = refl

pub written_on : (series : List ℕ) (first rest : ℕ) → length series ≡ 5 → first ≤ 4 → 0 < first → 0 < rest → high_onto (rest / 128) (rest / 128) (drop (first - 1) (set series (first - 1) (128 + rest % 128))) ≡ high_onto rest rest (drop first series)
written_on series first rest five within before some =
    let at : first - 1 + 1 ≡ first = omega arith in
    let split : drop (first - 1) (set series (first - 1) (128 + rest % 128)) ≡ (128 + rest % 128) ∷ drop first series =
    drop-set series (first - 1) (128 + rest % 128) (omega (arith, five)) ∙ ap (λ (k : ℕ). (128 + rest % 128) ∷ drop k series) at in
    ap (high_onto (rest / 128) (rest / 128)) split ∙ onto_next rest (drop first series) some

pub none_left : (octets : List ℕ) → high_onto 0 0 octets ≡ octets
unfolding high_onto
none_left octets = refl
