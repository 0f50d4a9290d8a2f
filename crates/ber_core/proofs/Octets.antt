-- Steps of the loops over octets.
use Rattle.std.proofs.Common.{◌≡◌, ℕ, suc, ◌+◌, ◌-◌, ◌*◌, ◌<◌, ◌≤◌, List, [], ◌∷◌, length, get_or, drop, Ok, Err, Result, refl, sym, ap, arith, add-one}
use Rattle.std.proofs.Math.Seq.{drop-cons}
use Rattle.std.proofs.lemmas.List.{drop_all}
use Rattle.std.proofs.lemmas.Bool.{lt-ltb, le-ltb}
use Rattle.ber_core.specs.declared.fault.BerFault.{BerFault}
use Rattle.ber_core.specs.declared.fault.BerFault.TheVariants.{Short, BadTag, BadLength}
use Rattle.ber_core.specs.Results.{◌>>=◌}
use Rattle.ber_core.specs.HeadReading.{further_at, number_at}
use Rattle.ber_core.specs.Length.{number_after}

abbrev read_ok : ℕ → Result ℕ BerFault
read_ok n = Ok n

-- one octet more
pub number_after-drop : (n i : ℕ) (octets : List ℕ) → i < length octets → number_after (n * 256 + get_or octets i 0) (drop (i + 1) octets) ≡ number_after n (drop i octets)
unfolding number_after
number_after-drop n i octets h = rw (add-one, drop-cons octets i 0) refl

pub number_after-ge : (n : ℕ) (octets : List ℕ) → n ≤ number_after n octets
unfolding number_after
number_after-ge n [] = omega arith
number_after-ge n (b ∷ octets) = omega (arith, number_after-ge (n * 256 + b) octets)

pub number_at-large : (n : ℕ) (octets more : List ℕ) → number_after n more ≡ number_after 0 octets → 65535 < n → number_at octets ≡ Err BadLength
number_at-large n octets more e h =
    let large : 65535 < number_after 0 octets = omega (arith, e, number_after-ge n more) in
    rw (lt-ltb 65535 (number_after 0 octets) large) refl

pub number_at-done : (n i : ℕ) (octets : List ℕ) → number_after n (drop i octets) ≡ number_after 0 octets → length octets ≤ i → n ≤ 65535 → number_at octets ≡ Ok n
unfolding number_after
number_at-done n i octets e past h =
    let same : n ≡ number_after 0 octets = rw (drop_all i octets past) at e in
    let small : number_after 0 octets ≤ 65535 = omega (arith, same) in
    rw (le-ltb 65535 (number_after 0 octets) small) (ap (λ (k : ℕ). read_ok k) (sym same))

add_both : (i : ℕ) (read : Result ℕ BerFault) → (read >>= (λ k. read_ok ((i + 1) + k))) ≡ ((read >>= (λ k. read_ok (1 + k))) >>= (λ k. read_ok (i + k)))
add_both i (Ok k) = ap (λ (j : ℕ). read_ok j) (omega arith)
add_both i (Err f) = refl

pub further_at-passed : (i : ℕ) (bytes : List ℕ) → i < 4 → i < length bytes → 128 ≤ get_or bytes i 0 → (further_at (4 - (i + 1)) (drop (i + 1) bytes) >>= (λ k. Ok ((i + 1) + k))) ≡ (further_at (4 - i) (drop i bytes) >>= (λ k. Ok (i + k)))
unfolding further_at
further_at-passed i bytes h lt high =
    let left : 4 - i ≡ suc (4 - (i + 1)) = omega arith in
    rw (left, drop-cons bytes i 0, le-ltb (get_or bytes i 0) 128 high, add-one i) (rw (← add-one i) (add_both i (further_at (4 - (i + 1)) (drop (i + 1) bytes))))

pub further_at-last : (i : ℕ) (bytes : List ℕ) → i < 4 → i < length bytes → get_or bytes i 0 < 128 → (further_at (4 - i) (drop i bytes) >>= (λ k. Ok (i + k))) ≡ Ok (i + 1)
unfolding further_at
further_at-last i bytes h lt low =
    let left : 4 - i ≡ suc (4 - (i + 1)) = omega arith in
    rw (left, drop-cons bytes i 0, lt-ltb (get_or bytes i 0) 128 low) refl

pub further_at-short : (i : ℕ) (bytes : List ℕ) → i < 4 → length bytes ≤ i → (further_at (4 - i) (drop i bytes) >>= (λ k. Ok (i + k))) ≡ Err Short
unfolding further_at
further_at-short i bytes h past =
    let left : 4 - i ≡ suc (4 - (i + 1)) = omega arith in
    rw (left, drop_all i bytes past) refl

pub further_at-none : (i : ℕ) (bytes : List ℕ) → 4 ≤ i → (further_at (4 - i) (drop i bytes) >>= (λ k. Ok (i + k))) ≡ Err BadTag
unfolding further_at
further_at-none i bytes h =
    let left : 4 - i ≡ 0 = omega arith in
    rw left refl
