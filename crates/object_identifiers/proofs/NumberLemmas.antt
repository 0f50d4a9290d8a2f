-- Contents octets, octet by octet.
use Rattle.std.proofs.Common.{◌≡◌, ℕ, ◌+◌, ◌<◌, ◌≤◌, List, [], ◌∷◌, ◌++◌, length, get_or, drop, refl, add-one, Some, None}
use Rattle.std.proofs.Math.Seq.{drop-cons}
use Rattle.std.proofs.lemmas.List.{drop_all}
use Rattle.std.proofs.lemmas.Bool.{lt-ltb, le-ltb}
use Rattle.object_identifiers.specs.Contents.{numbers_from, number_with}

pub last_passed : (ns : List ℕ) (n m i : ℕ) (octets : List ℕ) → i < length octets → get_or octets i 0 < 128 → number_with n (get_or octets i 0) ≡ Some m → numbers_from (ns ++ (m ∷ [])) 0 (drop (i + 1) octets) ≡ numbers_from ns n (drop i octets)
unfolding numbers_from
last_passed ns n m i octets lt low w = rw (drop-cons octets i 0, w, lt-ltb (get_or octets i 0) 128 low, add-one i) refl

pub high_passed : (ns : List ℕ) (n m i : ℕ) (octets : List ℕ) → i < length octets → 128 ≤ get_or octets i 0 → number_with n (get_or octets i 0) ≡ Some m → numbers_from ns m (drop (i + 1) octets) ≡ numbers_from ns n (drop i octets)
unfolding numbers_from
high_passed ns n m i octets lt high w = rw (drop-cons octets i 0, w, le-ltb (get_or octets i 0) 128 high, add-one i) refl

pub octet_refused : (ns : List ℕ) (n i : ℕ) (octets : List ℕ) → i < length octets → number_with n (get_or octets i 0) ≡ None → numbers_from ns n (drop i octets) ≡ None
unfolding numbers_from
octet_refused ns n i octets lt w = rw (drop-cons octets i 0, w) refl

pub octets_ended : (ns : List ℕ) (n i : ℕ) (octets : List ℕ) → length octets ≤ i → numbers_from ns n (drop i octets) ≡ Some ns
unfolding numbers_from
octets_ended ns n i octets past = rw (drop_all i octets past) refl
