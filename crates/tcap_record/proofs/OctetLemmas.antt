-- Octets, parts of them, and the numbers that they spell.
use Rattle.std.proofs.Common.{◌≡◌, ℕ, zero, suc, ◌^◌, ◌<◌, Bool, true, false, List, [], ◌∷◌, ◌++◌, length, get_or, take, drop, refl, sym, ap, subst, ◌∙◌, arith}
use Rattle.std.specs.Prelude.{IsTrue, nat_lt, ◌&&◌}
use Rattle.std.specs.List.{list_all}
use Rattle.std.specs.Int.{Width, w32, w64, byte_len, from_be_bytes, to_be_bytes}
use Rattle.std.proofs.lemmas.Bool.{ltb-true, lt-ltb}
use Rattle.std.proofs.lemmas.List.{take-append-drop}
use Rattle.std.proofs.lemmas.List.Folds.{list_all-append}
use Rattle.std.proofs.lemmas.Nat.{be_bytes_4, be_bytes_8, from_be_bytes-to_be_bytes_4, from_be_bytes-to_be_bytes_8}

-- Each is an octet.
abbrev pub are_octets : List ℕ → Bool
are_octets bytes = list_all (λ b. nat_lt b 0x100) bytes

abbrev pub AreOctets : List ℕ → Type 0
AreOctets octets = IsTrue (are_octets octets)

pub both_true : (a b : Bool) → IsTrue (a && b) → IsTrue a × IsTrue b
both_true true true h = (refl, refl)
both_true true false h = absurd cc
both_true false b h = absurd cc

pub true_both : (a b : Bool) → IsTrue a → IsTrue b → IsTrue (a && b)
true_both true true h k = refl
true_both true false h k = absurd cc
true_both false b h k = absurd cc

pub octets_from : (octets : List ℕ) → ((i : ℕ) → get_or octets i 0 < 256) → AreOctets octets
octets_from [] h = refl
octets_from (b ∷ octets) h = true_both (nat_lt b 256) (are_octets octets) (lt-ltb b 256 (h 0)) (octets_from octets (λ i. h (suc i)))

pub octet_get : (octets : List ℕ) → AreOctets octets → (i : ℕ) → get_or octets i 0 < 256
octet_get [] h i = omega arith
octet_get (b ∷ octets) h zero = ltb-true b 256 (both_true (nat_lt b 256) (are_octets octets) h).0
octet_get (b ∷ octets) h (suc i) = octet_get octets (both_true (nat_lt b 256) (are_octets octets) h).1 i

pub octets_append : (xs ys : List ℕ) → AreOctets xs → AreOctets ys → AreOctets (xs ++ ys)
octets_append xs ys h k = list_all-append (λ b. nat_lt b 0x100) xs ys ∙ true_both (are_octets xs) (are_octets ys) h k

pub octets_parts : (xs ys : List ℕ) → AreOctets (xs ++ ys) → AreOctets xs × AreOctets ys
octets_parts xs ys h = both_true (are_octets xs) (are_octets ys) (sym (list_all-append (λ b. nat_lt b 0x100) xs ys) ∙ h)

pub octets_cut : (n : ℕ) (xs : List ℕ) → AreOctets xs → AreOctets (take n xs) × AreOctets (drop n xs)
octets_cut n xs h = octets_parts (take n xs) (drop n xs) (subst AreOctets (sym (take-append-drop n xs)) h)

-- So many octets 0.
abbrev pub zeros : ℕ → List ℕ
zeros zero = []
zeros (suc n) = 0 ∷ zeros n

pub zeros_length : (n : ℕ) → length (zeros n) ≡ n
zeros_length zero = refl
zeros_length (suc n) = ap suc (zeros_length n)

pub zeros_octets : (n : ℕ) → AreOctets (zeros n)
zeros_octets zero = refl
zeros_octets (suc n) = zeros_octets n

-- ---- numbers

-- A width's numbers and their octets spell one another.
pub record IsWide (w : Width) (limit : ℕ) : Type 0 where
  pub len : (n : ℕ) → length (to_be_bytes w n) ≡ byte_len w
  pub back : (bytes : List ℕ) → length bytes ≡ byte_len w → AreOctets bytes → to_be_bytes w (from_be_bytes w bytes) ≡ bytes
  pub again : (n : ℕ) → n < limit → from_be_bytes w (to_be_bytes w n) ≡ n
  pub below : (bytes : List ℕ) → AreOctets bytes → from_be_bytes w bytes < limit

pub wide32 : IsWide w32 (2 ^ 32)
wide32 = record {
  len = λ n. refl;
  back = λ bytes len fits. be_bytes_4 bytes _ len (octet_get bytes fits) refl;
  again = λ n lt. from_be_bytes-to_be_bytes_4 n lt;
  below = λ bytes fits. let h = octet_get bytes fits in omega (arith, h 0, h 1, h 2, h 3);
}

pub wide64 : IsWide w64 (2 ^ 64)
wide64 = record {
  len = λ n. refl;
  back = λ bytes len fits. be_bytes_8 bytes _ len (octet_get bytes fits) refl;
  again = λ n lt. from_be_bytes-to_be_bytes_8 n lt;
  below = λ bytes fits. let h = octet_get bytes fits in omega (arith, h 0, h 1, h 2, h 3, h 4, h 5, h 6, h 7);
}
