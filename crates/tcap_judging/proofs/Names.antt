-- The octets of a name are text, since all of them are visible.
use Rattle.std.proofs.Common.{◌≡◌, ◌<◌, ◌≤◌, ◌+◌, ℕ, zero, suc, Bool, true, false, not, cond, List, [], ◌∷◌, Result, Ok, Err, length, refl, arith}
use Rattle.std.proofs.lemmas.Str.{IsUtf8-from_ascii}
use Rattle.std.specs.List.{position_or_len}
use Rattle.std.specs.Prelude.{MatchResult}
use Rattle.std.specs.Result.{IsOk}
use Rattle.std.specs.Str.{IsAscii, IsUtf8}
use Rattle.tcap_judging.proofs.Places.{place_within}
use Rattle.tcap_judging.specs.LineParts.{is_unnamed}

-- a visible octet is of ASCII
visible_below : (octet : ℕ) → is_unnamed octet ≡ false → octet < 128
visible_below octet h = grind (arith, h)

ascii-cons : (octet : ℕ) (octets : List ℕ) → octet < 128 → IsAscii octets → IsAscii (octet ∷ octets)
ascii-cons octet octets low more zero = low
ascii-cons octet octets low more (suc i) = more i

-- the first is visible where all are
first_visible : (b : Bool) (n len : ℕ) → n ≤ len → cond (not b) (1 + n) 0 ≡ suc len → (b ≡ false) × (n ≡ len)
first_visible true n len within h = absurd (omega (arith, h))
first_visible false n len within h = (refl, omega (arith, h))

pub visible_ascii : (octets : List ℕ) → position_or_len is_unnamed octets ≡ length octets → IsAscii octets
visible_ascii [] h = λ i. omega arith
visible_ascii (octet ∷ octets) h =
    let first = first_visible (is_unnamed octet) _ _ (place_within is_unnamed octets) h in
    ascii-cons octet octets (visible_below octet first.0) (visible_ascii octets first.1)

-- what is judged to be text is text
pub is-text : {S E : Type 0} (P : S → Type 0) (Q : E → Type 0) (octets : List ℕ) (r : Result S E) → MatchResult r P (λ e. ¬ (IsUtf8 octets) × Q e) → IsAscii octets → IsOk r
is-text P Q octets (Ok s) h ascii = refl
is-text P Q octets (Err e) h ascii = absurd (h.0 (IsUtf8-from_ascii octets ascii))
