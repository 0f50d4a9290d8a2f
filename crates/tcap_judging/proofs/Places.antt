-- The first octet of its kind: line feeds, blanks, octets that a name or hexadecimal doesn't have.
use Rattle.std.proofs.Common.{◌≡◌, ◌<◌, ◌≤◌, ◌+◌, ◌-◌, ◌∙◌, ◌++◌, ◌∷◌, ℕ, zero, suc, Bool, true, false, not, cond, List, [], Option, Some, None, length, take, drop, slice_index, nat_lt, refl, sym, ap, arith}
use Rattle.std.proofs.Math.Seq.{take-length}
use Rattle.std.proofs.lemmas.List.{length-drop}
use Rattle.std.specs.List.{position_or_len}
use Rattle.std.specs.Option.{unwrap_or}
use Rattle.tcap_judging.specs.Lines.{is_one_line, line_feed}

-- the place of the first, or the end
placed : (place len : ℕ) (found : Option ℕ) (b : Bool) → nat_lt place len ≡ b → found ≡ cond b (Some place) None → place ≤ len → unwrap_or found len ≡ place
placed place len found true h e within = rw e refl
placed place len found false h e within = rw e (grind (arith, h, within))

pub place_is : (p : ℕ → Bool) (octets : List ℕ) (found : Option ℕ) → found ≡ cond (nat_lt (position_or_len p octets) (length octets)) (Some (position_or_len p octets)) None → position_or_len p octets ≤ length octets → unwrap_or found (length octets) ≡ position_or_len p octets
place_is p octets found e within = placed (position_or_len p octets) (length octets) found _ refl e within

one_within : (b : Bool) (n len : ℕ) → n ≤ len → cond (not b) (1 + n) 0 ≤ suc len
one_within true n len h = omega arith
one_within false n len h = omega (arith, h)

pub place_within : (p : ℕ → Bool) (octets : List ℕ) → position_or_len p octets ≤ length octets
place_within p [] = omega arith
place_within p (octet ∷ octets) = one_within (p octet) _ _ (place_within p octets)

-- octets without a line feed are one line
pub one_line : (octets : List ℕ) → ((k : ℕ) → k < length octets → slice_index octets k ≡ 10 → ⊥) → is_one_line octets ≡ true
one_line [] lacks = refl
one_line (octet ∷ octets) lacks =
    let more = one_line octets (λ k low is. lacks (suc k) (grind (arith, low)) is) in
    let first : (octet ≡ 10 → ⊥) = lacks 0 (grind arith) in
    grind (arith, more, first)

-- the octets before the first line feed are one line
pub one_line_before : (octets : List ℕ) (place : ℕ) → ((k : ℕ) → k < place → slice_index octets k ≡ 10 → ⊥) → is_one_line (take place octets) ≡ true
one_line_before [] zero lacks = refl
one_line_before [] (suc place) lacks = refl
one_line_before (octet ∷ octets) zero lacks = refl
one_line_before (octet ∷ octets) (suc place) lacks =
    let more = one_line_before octets place (λ k low is. lacks (suc k) (grind (arith, low)) is) in
    let first : (octet ≡ 10 → ⊥) = lacks 0 (grind arith) in
    grind (arith, more, first)

-- octets are those before a line feed, the line feed, and those behind it
cut_at : (octets : List ℕ) (place : ℕ) → place < length octets → slice_index octets place ≡ 10 → octets ≡ take place octets ++ (line_feed ∷ drop (place + 1) octets)
cut_at [] place low is = grind (arith, low)
cut_at (octet ∷ octets) zero low is = grind (arith, is)
cut_at (octet ∷ octets) (suc place) low is =
    let more = cut_at octets place (grind (arith, low)) is in
    grind (arith, more)

-- all that stands behind a place
rest_behind : (octets : List ℕ) (place : ℕ) → take (length octets - (place + 1)) (drop (place + 1) octets) ≡ drop (place + 1) octets
rest_behind octets place = ap (λ n. take n (drop (place + 1) octets)) (sym (length-drop (place + 1) octets)) ∙ take-length (drop (place + 1) octets)

pub cut_so : (octets : List ℕ) (place : ℕ) → place < length octets → slice_index octets place ≡ 10 → octets ≡ take place octets ++ (line_feed ∷ take (length octets - (place + 1)) (drop (place + 1) octets))
cut_so octets place low is = cut_at octets place low is ∙ ap (λ rest. take place octets ++ (line_feed ∷ rest)) (sym (rest_behind octets place))
