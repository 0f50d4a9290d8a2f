-- The first piece of a list, and those behind it.
use Rattle.std.proofs.Common.{◌≡◌, ◌<◌, ◌+◌, ◌-◌, ℕ, zero, suc, List, [], ◌∷◌, refl, sym, ap, ◌∙◌, length, take, drop, slice_index, arith}
use Rattle.std.proofs.Math.Seq.{take-length}
use Rattle.std.proofs.lemmas.List.{length-drop}
use Rattle.tcap_play.specs.Pieces.{pieces}

-- a list without the mark is one piece
pub one_piece : (mark : ℕ) (octets : List ℕ) → ((k : ℕ) → k < length octets → slice_index octets k ≡ mark → ⊥) → pieces mark octets ≡ octets ∷ []
unfolding pieces
one_piece mark [] lacks = refl
one_piece mark (octet ∷ octets) lacks =
    let more = one_piece mark octets (λ k low is. lacks (suc k) (grind (arith, low)) is) in
    let first : (octet ≡ mark → ⊥) = lacks 0 (grind arith) in
    grind (arith, more, first)

-- the octets before the first mark are the first piece
pub cut_piece : (mark : ℕ) (octets : List ℕ) (place : ℕ) → place < length octets → slice_index octets place ≡ mark
    → ((k : ℕ) → k < place → slice_index octets k ≡ mark → ⊥)
    → pieces mark octets ≡ take place octets ∷ pieces mark (drop (place + 1) octets)
unfolding pieces
cut_piece mark [] place low is lacks = grind (arith, low)
cut_piece mark (octet ∷ octets) zero low is lacks = grind (arith, is)
cut_piece mark (octet ∷ octets) (suc place) low is lacks =
    let more = cut_piece mark octets place (grind (arith, low)) is (λ k below here. lacks (suc k) (grind (arith, below)) here) in
    let first : (octet ≡ mark → ⊥) = lacks 0 (grind arith) in
    grind (arith, more, first)

-- all that stands behind a place
pub rest_behind : (octets : List ℕ) (place : ℕ) → take (length octets - (place + 1)) (drop (place + 1) octets) ≡ drop (place + 1) octets
rest_behind octets place = ap (λ n. take n (drop (place + 1) octets)) (sym (length-drop (place + 1) octets)) ∙ take-length (drop (place + 1) octets)
