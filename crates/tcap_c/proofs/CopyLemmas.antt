-- Parts that are copied one behind the other stand at the front of the room.
use Rattle.std.proofs.Common.{◌≡◌, ℕ, ◌+◌, List, [], ◌++◌, length, take, drop, refl, sym, ap, ◌∙◌, arith, append_assoc, length-append}
use Rattle.std.proofs.Math.Seq.{take-append_seam, drop-append-add}
use Rattle.std.proofs.lemmas.List.{drop-drop}
use Rattle.tcap_c.specs.Parts.{Parts, joined, lengths_of, count_of}
use Rattle.tcap_c.specs.Room.{Copies}

-- these octets stand at the front, up to here, and what lay behind them is as it was
record IsFront (octets before room : List ℕ) (end : ℕ) : Type 0 where
  row : room ≡ octets ++ drop (length octets) before
  ends : end ≡ length octets

next : (octets part before room room' : List ℕ) (end end' : ℕ) → IsFront octets before room end → Copies room end part room' end'
    → IsFront (octets ++ part) before room' end'
next octets part before room room' end end' front copies =
    let rest = drop (length octets) before in
    let behind : drop (length octets + length part) (octets ++ rest) ≡ drop (length octets + length part) before =
    drop-append-add octets rest (length part) ∙ drop-drop (length part) (length octets) before in
    let row : room' ≡ take (length octets) (octets ++ rest) ++ (part ++ drop (length octets + length part) (octets ++ rest)) =
    copies.room ∙ (λ i. take (front.ends i) (front.row i) ++ (part ++ drop (front.ends i + length part) (front.row i))) in
    record {
      row = row ∙ (λ i. take-append_seam octets rest i ++ (part ++ behind i))
          ∙ sym (append_assoc octets part (drop (length octets + length part) before))
          ∙ ap (λ n. (octets ++ part) ++ drop n before) (sym (length-append octets part));
      ends = copies.ends ∙ (λ i. front.ends i + length part) ∙ sym (length-append octets part);
    }

-- So many octets the parts of an output have.
pub count : (p : Parts) → length (joined p) ≡ count_of (lengths_of p)
count p = grind (arith, length-append)

-- two of them
pub copied_two : (a b r0 r1 r2 : List ℕ) (n1 n2 : ℕ) → Copies r0 0 a r1 n1 → Copies r1 n1 b r2 n2
    → r2 ≡ (a ++ b) ++ drop (length (a ++ b)) r0
copied_two a b r0 r1 r2 n1 n2 c1 c2 =
    let f0 : IsFront [] r0 r0 0 = record { row = refl; ends = refl } in
    let f1 = next [] a r0 r0 r1 0 n1 f0 c1 in
    (next a b r0 r1 r2 n1 n2 f1 c2).row
