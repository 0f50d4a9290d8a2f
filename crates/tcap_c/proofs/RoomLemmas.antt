-- The parts of an output in the room.
use Rattle.std.proofs.Common.{◌≡◌, ℕ, ◌+◌, zero, suc, List, [], ◌∷◌, ◌++◌, length, take, drop, sym, ap, ◌∙◌, append_assoc, arith}
use Rattle.std.proofs.lemmas.List.{take-append-drop}
use Rattle.std.proofs.Math.Seq.{take-append_seam, drop-append_seam, drop-nil}
use Rattle.tcap_c.specs.Numbers.{with_lengths}
use Rattle.tcap_c.specs.Parts.{Parts, joined, lengths_of, count_of}
use Rattle.tcap_c.specs.ReadingBack.{parts_in}
use Rattle.tcap_c.specs.declared.output_numbers.OutputNumbers.{OutputNumbers}

-- a row of octets with more behind it
behind : (xs ys rest : List ℕ) → (xs ++ ys) ++ rest ≡ xs ++ (ys ++ rest)
behind xs ys rest = append_assoc xs ys rest

-- the parts one after the other, and what follows them
pub joined_before : (p : Parts) (rest : List ℕ)
    → joined p ++ rest ≡ p.address ++ (p.message ++ (p.context ++ (p.info ++ (p.global ++ (p.parameter ++ rest)))))
joined_before p rest =
    behind p.address (p.message ++ (p.context ++ (p.info ++ (p.global ++ p.parameter)))) rest
    ∙ ap (λ r. p.address ++ r) (behind p.message (p.context ++ (p.info ++ (p.global ++ p.parameter))) rest
    ∙ ap (λ r. p.message ++ r) (behind p.context (p.info ++ (p.global ++ p.parameter)) rest
    ∙ ap (λ r. p.context ++ r) (behind p.info (p.global ++ p.parameter) rest
    ∙ ap (λ r. p.info ++ r) (behind p.global p.parameter rest))))

-- what is left of a row is left of what is left of it
left : (m n : ℕ) (xs : List ℕ) → drop (m + n) xs ≡ drop n (drop m xs)
left zero n xs = let e : zero + n ≡ n = omega arith in ap (λ (k : ℕ). drop k xs) e
left (suc m) n [] = drop-nil (suc m + n) ∙ sym (drop-nil n)
left (suc m) n (x ∷ xs) = let e : suc m + n ≡ suc (m + n) = omega arith in ap (λ (k : ℕ). drop k (x ∷ xs)) e ∙ left m n xs

parts_at : (a m c i g q rest : List ℕ) (n : OutputNumbers)
    → parts_in (with_lengths (lengths_of (record { address = a; message = m; context = c; info = i; global = g; parameter = q })) n)
    (a ++ (m ++ (c ++ (i ++ (g ++ (q ++ rest))))))
    ≡ record { address = a; message = m; context = c; info = i; global = g; parameter = q }
parts_at a m c i g q rest n =
    let row = a ++ (m ++ (c ++ (i ++ (g ++ (q ++ rest))))) in
    let at-context = length a + length m in
    let at-info = at-context + length c in
    let at-global = at-info + length i in
    let behind-a : drop (length a) row ≡ m ++ (c ++ (i ++ (g ++ (q ++ rest)))) = drop-append_seam a _ in
    let behind-m : drop at-context row ≡ c ++ (i ++ (g ++ (q ++ rest))) =
    left (length a) (length m) row ∙ ap (λ (xs : List ℕ). drop (length m) xs) behind-a ∙ drop-append_seam m _ in
    let behind-c : drop at-info row ≡ i ++ (g ++ (q ++ rest)) =
    left at-context (length c) row ∙ ap (λ (xs : List ℕ). drop (length c) xs) behind-m ∙ drop-append_seam c _ in
    let behind-i : drop at-global row ≡ g ++ (q ++ rest) =
    left at-info (length i) row ∙ ap (λ (xs : List ℕ). drop (length i) xs) behind-c ∙ drop-append_seam i _ in
    let behind-g : drop (at-global + length g) row ≡ q ++ rest =
    left at-global (length g) row ∙ ap (λ (xs : List ℕ). drop (length g) xs) behind-i ∙ drop-append_seam g _ in
    λ j. record {
      address = take-append_seam a (m ++ (c ++ (i ++ (g ++ (q ++ rest))))) j;
      message = (ap (λ (xs : List ℕ). take (length m) xs) behind-a ∙ take-append_seam m _) j;
      context = (ap (λ (xs : List ℕ). take (length c) xs) behind-m ∙ take-append_seam c _) j;
      info = (ap (λ (xs : List ℕ). take (length i) xs) behind-c ∙ take-append_seam i _) j;
      global = (ap (λ (xs : List ℕ). take (length g) xs) behind-i ∙ take-append_seam g _) j;
      parameter = (ap (λ (xs : List ℕ). take (length q) xs) behind-g ∙ take-append_seam q _) j;
    }

-- the parts are read back from a room at whose front they stand
pub parts_back : (p : Parts) (n : OutputNumbers) (room : List ℕ) → take (count_of (lengths_of p)) room ≡ joined p
    → parts_in (with_lengths (lengths_of p) n) room ≡ p
parts_back p n room at_front =
    let rest = drop (count_of (lengths_of p)) room in
    let row : room ≡ joined p ++ rest = sym (take-append-drop (count_of (lengths_of p)) room) ∙ ap (λ r. r ++ rest) at_front in
    ap (parts_in (with_lengths (lengths_of p) n)) (row ∙ joined_before p rest)
    ∙ parts_at p.address p.message p.context p.info p.global p.parameter rest n
