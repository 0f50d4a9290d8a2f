-- The order of the heap after two neighbours were swapped, and where no swap is needed.
use Rattle.std.proofs.Common.{◌≡◌, ◌≢◌, ℕ, zero, suc, ◌+◌, ◌<◌, ◌⊎◌, inl, inr, true, false, Option, sym, ◌∙◌, subst, arith}
use Rattle.std.proofs.lemmas.Bool.{cases_eq}
use Rattle.timer_queue.specs.declared.timer.Timer.{Timer}
use Rattle.timer_queue.specs.Order.{comes_before}
use Rattle.timer_queue.specs.Heap.{IsChild, IsOrdered, IsOrderedBut, IsFineBelow, IsFineAbove}
use Rattle.timer_queue.proofs.OrderLemmas.{comes_before-asym, comes_before-self, comes_before-through}

-- A place has one parent.
pub same_parent : (c p q : ℕ) → IsChild c p → IsChild c q → p ≡ q
same_parent c p q (inl h) (inl k) = omega (arith, h, k)
same_parent c p q (inl h) (inr k) = absurd (omega (arith, h, k))
same_parent c p q (inr h) (inl k) = absurd (omega (arith, h, k))
same_parent c p q (inr h) (inr k) = omega (arith, h, k)

-- A child is past its parent.
pub child_past : (c p : ℕ) → IsChild c p → p < c
child_past c p (inl h) = omega (arith, h)
child_past c p (inr h) = omega (arith, h)

apart : (c p : ℕ) → IsChild c p → c ≢ p
apart c p h e = let lt = child_past c p h in omega (arith, lt, e)

-- A place of one hole is ordered once it is fine above and below.
pub ordered-whole : (key : ℕ → Option Timer) (len hole : ℕ) → IsOrderedBut key len hole → IsFineAbove key hole → IsFineBelow key len hole → IsOrdered key len
ordered-whole key len hole but above below p c h lt = go (cases_eq p hole) (cases_eq c hole)
  where
    go : (p ≡ hole) ⊎ (p ≢ hole) → (c ≡ hole) ⊎ (c ≢ hole) → comes_before (key c) (key p) ≡ false
    go (inl e) d = subst (λ x. comes_before (key c) (key x) ≡ false) (sym e) (below c (subst (IsChild c) e h) lt)
    go (inr n) (inl e) = subst (λ x. comes_before (key x) (key p) ≡ false) (sym e) (above p (subst (λ x. IsChild x p) e h))
    go (inr n) (inr m) = but.pairs p c h lt n m

-- The keys after those of two places were swapped.
pub record IsSwapped (key new : ℕ → Option Timer) (a b : ℕ) : Type 0 where
  pub first : new a ≡ key b
  pub second : new b ≡ key a
  pub others : (i : ℕ) → i ≢ a → i ≢ b → new i ≡ key i

module _ (key new : ℕ → Option Timer) (len hole : ℕ) (but : IsOrderedBut key len hole) where
  -- From the hole a place goes up.
  module _ (up : ℕ) (is : IsChild hole up) (within : hole < len) (s : IsSwapped key new hole up) (before : comes_before (key hole) (key up) ≡ true) (below : IsFineBelow key len hole) where
    above_all : (c : ℕ) → IsChild c up → c < len → c ≢ hole → comes_before (key c) (key up) ≡ false
    above_all c h lt n = but.pairs up c h lt (λ e. apart hole up is (sym e)) n

    pub but-up : IsOrderedBut new len up
    but-up = record { pairs = pairs; across = across }
      where
        pairs : (p c : ℕ) → IsChild c p → c < len → p ≢ up → c ≢ up → comes_before (new c) (new p) ≡ false
        pairs p c h lt n m = go (cases_eq p hole) (cases_eq c hole)
          where
            go : (p ≡ hole) ⊎ (p ≢ hole) → (c ≡ hole) ⊎ (c ≢ hole) → comes_before (new c) (new p) ≡ false
            go (inl e) (inl d) = absurd (apart c p h (d ∙ sym e))
            go (inl e) (inr d) = rw (e, s.first, s.others c d m) (but.across up c is (subst (IsChild c) e h) lt)
            go (inr e) (inl d) = absurd (n (same_parent hole p up (subst (λ x. IsChild x p) d h) is))
            go (inr e) (inr d) = rw (s.others p e n, s.others c d m) (but.pairs p c h lt e d)

        across : (p c : ℕ) → IsChild up p → IsChild c up → c < len → comes_before (new c) (new p) ≡ false
        across p c above h lt = go (cases_eq c hole)
          where
            p_not_up : p ≢ up
            p_not_up e = apart up p above (sym e)

            p_not_hole : p ≢ hole
            p_not_hole e = let one = child_past up p above in let two = child_past hole up is in omega (arith, one, two, e)

            top : comes_before (key up) (key p) ≡ false
            top = but.pairs p up above (let two = child_past hole up is in omega (arith, two, within)) p_not_hole (λ e. apart hole up is (sym e))

            go : (c ≡ hole) ⊎ (c ≢ hole) → comes_before (new c) (new p) ≡ false
            go (inl d) = rw (d, s.first, s.others p p_not_hole p_not_up) top
            go (inr d) = rw (s.others c d (apart c up h), s.others p p_not_hole p_not_up) (comes_before-through (key p) (key up) (key c) top (above_all c h lt d))

    pub below-up : IsFineBelow new len up
    below-up c h lt = go (cases_eq c hole)
      where
        go : (c ≡ hole) ⊎ (c ≢ hole) → comes_before (new c) (new up) ≡ false
        go (inl d) = rw (d, s.first, s.second) (comes_before-asym (key hole) (key up) before)
        go (inr d) = rw (s.others c d (apart c up h), s.second) (comes_before-through (key hole) (key up) (key c) (comes_before-asym (key hole) (key up) before) (above_all c h lt d))

  -- From the hole a place goes down, to the least of the places below.
  module _ (down : ℕ) (is : IsChild down hole) (within : down < len) (s : IsSwapped key new hole down)
      (least : (c : ℕ) → IsChild c hole → c < len → comes_before (key c) (key down) ≡ false) where
    pub but-down : IsOrderedBut new len down
    but-down = record { pairs = pairs; across = across }
      where
        pairs : (p c : ℕ) → IsChild c p → c < len → p ≢ down → c ≢ down → comes_before (new c) (new p) ≡ false
        pairs p c h lt n m = go (cases_eq p hole) (cases_eq c hole)
          where
            go : (p ≡ hole) ⊎ (p ≢ hole) → (c ≡ hole) ⊎ (c ≢ hole) → comes_before (new c) (new p) ≡ false
            go (inl e) (inl d) = absurd (apart c p h (d ∙ sym e))
            go (inl e) (inr d) = rw (e, s.first, s.others c d m) (least c (subst (IsChild c) e h) lt)
            go (inr e) (inl d) = rw (d, s.first, s.others p e n) (but.across p down (subst (λ x. IsChild x p) d h) is within)
            go (inr e) (inr d) = rw (s.others p e n, s.others c d m) (but.pairs p c h lt e d)

        across : (p c : ℕ) → IsChild down p → IsChild c down → c < len → comes_before (new c) (new p) ≡ false
        across p c above h lt =
            let here : p ≡ hole = same_parent down p hole above is in
            let c_not_hole : c ≢ hole = λ e. let one = child_past down hole is in let two = child_past c down h in omega (arith, one, two, e) in
            rw (here, s.first, s.others c c_not_hole (apart c down h)) (but.pairs down c h lt (apart down hole is) c_not_hole)

-- Where the place is before its parent it is before each place below.
pub below-before : (key : ℕ → Option Timer) (len hole up : ℕ) → IsOrderedBut key len hole → IsChild hole up → comes_before (key hole) (key up) ≡ true → IsFineBelow key len hole
below-before key len hole up but is before c h lt = comes_before-through (key hole) (key up) (key c) (comes_before-asym (key hole) (key up) before) (but.across up c is h lt)

-- The least of the places below is not before the place: none is.
pub fine-below : (key : ℕ → Option Timer) (len hole down : ℕ) → ((c : ℕ) → IsChild c hole → c < len → comes_before (key c) (key down) ≡ false) → comes_before (key down) (key hole) ≡ false → IsFineBelow key len hole
fine-below key len hole down least later c h lt = comes_before-through (key hole) (key down) (key c) later (least c h lt)

-- Each place but the first has one above it.
pub has_parent : (place : ℕ) → 0 < place → (parent : ℕ) × IsChild place parent × (parent < place)
has_parent zero lt = absurd (omega (arith, lt))
has_parent (suc zero) lt = (0, inl (omega arith), omega arith)
has_parent (suc (suc n)) lt = go (cases_eq n 0) (has_parent n)
  where
    go : (n ≡ 0) ⊎ (n ≢ 0) → (0 < n → (parent : ℕ) × IsChild n parent × (parent < n)) → (parent : ℕ) × IsChild (suc (suc n)) parent × (parent < suc (suc n))
    go (inl e) ih = (0, inr (omega (arith, e)), omega arith)
    go (inr e) ih = let p = ih (omega (arith, e)) in (p.0 + 1, lift p.0 p.1, omega (arith, p.2))
      where
        lift : (q : ℕ) → IsChild n q → IsChild (suc (suc n)) (q + 1)
        lift q (inl h) = inl (omega (arith, h))
        lift q (inr h) = inr (omega (arith, h))

-- In an order no place has a timer before that of the first.
pub first-least : (key : ℕ → Option Timer) (len : ℕ) → IsOrdered key len → (place : ℕ) → place < len → comes_before (key place) (key 0) ≡ false
first-least key len ordered place lt = up_to (suc place) place (omega arith) lt
  where
    up_to : (bound place : ℕ) → place < bound → place < len → comes_before (key place) (key 0) ≡ false
    up_to zero place below lt = absurd (omega (arith, below))
    up_to (suc bound) place below lt = go (cases_eq place 0) (up_to bound)
      where
        go : (place ≡ 0) ⊎ (place ≢ 0) → ((p : ℕ) → p < bound → p < len → comes_before (key p) (key 0) ≡ false) → comes_before (key place) (key 0) ≡ false
        go (inl e) ih = rw e (comes_before-self (key 0))
        go (inr n) ih =
            let p = has_parent place (omega (arith, n)) in
            comes_before-through (key 0) (key p.0) (key place) (ih p.0 (omega (arith, p.2, below)) (omega (arith, p.2, lt))) (ordered p.0 place p.1 lt)
