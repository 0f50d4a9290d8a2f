-- The walk gives each item that is due once: what any weight sums to over it is what it sums to over the items.
use Rattle.std.proofs.Common.{◌≡◌, ◌≢◌, ℕ, zero, suc, ◌+◌, ◌<◌, ◌≤◌, ◌⊎◌, inl, inr, List, [], ◌∷◌, length, map, get_or, remove, Bool, true, false, cond, nat_eq, nat_lt, ◌&&◌, Option, Some, None, refl, sym, ap, ◌∙◌, arith, rules, tests}
use Rattle.std.proofs.lemmas.Bool.{cases_eq, cases_lt}
use Rattle.std.proofs.lemmas.List.Sums.{sum_by-cons}
use Rattle.std.proofs.lemmas.List.Sorted.{IsPermutation-refl, IsPermutation-sym, IsPermutation-trans, IsPermutation-append, IsPermutation-remove, sum_by_popped, sum_by-IsPermutation}
use Rattle.std.specs.List.{sum_by}
use Rattle.std.specs.List.Sorted.{IsPermutation}
use Rattle.timer_queue.specs.declared.timer.Timer.{Timer}
use Rattle.timer_queue.specs.Order.{comes_before, timer_at, is_due}
use Rattle.timer_queue.specs.Heap.{IsChild, IsSound, item_at, key_at, up_to}
use Rattle.timer_queue.specs.Due.{due_items, is_due_place, downwards}
use Rattle.timer_queue.proofs.CallerLemmas.{sum_by-map, sum_by-filter}
use Rattle.timer_queue.proofs.SiftLemmas.{child_past}
use Rattle.timer_queue.proofs.TreeLemmas.{total, walk-total}
use Rattle.timer_queue.proofs.WalkLemmas.{due-within}

-- Lists that every weight sums to the same over have the same elements.
count_at : ℕ → ℕ → ℕ
count_at x y = cond (nat_eq x y) 1 0

count_at-same : (x : ℕ) → count_at x x ≡ 1
unfolding count_at
count_at-same x = let e : nat_eq x x ≡ true = grind (arith, tests) in ap (λ b. cond b 1 0) e

find-counted : (x : ℕ) (ys : List ℕ) → 0 < sum_by (count_at x) ys → (i : ℕ) × (i < length ys) × (x ≡ get_or ys i x)
unfolding count_at
find-counted x [] some = absurd (omega (arith, some))
find-counted x (y ∷ ys) some = go (cases_eq x y) (find-counted x ys)
  where
    go : (x ≡ y) ⊎ (x ≢ y) → (0 < sum_by (count_at x) ys → (i : ℕ) × (i < length ys) × (x ≡ get_or ys i x)) → (i : ℕ) × (i < length (y ∷ ys)) × (x ≡ get_or (y ∷ ys) i x)
    go (inl e) ih = (0, omega arith, e)
    go (inr n) ih =
        let none : count_at x y ≡ 0 = let d : nat_eq x y ≡ false = grind (arith, tests, n) in ap (λ (b : Bool). cond b 1 0) d in
        let more = sum_by-cons (count_at x) y ys in
        let rest = ih (omega (arith, some, more, none)) in
        (suc rest.0, omega (arith, rest.1), rest.2)

one_each : ℕ → ℕ
one_each y = 1

pub permutation-by-sums : (xs ys : List ℕ) → ((f : ℕ → ℕ) → sum_by f xs ≡ sum_by f ys) → IsPermutation xs ys
unfolding one_each
permutation-by-sums [] [] same = IsPermutation-refl []
permutation-by-sums [] (y ∷ ys) same = let none = same one_each in let more = sum_by-cons one_each y ys in absurd (omega (arith, none, more))
permutation-by-sums (x ∷ xs) ys same = go found (permutation-by-sums xs)
  where
    found : (i : ℕ) × (i < length ys) × (x ≡ get_or ys i x)
    found =
        let here = sum_by-cons (count_at x) x xs in
        let own = count_at-same x in
        let all = same (count_at x) in
        find-counted x ys (omega (arith, here, own, all))

    go : (i : ℕ) × (i < length ys) × (x ≡ get_or ys i x) → ((zs : List ℕ) → ((f : ℕ → ℕ) → sum_by f xs ≡ sum_by f zs) → IsPermutation xs zs) → IsPermutation (x ∷ xs) ys
    go at ih =
        let taken : IsPermutation ys (x ∷ remove ys at.0) = IsPermutation-remove ys at.0 x at.1 at.2 in
        let rest : (f : ℕ → ℕ) → sum_by f xs ≡ sum_by f (remove ys at.0) = λ f.
        (let one = sum_by-cons f x xs in
        let two = sum_by_popped f x ys (remove ys at.0) taken in
        let all = same f in
        omega (arith, one, two, all)) in
        IsPermutation-trans (x ∷ xs) (x ∷ remove ys at.0) ys
        (IsPermutation-append (x ∷ []) (x ∷ []) xs (remove ys at.0) (IsPermutation-refl (x ∷ [])) (ih (remove ys at.0) rest))
        (IsPermutation-sym ys (x ∷ remove ys at.0) taken)

-- A total, the first apart.
total-first : (g : ℕ → ℕ) (n : ℕ) → total g (suc n) ≡ g 0 + total (λ k. g (suc k)) n
total-first g zero = omega arith
total-first g (suc n) = let ih = total-first g n in omega (arith, ih)

total-list : (h : ℕ → ℕ) (xs : List ℕ) → total (λ k. h (get_or xs k 0)) (length xs) ≡ sum_by h xs
total-list h [] = refl
total-list h (x ∷ xs) = total-first (λ k. h (get_or (x ∷ xs) k 0)) (length xs) ∙ ap (λ n. h x + n) (total-list h xs) ∙ sym (sum_by-cons h x xs)

total-same : (g h : ℕ → ℕ) (n : ℕ) → ((k : ℕ) → k < n → g k ≡ h k) → total g n ≡ total h n
total-same g h zero same = refl
total-same g h (suc n) same =
    let low = total-same g h n (λ k lt. same k (omega (arith, lt))) in
    let last = same n (omega arith) in
    omega (arith, low, last)

-- Of one that is not due no one that isn't before it is due.
not-due-later : (moment : ℕ) (a b : Option Timer) → comes_before b a ≡ false → is_due moment a ≡ false → is_due moment b ≡ false
not-due-later moment a None later none = refl
not-due-later moment None (Some b) later none = absurd (search (later, rules))
not-due-later moment (Some a) (Some b) later none = grind (arith, tests, later, none)

module _ (moment : ℕ) (heap places : List ℕ) (timers : List (Option Timer)) (sound : IsSound heap places timers) where
  closed : (c p : ℕ) → IsChild c p → is_due_place moment heap timers p ≡ false → is_due_place moment heap timers c ≡ false
  closed c p h none = go (cases_lt c (length timers))
    where
      go : (c < length timers) ⊎ (length timers ≤ c) → is_due_place moment heap timers c ≡ false
      go (inl lt) =
          let past = child_past c p h in
          let there : nat_lt p (length heap) ≡ true = let few = sound.tied.as_many in grind (arith, tests, past, lt, few) in
          let above : is_due moment (key_at timers heap p) ≡ false = sym (ap (λ b. b && is_due moment (key_at timers heap p)) there) ∙ none in
          let below : is_due moment (key_at timers heap c) ≡ false = not-due-later moment (key_at timers heap p) (key_at timers heap c) (sound.ordered p c h lt) above in
          ap (λ b. nat_lt c (length heap) && b) below ∙ false-last (nat_lt c (length heap))
        where
          false-last : (b : Bool) → (b && false) ≡ false
          false-last true = refl
          false-last false = refl
      go (inr le) =
          let out : nat_lt c (length heap) ≡ false = let few = sound.tied.as_many in grind (arith, tests, le, few) in
          ap (λ b. b && is_due moment (key_at timers heap c)) out

  -- What a weight of items sums to over the walk.
  walk-sum : (f : ℕ → ℕ) → sum_by f (due_items moment timers) ≡ sum_by f (map (item_at heap) (downwards (is_due_place moment heap timers) (length heap) 0))
  walk-sum f =
      let weight : ℕ → ℕ = λ x. cond (is_due moment (timer_at timers x)) (f x) 0 in
      let over : sum_by f (due_items moment timers) ≡ sum_by weight (up_to (length timers)) = sum_by-filter f (λ x. is_due moment (timer_at timers x)) (up_to (length timers)) in
      let shuffled : sum_by weight heap ≡ sum_by weight (up_to (length timers)) = sum_by-IsPermutation weight (up_to (length timers)) heap sound.tied.shuffled in
      let listed : total (λ k. weight (get_or heap k 0)) (length heap) ≡ sum_by weight heap = total-list weight heap in
      let same = total-same (λ p. cond (is_due_place moment heap timers p) (f (item_at heap p)) 0) (λ k. weight (get_or heap k 0)) (length heap) there in
      let walked = walk-total (is_due_place moment heap timers) (length heap) (due-within moment heap timers) closed (λ p. f (item_at heap p)) in
      let mapped = sum_by-map f (item_at heap) (downwards (is_due_place moment heap timers) (length heap) 0) in
      over ∙ sym shuffled ∙ sym listed ∙ sym same ∙ sym walked ∙ sym mapped
    where
      there : (k : ℕ) → k < length heap → cond (is_due_place moment heap timers k) (f (item_at heap k)) 0 ≡ cond (is_due moment (timer_at timers (item_at heap k))) (f (item_at heap k)) 0
      there k lt =
          let in_heap : nat_lt k (length heap) ≡ true = grind (arith, tests, lt) in
          ap (λ b. cond (b && is_due moment (key_at timers heap k)) (f (item_at heap k)) 0) in_heap

  -- The walk gives each item that is due once.
  pub walk-due : IsPermutation (due_items moment timers) (map (item_at heap) (downwards (is_due_place moment heap timers) (length heap) 0))
  walk-due = permutation-by-sums (due_items moment timers) (map (item_at heap) (downwards (is_due_place moment heap timers) (length heap) 0)) walk-sum
