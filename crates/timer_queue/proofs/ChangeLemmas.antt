-- The heap after the timer of one item was written, after an item was added, and what its first item is.
use Rattle.std.proofs.Common.{◌≡◌, ◌≢◌, ℕ, zero, suc, ◌+◌, ◌<◌, ◌≤◌, ◌⊎◌, inl, inr, List, [], ◌∷◌, ◌++◌, length, set, get_or, false, Option, Some, None, refl, sym, ap, ◌∙◌, subst, arith, rules}
use Rattle.std.proofs.lemmas.Bool.{cases_eq, cases_lt}
use Rattle.std.proofs.lemmas.List.{get_or-set_other, get_or_past}
use Rattle.std.proofs.lemmas.List.Sorted.{IsPermutation-append_left}
use Rattle.std.proofs.Math.Numerals.{add-one}
use Rattle.timer_queue.specs.declared.timer.Timer.{Timer}
use Rattle.timer_queue.specs.Order.{comes_before, is_before, timer_at}
use Rattle.timer_queue.specs.Heap.{IsTied, up_to, IsSound, IsChild, IsOrdered, IsOrderedBut, item_at, place_of, key_at}
use Rattle.timer_queue.specs.Queue.{HasNoTimer, IsFirst}
use Rattle.timer_queue.proofs.CallerLemmas.{timer-push}
use Rattle.timer_queue.proofs.OrderLemmas.{comes_before-through}
use Rattle.timer_queue.proofs.SiftLemmas.{child_past, first-least}

-- The order but at the place of an item whose timer was written.
module _ (heap places : List ℕ) (timers : List (Option Timer)) (item : ℕ) (timer : Option Timer) (sound : IsSound heap places timers) (within : item < length timers) where
  key-kept : (i : ℕ) → i < length timers → i ≢ place_of places item → key_at (set timers item timer) heap i ≡ key_at timers heap i
  key-kept i lt n = get_or-set_other timers item (item_at heap i) timer None (λ e. n (sym (sound.tied.placed i lt) ∙ ap (place_of places) e))

  pub but-set : IsOrderedBut (key_at (set timers item timer) heap) (length timers) (place_of places item)
  but-set = record { pairs = pairs; across = across }
    where
      pairs : (p c : ℕ) → IsChild c p → c < length timers → p ≢ place_of places item → c ≢ place_of places item
          → comes_before (key_at (set timers item timer) heap c) (key_at (set timers item timer) heap p) ≡ false
      pairs p c h lt n m =
          let below = child_past c p h in
          rw (key-kept p (omega (arith, below, lt)) n, key-kept c lt m) (sound.ordered p c h lt)

      across : (p c : ℕ) → IsChild (place_of places item) p → IsChild c (place_of places item) → c < length timers
          → comes_before (key_at (set timers item timer) heap c) (key_at (set timers item timer) heap p) ≡ false
      across p c above h lt =
          let one = child_past (place_of places item) p above in
          let two = child_past c (place_of places item) h in
          let hole_in : place_of places item < length timers = sound.tied.listed item within in
          rw (key-kept p (omega (arith, one, hole_in)) (λ e. omega (arith, one, e)), key-kept c lt (λ e. omega (arith, two, e)))
          (through p c above h lt)
        where
          through : (p c : ℕ) → IsChild (place_of places item) p → IsChild c (place_of places item) → c < length timers → comes_before (key_at timers heap c) (key_at timers heap p) ≡ false
          through p c above h lt = comes_before-through (key_at timers heap p) (key_at timers heap (place_of places item)) (key_at timers heap c) (sound.ordered p (place_of places item) above (sound.tied.listed item within)) (sound.ordered (place_of places item) c h lt)

-- The last element of a list that grew, and the others.
at-last : {X : Type 0} (xs : List X) (x d : X) → get_or (xs ++ x ∷ []) (length xs) d ≡ x
at-last [] x d = refl
at-last (y ∷ ys) x d = at-last ys x d

at-others : {X : Type 0} (xs : List X) (x d : X) (i : ℕ) → i < length xs → get_or (xs ++ x ∷ []) i d ≡ get_or xs i d
at-others [] x d i lt = absurd (omega (arith, lt))
at-others (y ∷ ys) x d zero lt = refl
at-others (y ∷ ys) x d (suc i) lt = at-others ys x d i (omega (arith, lt))

length-push : {X : Type 0} (xs : List X) (x : X) → length (xs ++ x ∷ []) ≡ length xs + 1
length-push [] x = refl
length-push (y ∷ ys) x = omega (arith, length-push ys x)

pushed-last : {X : Type 0} (xs : List X) (n : ℕ) (x d : X) → length xs ≡ n → get_or (xs ++ x ∷ []) n d ≡ x
pushed-last xs n x d e = ap (λ k. get_or (xs ++ x ∷ []) k d) (sym e) ∙ at-last xs x d

module _ (heap places : List ℕ) (timers : List (Option Timer)) (sound : IsSound heap places timers) where
  last-item : item_at (heap ++ length timers ∷ []) (length timers) ≡ length timers
  last-item = pushed-last heap (length timers) (length timers) 0 sound.tied.as_many

  last-place : place_of (places ++ length timers ∷ []) (length timers) ≡ length timers
  last-place = pushed-last places (length timers) (length timers) 0 sound.tied.as_many_places

  other-item : (i : ℕ) → i < length timers → item_at (heap ++ length timers ∷ []) i ≡ item_at heap i
  other-item i lt = at-others heap (length timers) 0 i (omega (arith, lt, sound.tied.as_many))

  other-place : (i : ℕ) → i < length timers → place_of (places ++ length timers ∷ []) i ≡ place_of places i
  other-place i lt = at-others places (length timers) 0 i (omega (arith, lt, sound.tied.as_many_places))

  tied-push : IsTied (heap ++ length timers ∷ []) (places ++ length timers ∷ []) (length timers + 1)
  tied-push =
      record {
        as_many = length-push heap (length timers) ∙ ap (λ n. n + 1) sound.tied.as_many;
        as_many_places = length-push places (length timers) ∙ ap (λ n. n + 1) sound.tied.as_many_places;
        within = within;
        placed = placed;
        listed = listed;
        found = found;
        shuffled = rw (add-one (length timers)) (IsPermutation-append_left (length timers ∷ []) (up_to (length timers)) heap sound.tied.shuffled);
      }
    where
      within : (i : ℕ) → i < length timers + 1 → item_at (heap ++ length timers ∷ []) i < length timers + 1
      within i lt = go (cases_eq i (length timers))
        where
          go : (i ≡ length timers) ⊎ (i ≢ length timers) → item_at (heap ++ length timers ∷ []) i < length timers + 1
          go (inl e) = rw (e, last-item) (omega arith)
          go (inr n) =
              let low : i < length timers = omega (arith, lt, n) in
              let was = sound.tied.within i low in
              rw (other-item i low) (omega (arith, was))

      placed : (i : ℕ) → i < length timers + 1 → place_of (places ++ length timers ∷ []) (item_at (heap ++ length timers ∷ []) i) ≡ i
      placed i lt = go (cases_eq i (length timers))
        where
          go : (i ≡ length timers) ⊎ (i ≢ length timers) → place_of (places ++ length timers ∷ []) (item_at (heap ++ length timers ∷ []) i) ≡ i
          go (inl e) = ap (λ x. place_of (places ++ length timers ∷ []) (item_at (heap ++ length timers ∷ []) x)) e ∙ ap (place_of (places ++ length timers ∷ [])) last-item ∙ last-place ∙ sym e
          go (inr n) =
              let low : i < length timers = omega (arith, lt, n) in
              ap (place_of (places ++ length timers ∷ [])) (other-item i low) ∙ other-place (item_at heap i) (sound.tied.within i low) ∙ sound.tied.placed i low

      listed : (i : ℕ) → i < length timers + 1 → place_of (places ++ length timers ∷ []) i < length timers + 1
      listed i lt = go (cases_eq i (length timers))
        where
          go : (i ≡ length timers) ⊎ (i ≢ length timers) → place_of (places ++ length timers ∷ []) i < length timers + 1
          go (inl e) = rw (e, last-place) (omega arith)
          go (inr n) =
              let low : i < length timers = omega (arith, lt, n) in
              let was = sound.tied.listed i low in
              rw (other-place i low) (omega (arith, was))

      found : (i : ℕ) → i < length timers + 1 → item_at (heap ++ length timers ∷ []) (place_of (places ++ length timers ∷ []) i) ≡ i
      found i lt = go (cases_eq i (length timers))
        where
          go : (i ≡ length timers) ⊎ (i ≢ length timers) → item_at (heap ++ length timers ∷ []) (place_of (places ++ length timers ∷ []) i) ≡ i
          go (inl e) = ap (λ x. item_at (heap ++ length timers ∷ []) (place_of (places ++ length timers ∷ []) x)) e ∙ ap (item_at (heap ++ length timers ∷ [])) last-place ∙ last-item ∙ sym e
          go (inr n) =
              let low : i < length timers = omega (arith, lt, n) in
              ap (item_at (heap ++ length timers ∷ [])) (other-place i low) ∙ other-item (place_of places i) (sound.tied.listed i low) ∙ sound.tied.found i low

  ordered-push : IsOrdered (key_at (timers ++ None ∷ []) (heap ++ length timers ∷ [])) (length timers + 1)
  ordered-push p c h lt = go (cases_eq c (length timers))
    where
      go : (c ≡ length timers) ⊎ (c ≢ length timers) → comes_before (key_at (timers ++ None ∷ []) (heap ++ length timers ∷ []) c) (key_at (timers ++ None ∷ []) (heap ++ length timers ∷ []) p) ≡ false
      go (inl e) =
          let last : key_at (timers ++ None ∷ []) (heap ++ length timers ∷ []) c ≡ None = ap (λ x. key_at (timers ++ None ∷ []) (heap ++ length timers ∷ []) x) e ∙ ap (timer_at (timers ++ None ∷ [])) last-item ∙ at-last timers None None in
          rw last refl
      go (inr n) =
          let past = child_past c p h in
          let low : c < length timers = omega (arith, lt, n) in
          let one : key_at (timers ++ None ∷ []) (heap ++ length timers ∷ []) c ≡ key_at timers heap c = ap (timer_at (timers ++ None ∷ [])) (other-item c low) ∙ timer-push timers (item_at heap c) in
          let two : key_at (timers ++ None ∷ []) (heap ++ length timers ∷ []) p ≡ key_at timers heap p = ap (timer_at (timers ++ None ∷ [])) (other-item p (omega (arith, past, low))) ∙ timer-push timers (item_at heap p) in
          rw (one, two) (sound.ordered p c h low)

  pub sound-push : IsSound (heap ++ length timers ∷ []) (places ++ length timers ∷ []) (timers ++ None ∷ [])
  sound-push = record { tied = rw (length-push timers None) tied-push; ordered = rw (length-push timers None) ordered-push }

-- What is not before none is none.
later-none : (t : Option Timer) → comes_before t None ≡ false → t ≡ None
later-none None h = refl
later-none (Some t) h = absurd (search (h, rules))

module _ (heap : List ℕ) (timers : List (Option Timer)) (ordered : IsOrdered (key_at timers heap) (length timers))
    (listed : (item : ℕ) → item < length timers → (place : ℕ) × (place < length timers) × (item_at heap place ≡ item)) where
  -- No timer is before that of the first of the heap.
  least-first : (item : ℕ) → item < length timers → comes_before (timer_at timers item) (key_at timers heap 0) ≡ false
  least-first item lt =
      let p = listed item lt in
      subst (λ x. comes_before (timer_at timers x) (key_at timers heap 0) ≡ false) p.2 (first-least (key_at timers heap) (length timers) ordered p.0 p.1)

  -- The first of the heap has no timer: none has.
  pub none-first : timer_at timers (item_at heap 0) ≡ None → HasNoTimer timers
  none-first none i = go (cases_lt i (length timers))
    where
      go : (i < length timers) ⊎ (length timers ≤ i) → timer_at timers i ≡ None
      go (inl lt) = later-none (timer_at timers i) (subst (λ x. comes_before (timer_at timers i) x ≡ false) none (least-first i lt))
      go (inr past) = get_or_past timers i None past

  -- The first of the heap has a timer: it is the least.
  pub some-first : (t : Timer) → timer_at timers (item_at heap 0) ≡ Some t → IsFirst timers (item_at heap 0)
  some-first t has = record { timer = t; has = has; least = least }
    where
      least : (other : ℕ) (u : Timer) → timer_at timers other ≡ Some u → is_before u t ≡ false
      least other u at = go (cases_lt other (length timers))
        where
          go : (other < length timers) ⊎ (length timers ≤ other) → is_before u t ≡ false
          go (inl lt) = rw (at, has) at (least-first other lt)
          go (inr past) = absurd (search (sym at ∙ get_or_past timers other None past, rules))
