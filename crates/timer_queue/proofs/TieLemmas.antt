-- Heap and places point to each other after two places were swapped, and after an item was added.
use Rattle.std.proofs.Common.{◌≡◌, ◌≢◌, ℕ, ◌<◌, ◌⊎◌, inl, inr, List, [], ◌∷◌, length, set, get_or, Option, None, sym, ap, ◌∙◌, subst, arith}
use Rattle.std.proofs.lemmas.Bool.{cases_eq}
use Rattle.std.proofs.lemmas.List.{get_or-set_same, get_or-set_other, length-set}
use Rattle.std.proofs.lemmas.List.Edits.{swap_is}
use Rattle.std.proofs.lemmas.List.Sorted.{IsPermutation-trans}
use Rattle.std.specs.List.Sorted.{IsPermutation}
use Rattle.timer_queue.specs.declared.timer.Timer.{Timer}
use Rattle.timer_queue.specs.Heap.{IsTied, up_to, item_at, place_of, key_at, heap_swapped, places_swapped}
use Rattle.timer_queue.proofs.SiftLemmas.{IsSwapped}

module _ (heap : List ℕ) (a b : ℕ) (a_in : a < length heap) (b_in : b < length heap) (differ : a ≢ b) where
  pub item-first : item_at (heap_swapped heap a b) a ≡ item_at heap b
  item-first = get_or-set_other (set heap a (item_at heap b)) b a (item_at heap a) 0 differ ∙ get_or-set_same heap a (item_at heap b) 0 a_in

  pub item-second : item_at (heap_swapped heap a b) b ≡ item_at heap a
  item-second = get_or-set_same (set heap a (item_at heap b)) b (item_at heap a) 0 (omega (arith, b_in, length-set heap a (item_at heap b)))

  pub item-other : (i : ℕ) → i ≢ a → i ≢ b → item_at (heap_swapped heap a b) i ≡ item_at heap i
  item-other i n m = get_or-set_other (set heap a (item_at heap b)) b i (item_at heap a) 0 m ∙ get_or-set_other heap a i (item_at heap b) 0 n

  pub keys-swapped : (timers : List (Option Timer)) → IsSwapped (key_at timers heap) (key_at timers (heap_swapped heap a b)) a b
  keys-swapped timers =
      record {
        first = ap (λ i. get_or timers i None) item-first;
        second = ap (λ i. get_or timers i None) item-second;
        others = λ i n m. ap (λ x. get_or timers x None) (item-other i n m);
      }

module _ (heap places : List ℕ) (count a b : ℕ) (a_in : a < count) (b_in : b < count) (differ : a ≢ b) (t : IsTied heap places count) where
  pub apart-items : item_at heap a ≢ item_at heap b
  apart-items e = differ (sym (t.placed a a_in) ∙ ap (place_of places) e ∙ t.placed b b_in)

  pub place-first : place_of (places_swapped heap places a b) (item_at heap a) ≡ b
  place-first = get_or-set_same (set places (item_at heap b) a) (item_at heap a) b 0 (omega (arith, t.within a a_in, t.as_many_places, length-set places (item_at heap b) a))

  pub place-second : place_of (places_swapped heap places a b) (item_at heap b) ≡ a
  place-second =
      get_or-set_other (set places (item_at heap b) a) (item_at heap a) (item_at heap b) b 0 (λ e. apart-items (sym e))
      ∙ get_or-set_same places (item_at heap b) a 0 (omega (arith, t.within b b_in, t.as_many_places))

  pub place-other : (i : ℕ) → i ≢ item_at heap a → i ≢ item_at heap b → place_of (places_swapped heap places a b) i ≡ place_of places i
  place-other i n m = get_or-set_other (set places (item_at heap b) a) (item_at heap a) i b 0 n ∙ get_or-set_other places (item_at heap b) i a 0 m

  first : item_at (heap_swapped heap a b) a ≡ item_at heap b
  first = item-first heap a b (omega (arith, a_in, t.as_many)) (omega (arith, b_in, t.as_many)) differ

  second : item_at (heap_swapped heap a b) b ≡ item_at heap a
  second = item-second heap a b (omega (arith, a_in, t.as_many)) (omega (arith, b_in, t.as_many)) differ

  other : (i : ℕ) → i ≢ a → i ≢ b → item_at (heap_swapped heap a b) i ≡ item_at heap i
  other = item-other heap a b (omega (arith, a_in, t.as_many)) (omega (arith, b_in, t.as_many)) differ

  within : (i : ℕ) → i < count → item_at (heap_swapped heap a b) i < count
  within i lt = go (cases_eq i a) (cases_eq i b)
    where
      go : (i ≡ a) ⊎ (i ≢ a) → (i ≡ b) ⊎ (i ≢ b) → item_at (heap_swapped heap a b) i < count
      go (inl e) d = rw (e, first) (t.within b b_in)
      go (inr n) (inl e) = rw (e, second) (t.within a a_in)
      go (inr n) (inr m) = rw (other i n m) (t.within i lt)

  placed : (i : ℕ) → i < count → place_of (places_swapped heap places a b) (item_at (heap_swapped heap a b) i) ≡ i
  placed i lt = go (cases_eq i a) (cases_eq i b)
    where
      go : (i ≡ a) ⊎ (i ≢ a) → (i ≡ b) ⊎ (i ≢ b) → place_of (places_swapped heap places a b) (item_at (heap_swapped heap a b) i) ≡ i
      go (inl e) d = ap (λ x. place_of (places_swapped heap places a b) (item_at (heap_swapped heap a b) x)) e ∙ ap (place_of (places_swapped heap places a b)) first ∙ place-second ∙ sym e
      go (inr n) (inl e) = ap (λ x. place_of (places_swapped heap places a b) (item_at (heap_swapped heap a b) x)) e ∙ ap (place_of (places_swapped heap places a b)) second ∙ place-first ∙ sym e
      go (inr n) (inr m) =
          ap (place_of (places_swapped heap places a b)) (other i n m)
          ∙ place-other (item_at heap i) (λ e. n (sym (t.placed i lt) ∙ ap (place_of places) e ∙ t.placed a a_in)) (λ e. m (sym (t.placed i lt) ∙ ap (place_of places) e ∙ t.placed b b_in))
          ∙ t.placed i lt

  listed : (i : ℕ) → i < count → place_of (places_swapped heap places a b) i < count
  listed i lt = go (cases_eq i (item_at heap a)) (cases_eq i (item_at heap b))
    where
      go : (i ≡ item_at heap a) ⊎ (i ≢ item_at heap a) → (i ≡ item_at heap b) ⊎ (i ≢ item_at heap b) → place_of (places_swapped heap places a b) i < count
      go (inl e) d = subst (λ x. x < count) (sym (ap (place_of (places_swapped heap places a b)) e ∙ place-first)) b_in
      go (inr n) (inl e) = subst (λ x. x < count) (sym (ap (place_of (places_swapped heap places a b)) e ∙ place-second)) a_in
      go (inr n) (inr m) = subst (λ x. x < count) (sym (place-other i n m)) (t.listed i lt)

  found : (i : ℕ) → i < count → item_at (heap_swapped heap a b) (place_of (places_swapped heap places a b) i) ≡ i
  found i lt = go (cases_eq i (item_at heap a)) (cases_eq i (item_at heap b))
    where
      go : (i ≡ item_at heap a) ⊎ (i ≢ item_at heap a) → (i ≡ item_at heap b) ⊎ (i ≢ item_at heap b) → item_at (heap_swapped heap a b) (place_of (places_swapped heap places a b) i) ≡ i
      go (inl e) d = ap (item_at (heap_swapped heap a b)) (ap (place_of (places_swapped heap places a b)) e ∙ place-first) ∙ second ∙ sym e
      go (inr n) (inl e) = ap (item_at (heap_swapped heap a b)) (ap (place_of (places_swapped heap places a b)) e ∙ place-second) ∙ first ∙ sym e
      go (inr n) (inr m) =
          ap (item_at (heap_swapped heap a b)) (place-other i n m)
          ∙ other (place_of places i) (λ e. n (sym (t.found i lt) ∙ ap (item_at heap) e)) (λ e. m (sym (t.found i lt) ∙ ap (item_at heap) e))
          ∙ t.found i lt

  exchanged : IsPermutation heap (heap_swapped heap a b)
  exchanged =
      record {
        moves = (a, b) ∷ [];
        below = (omega (arith, a_in, t.as_many), omega (arith, b_in, t.as_many), tt);
        is = swap_is heap a b 0 (omega (arith, a_in, t.as_many)) (omega (arith, b_in, t.as_many));
      }

  pub tied-swapped : IsTied (heap_swapped heap a b) (places_swapped heap places a b) count
  tied-swapped =
      record {
        as_many = length-set (set heap a (item_at heap b)) b (item_at heap a) ∙ length-set heap a (item_at heap b) ∙ t.as_many;
        as_many_places = length-set (set places (item_at heap b) a) (item_at heap a) b ∙ length-set places (item_at heap b) a ∙ t.as_many_places;
        within = within;
        placed = placed;
        listed = listed;
        found = found;
        shuffled = IsPermutation-trans (up_to count) heap (heap_swapped heap a b) t.shuffled exchanged;
      }
