-- The heap while an item sinks: its place is a hole, and it stands where it would if it were put there.
use Rattle.std.proofs.Common.{◌≡◌, ◌≢◌, ℕ, ◌<◌, ◌⊎◌, inl, inr, List, length, set, get_or, Option, None, sym, ap, ◌∙◌, subst, arith}
use Rattle.std.proofs.lemmas.Bool.{cases_eq}
use Rattle.std.proofs.lemmas.List.{get_or-set_same, get_or-set_other, length-set, set-set, set_comm}
use Rattle.timer_queue.specs.declared.timer.Timer.{Timer}
use Rattle.timer_queue.specs.Heap.{IsTied, item_at, key_at, heap_swapped, heap_with, places_swapped, places_with}
use Rattle.timer_queue.proofs.TieLemmas.{apart-items}

module _ (heap places : List ℕ) (count at item : ℕ) (at_in : at < count)
    (t : IsTied (heap_with heap at item) (places_with places at item) count) where
  pub as-many : length heap ≡ count
  as-many = sym (length-set heap at item) ∙ t.as_many

  pub as-many-places : length places ≡ count
  as-many-places = sym (length-set places item at) ∙ t.as_many_places

  here : item_at (heap_with heap at item) at ≡ item
  here = get_or-set_same heap at item 0 (omega (arith, at_in, as-many))

  elsewhere : (place : ℕ) → place ≢ at → item_at (heap_with heap at item) place ≡ item_at heap place
  elsewhere place apart = get_or-set_other heap at place item 0 apart

  pub item-in : item < count
  item-in = subst (λ i. i < count) here (t.within at at_in)

  pub all-within : item_at heap at < count → (place : ℕ) → place < count → item_at heap place < count
  all-within hole place lt = go (cases_eq place at)
    where
      go : (place ≡ at) ⊎ (place ≢ at) → item_at heap place < count
      go (inl e) = subst (λ p. item_at heap p < count) (sym e) hole
      go (inr apart) = subst (λ i. i < count) (elsewhere place apart) (t.within place lt)

  pub key-elsewhere : (timers : List (Option Timer)) (place : ℕ) → place ≢ at
      → key_at timers (heap_with heap at item) place ≡ key_at timers heap place
  key-elsewhere timers place apart = ap (λ i. get_or timers i None) (elsewhere place apart)

  -- the item of another place is put into the hole, and that place is the hole
  module _ (child : ℕ) (child_in : child < count) (differ : at ≢ child) where
    abbrev other : ℕ
    other = item_at heap child

    there : item_at (heap_with heap at item) child ≡ other
    there = elsewhere child (λ e. differ (sym e))

    pub heap-moved : heap_with (set heap at other) child item ≡ heap_swapped (heap_with heap at item) at child
    heap-moved =
        sym (ap (λ i. set (set (heap_with heap at item) at i) child (item_at (heap_with heap at item) at)) there
        ∙ (ap (λ i. set (set (heap_with heap at item) at other) child i) here
        ∙ ap (λ l. set l child item) (set-set heap at item other)))

    apart : item ≢ other
    apart e = apart-items (heap_with heap at item) (places_with places at item) count at child at_in child_in differ t
        (here ∙ (e ∙ sym there))

    pub places-moved : places_with (set places other at) child item
        ≡ places_swapped (heap_with heap at item) (places_with places at item) at child
    places-moved =
        sym (ap (λ i. set (set (set places item at) i at) (item_at (heap_with heap at item) at) child) there
        ∙ (ap (λ i. set (set (set places item at) other at) i child) here
        ∙ (ap (λ l. set l item child) (set_comm places item other at at apart)
        ∙ set-set (set places other at) item at child)))
