-- The heap of items: its order, and how it and the places of the items point to each other.
use Rattle.std.specs.Prelude.{◌≡◌, ◌≢◌, ℕ, ◌+◌, ◌*◌, ◌<◌, ◌⊎◌, ◌++◌, zero, suc, false, List, [], ◌∷◌, Option, length, slice_index, slice_set}
use Rattle.std.specs.List.Sorted.{IsPermutation}
use Rattle.timer_queue.specs.declared.timer.Timer.{Timer}
use Rattle.timer_queue.specs.Order.{comes_before, timer_at}

-- The item at a place of the heap (own).
abbrev pub item_at : List ℕ → ℕ → ℕ
item_at heap place = slice_index heap place

-- The place of an item in the heap (own).
abbrev pub place_of : List ℕ → ℕ → ℕ
place_of places item = slice_index places item

-- The timer of the item at a place of the heap (own).
abbrev pub key_at : List (Option Timer) → List ℕ → ℕ → Option Timer
key_at timers heap place = timer_at timers (item_at heap place)

-- A place hangs below another in the tree that the heap is (own).
abbrev pub IsChild : ℕ → ℕ → Type 0
IsChild child parent = (child ≡ 2 * parent + 1) ⊎ (child ≡ 2 * parent + 2)

-- No place has a timer before its parent's (own).
abbrev pub IsOrdered : (ℕ → Option Timer) → ℕ → Type 0
IsOrdered key len = (parent child : ℕ) → IsChild child parent → child < len → comes_before (key child) (key parent) ≡ false

-- So but for what is between one place and its neighbours, and across that place the order holds (own).
pub record IsOrderedBut (key : ℕ → Option Timer) (len hole : ℕ) : Type 0 where
  pub pairs : (parent child : ℕ) → IsChild child parent → child < len → parent ≢ hole → child ≢ hole → comes_before (key child) (key parent) ≡ false
  pub across : (parent child : ℕ) → IsChild hole parent → IsChild child hole → child < len → comes_before (key child) (key parent) ≡ false

-- No child of a place has a timer before its own (own).
abbrev pub IsFineBelow : (ℕ → Option Timer) → ℕ → ℕ → Type 0
IsFineBelow key len place = (child : ℕ) → IsChild child place → child < len → comes_before (key child) (key place) ≡ false

-- A place has no timer before its parent's (own).
abbrev pub IsFineAbove : (ℕ → Option Timer) → ℕ → Type 0
IsFineAbove key place = (parent : ℕ) → IsChild place parent → comes_before (key place) (key parent) ≡ false

-- The numbers below one, rising (own).
abbrev pub up_to : ℕ → List ℕ
up_to zero = []
up_to (suc n) = up_to n ++ n ∷ []

-- Heap and places have each item once, and point to each other (own).
pub record IsTied (heap places : List ℕ) (count : ℕ) : Type 0 where
  pub as_many : length heap ≡ count
  pub as_many_places : length places ≡ count
  pub within : (place : ℕ) → place < count → item_at heap place < count
  pub placed : (place : ℕ) → place < count → place_of places (item_at heap place) ≡ place
  pub listed : (item : ℕ) → item < count → place_of places item < count
  pub found : (item : ℕ) → item < count → item_at heap (place_of places item) ≡ item
  pub shuffled : IsPermutation (up_to count) heap

-- The items at two places of the heap, each in the other's place (own).
abbrev pub heap_swapped : List ℕ → ℕ → ℕ → List ℕ
heap_swapped heap a b = slice_set (slice_set heap a (item_at heap b)) b (item_at heap a)

-- The places after that (own).
abbrev pub places_swapped : List ℕ → List ℕ → ℕ → ℕ → List ℕ
places_swapped heap places a b = slice_set (slice_set places (item_at heap b) a) (item_at heap a) b

-- The heap with an item put at a place (own).
abbrev pub heap_with : List ℕ → ℕ → ℕ → List ℕ
heap_with heap place item = slice_set heap place item

-- The places after that (own).
abbrev pub places_with : List ℕ → ℕ → ℕ → List ℕ
places_with places place item = slice_set places item place

-- What a queue keeps: every item is in the heap, also one without a timer, which comes after all that
-- have one (own).
pub record IsSound (heap places : List ℕ) (timers : List (Option Timer)) : Type 0 where
  pub tied : IsTied heap places (length timers)
  pub ordered : IsOrdered (key_at timers heap) (length timers)
