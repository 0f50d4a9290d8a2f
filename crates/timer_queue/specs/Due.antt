-- Which items are due at a moment, and how the heap is walked to find them.
use Rattle.std.specs.Prelude.{ℕ, zero, suc, ◌+◌, ◌-◌, ◌*◌, ◌/◌, ◌%◌, Bool, cond, ◌&&◌, nat_eq, nat_lt, List, [], ◌∷◌, ◌++◌, Option, length, map, filter}
use Rattle.timer_queue.specs.declared.timer.Timer.{Timer}
use Rattle.timer_queue.specs.declared.due.Due.{Due}
use Rattle.timer_queue.specs.Order.{is_due, timer_at}
use Rattle.timer_queue.specs.Heap.{item_at, key_at, up_to}

-- The items whose timer is due, by rising number (own).
abbrev pub due_items : ℕ → List (Option Timer) → List ℕ
due_items moment timers = filter (λ item. is_due moment (timer_at timers item)) (up_to (length timers))

-- There is an item at the place, and it is due (own).
abbrev pub is_due_place : ℕ → List ℕ → List (Option Timer) → ℕ → Bool
is_due_place moment heap timers place = nat_lt place (length heap) && is_due moment (key_at timers heap place)

-- The places from one downwards, each before those below it; where one doesn't pass, none below it is
-- taken. The first number bounds how far down (own).
abbrev pub downwards : (ℕ → Bool) → ℕ → ℕ → List ℕ
downwards passes zero place = []
downwards passes (suc depth) place =
    cond (passes place) (place ∷ (downwards passes depth (2 * place + 1) ++ downwards passes depth (2 * place + 2))) []

-- The places below one (own).
abbrev pub below_place : (ℕ → Bool) → ℕ → ℕ → List ℕ
below_place passes len place = downwards passes len (2 * place + 1) ++ downwards passes len (2 * place + 2)

-- What follows a place and those below it: the place to its right, if it is the left one of two, and then
-- what follows the place above. The first number bounds how far up (own).
abbrev pub upwards : (ℕ → Bool) → ℕ → ℕ → ℕ → List ℕ
upwards passes len zero place = []
upwards passes len (suc height) place =
    cond (nat_eq place 0) [] (cond (nat_eq (place % 2) 1) (downwards passes len (place + 1)) [] ++ upwards passes len height ((place - 1) / 2))

-- What follows a place and those below it, as far up as there is (own).
abbrev pub after_place : (ℕ → Bool) → ℕ → ℕ → List ℕ
after_place passes len place = upwards passes len (suc place) place

-- The places that are left from one on, which is left itself; past the heap none is (own).
abbrev pub from_place : (ℕ → Bool) → ℕ → ℕ → List ℕ
from_place passes len place = cond (nat_lt place len) (place ∷ (below_place passes len place ++ after_place passes len place)) []

-- The items that an iterator has still to give (own).
abbrev pub due_left : Due → List ℕ
due_left d = map (item_at d.heap.now) (from_place (is_due_place d.moment d.heap.now d.timers.now) (length d.heap.now) d.place)
