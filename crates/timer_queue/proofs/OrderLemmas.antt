-- The order of timers is a strict order, and what is not before goes on to what is not before.
use Rattle.std.proofs.Common.{◌≡◌, true, false, Option, Some, None, refl, arith, tests, rules}
use Rattle.timer_queue.specs.declared.timer.Timer.{Timer}
use Rattle.timer_queue.specs.Order.{is_before, comes_before}

is_before-asym : (a b : Timer) → is_before a b ≡ true → is_before b a ≡ false
is_before-asym a b h = grind (arith, tests, h)

is_before-through : (a b c : Timer) → is_before b a ≡ false → is_before c b ≡ false → is_before c a ≡ false
is_before-through a b c h k = grind (arith, tests, h, k)

-- Of two the one that is before the other has it not before itself.
pub comes_before-asym : (a b : Option Timer) → comes_before a b ≡ true → comes_before b a ≡ false
comes_before-asym None b h = absurd (search (h, rules))
comes_before-asym (Some a) None h = refl
comes_before-asym (Some a) (Some b) h = is_before-asym a b h

-- Where b is not before a, and c is not before b, c is not before a.
pub comes_before-through : (a b c : Option Timer) → comes_before b a ≡ false → comes_before c b ≡ false → comes_before c a ≡ false
comes_before-through a b None h k = refl
comes_before-through a None (Some c) h k = absurd (search (k, rules))
comes_before-through None (Some b) (Some c) h k = absurd (search (h, rules))
comes_before-through (Some a) (Some b) (Some c) h k = is_before-through a b c h k

-- What is before one that is not before another, which is earlier: not the other way round.
pub comes_before-self : (a : Option Timer) → comes_before a a ≡ false
comes_before-self None = refl
comes_before-self (Some a) = grind (arith, tests)
