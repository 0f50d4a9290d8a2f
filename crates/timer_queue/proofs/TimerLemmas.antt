-- Timers that are found equal are one.
use Rattle.std.proofs.Common.{◌≡◌, true, Option, Some, None, refl, arith, tests}
use Rattle.std.specs.Option.{option_eq}
use Rattle.timer_queue.specs.declared.timer.Timer.{Timer}
use Rattle.timer_queue.specs.contracts.timer.TimerPartialEq.TheImpl as equal

pub same-timer : (a b : Option Timer) → option_eq (equal.eq-value).it a b ≡ true → a ≡ b
same-timer None None e = refl
same-timer None (Some b) e = absurd cc
same-timer (Some a) None e = absurd cc
same-timer (Some a) (Some b) e =
    let time : a.time ≡ b.time = grind (arith, tests, e) in
    let name : a.name ≡ b.name = grind (arith, tests, e) in
    λ j. Some (record { time = time j; name = name j })
