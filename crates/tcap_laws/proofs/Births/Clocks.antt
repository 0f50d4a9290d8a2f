-- The clock never falls.
use Rattle.std.proofs.Common.{ℕ, ◌≤◌, Bool, true, false, [], ◌∷◌, ◌++◌, arith}
use Rattle.tcap_model.specs.Words.Answer.{is_accepted}
use Rattle.tcap_model.specs.Histories.Clock.{clock, clock_after}
use Rattle.tcap_model.specs.Words.Event.{Event}
use Rattle.tcap_model.specs.Words.Event.Event.{new_dialogue, on_dialogue, received, moment}
use Rattle.tcap_model.specs.Histories.Pair.{Pair, Past}

clock_after-le : (before : ℕ) (event : Event) (accepted : Bool) → before ≤ clock_after before event accepted
clock_after-le before new_dialogue accepted = omega arith
clock_after-le before (on_dialogue dialogue request) accepted = omega arith
clock_after-le before (received from bytes) accepted = omega arith
clock_after-le before (moment now) true = omega arith
clock_after-le before (moment now) false = omega arith

pub clock-step : (pair : Pair) (past : Past) → clock past ≤ clock (pair ∷ past)
clock-step pair past = clock_after-le (clock past) pair.event (is_accepted pair.answer)

pub clock-later : (later past : Past) → clock past ≤ clock (later ++ past)
clock-later [] past = omega arith
clock-later (pair ∷ later) past =
    let before = clock-later later past in
    let step = clock-step pair (later ++ past) in
    omega (arith, before, step)
