-- The present moment, as far as it was told.
use Rattle.std.specs.Prelude.{ℕ, max, Bool, true, false, [], ◌∷◌}
use Rattle.tcap_model.specs.Words.Answer.{is_accepted}
use Rattle.tcap_model.specs.Words.Event.{Event}
use Rattle.tcap_model.specs.Words.Event.Event.{new_dialogue, on_dialogue, received, moment}
use Rattle.tcap_model.specs.Histories.Pair.{Past}

-- The clock after an event, by whether it was accepted: only a moment moves it, and never back (own).
abbrev pub clock_after : ℕ → Event → Bool → ℕ
clock_after before new_dialogue accepted = before
clock_after before (on_dialogue dialogue request) accepted = before
clock_after before (received from bytes) accepted = before
clock_after before (moment now) true = max before now
clock_after before (moment now) false = before

-- The greatest moment that was accepted, 0 if there was none (own).
abbrev pub clock : Past → ℕ
clock [] = 0
clock (pair ∷ past) = clock_after (clock past) pair.event (is_accepted pair.answer)
