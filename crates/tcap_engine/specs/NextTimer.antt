-- The moment until which time changes nothing.
use Rattle.std.specs.Prelude.{◌≡◌, ◌≢◌, ℕ, ◌≤◌, nat_lt, nat_le, List, [], ◌++◌, option_to_list, Option, Some, None, if◌then◌else◌}
use Rattle.std.specs.List.{flat_map}
use Rattle.tcap_invocation.specs.Order.{in_order_by, first_of}
use Rattle.tcap_invocation.specs.Stage.{moment_limit}
use Rattle.tcap_invocation.specs.Timers.{times_of}
use Rattle.tcap_model.specs.Table.Dialogue.{Dialogue, idle_end}
use Rattle.tcap_model.specs.Table.EngineMove.{engine_move}
use Rattle.tcap_model.specs.Table.World.{World}
use Rattle.tcap_model.specs.Words.Answer.{Answer}
use Rattle.tcap_model.specs.Words.Event.{Event}

-- The moments at which an invocation lapses, a wait ends or the dialogue has been idle too long
-- (Q.774, Invocation timer; Q.774, Reject timer; the last is own).
abbrev pub times_in : Dialogue → List ℕ
times_in d = times_of d.invocations.rows ++ option_to_list (idle_end d)

-- Those of all dialogues (own).
abbrev pub timers_in : List Dialogue → List ℕ
timers_in dialogues = flat_map times_in dialogues

-- A moment, if the clock may reach it (own).
abbrev pub if_within : Option ℕ → Option ℕ
if_within None = None
if_within (Some time) = if nat_le time moment_limit then Some time else None

-- The least of them, if the clock may reach it (own).
abbrev pub next_timer_in : World → Option ℕ
next_timer_in w = if_within (first_of (in_order_by nat_lt (timers_in w.dialogues)))

-- The clock may go on to this moment (own).
abbrev pub IsAccepted : World → ℕ → Type 0
IsAccepted w now = (w.clock ≤ now) × (now ≤ moment_limit)

-- A moment does nothing but set the clock (own).
abbrev pub IsStill : World → ℕ → Type 0
IsStill w now = engine_move w (Event.moment now) ≡ record { answer = Answer.outputs []; after = record w { clock = now } }

-- A moment changes a dialogue: an invocation lapses, a wait ends, or it is over
-- (Q.774, Invocation timer; Q.774, Reject timer; the last is own).
abbrev pub IsChanged : World → ℕ → Type 0
IsChanged w now = (engine_move w (Event.moment now)).after.dialogues ≢ w.dialogues
