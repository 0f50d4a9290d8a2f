-- When time next changes something in a dialogue, what its first timer is of, and what becomes of it then.
use Rattle.std.specs.Prelude.{ℕ, nat_lt, nat_le, unwrap_or, List, [], ◌∷◌, Option, Some, None, if◌then◌else◌}
use Rattle.tcap_invocation.specs.declared.invocations.lapse.Expiry.{Expiry}
use Rattle.tcap_invocation.specs.declared.invocations.lapse.Expiry.TheVariants.{Lapse as Lapses, Wait}
use Rattle.tcap_invocation.specs.declared.invocations.lapse.Lapse.{Lapse}
use Rattle.tcap_invocation.specs.Expiries.{after_expiry, first_expiry_at}
use Rattle.tcap_model.specs.Table.Dialogue.{Dialogue, idle_end, touched_at, with_invocations}
use Rattle.tcap_model.specs.Table.TableMove.{row_lapse_told}
use Rattle.tcap_model.specs.Words.Output.{Output}
use Rattle.tcap_dialogue.specs.declared.dialogue.timers.Timer.{Timer}
use Rattle.tcap_dialogue.specs.declared.dialogue.timers.Timer.TheVariants as timer

-- The earlier of two moments, of which each may be absent (own).
abbrev pub earliest : Option ℕ → Option ℕ → Option ℕ
earliest None second = second
earliest (Some one) None = Some one
earliest (Some one) (Some other) = Some (if nat_lt other one then other else one)

-- A moment, if the clock has reached it (own).
abbrev pub reached_by : ℕ → Option ℕ → Option ℕ
reached_by clock None = None
reached_by clock (Some time) = if nat_le time clock then Some time else None

-- The moment at which a dialogue had been idle too long, if the clock has reached it (own).
abbrev pub idle_by : ℕ → Dialogue → Option ℕ
idle_by clock d = reached_by clock (idle_end d)

-- Up to when the timers of the invocations come first: that moment, or else the clock (own).
abbrev pub first_by : ℕ → Dialogue → ℕ
first_by clock d = unwrap_or (idle_by clock d) clock

-- What ran out first of the invocations of a dialogue by then (own).
abbrev pub expiry_by : ℕ → Dialogue → Option Expiry
expiry_by clock d = first_expiry_at (first_by clock d) d.invocations.rows

-- What the first timer of a dialogue is of: its invocations come before its idle limit (own).
abbrev pub timer_of : Option Expiry → Option ℕ → Option Timer
timer_of (Some (Lapses lapse)) idle = Some timer.Lapse
timer_of (Some Wait) idle = Some timer.Wait
timer_of None (Some time) = Some timer.Idle
timer_of None None = None

-- The dialogue after it ran out: what lapsed or has waited is gone, and the end of one that was idle too long is put
-- off, as if its idle timer started anew (Q.774, Invocation timer; Q.774, Reject timer; the last is own).
abbrev pub after_timer : ℕ → Option Expiry → Option ℕ → Dialogue → Dialogue
after_timer clock (Some expiry) idle d =
    with_invocations d (after_expiry d.invocations (unwrap_or idle clock) (Some expiry))
after_timer clock None (Some time) d = touched_at d clock
after_timer clock None None d = d

-- What is told of a lapse, if there was one: TC-L-CANCEL (Q.774, Invocation timer).
abbrev pub lapse_told : ℕ → Option Lapse → List Output
lapse_told dialogue None = []
lapse_told dialogue (Some lapse) = row_lapse_told dialogue lapse ∷ []
