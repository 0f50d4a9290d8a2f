-- Rows, lists and lapses, as the worked examples write them.
use Rattle.std.specs.Prelude.{ℕ, pos, List}
use Rattle.tcap_invocation.specs.declared.class.Class.{Class}
use Rattle.tcap_invocation.specs.declared.invocations.lapse.Lapse.{Lapse}
use Rattle.tcap_invocation.specs.declared.stage.Stage.{Stage}
use Rattle.tcap_invocation.specs.Invocations.{Row, InvocationList}

-- An identifier, and the invocation of this number, class and stage that has it (own).
abbrev pub row : ℕ → ℕ → Class → Stage → Row
row id number class stage = (pos id, record { number = number; class = class; stage = stage })

-- A list whose identifiers wait so long for a Reject, with these rows (own).
abbrev pub waiting_for : ℕ → List Row → InvocationList
waiting_for reject_ms rows = record { reject_ms = reject_ms; rows = rows }

-- An invocation whose deadline has come (own).
abbrev pub lapse : ℕ → ℕ → ℕ → Lapse
lapse deadline number id = record { deadline = deadline; number = number; id = pos id }
