-- What a contract sees of `Invocations`: the entries by rising number, and how long an identifier waits.
use Rattle.std.specs.Prelude.{ℕ, ℤ, ◌<◌, ◌≤◌, Bool, true, false, nat_lt, nat_le, ◌&&◌, List, [], ◌∷◌, ◌++◌, map, Option, Some, None, is_some, if◌then◌else◌}
use Rattle.std.specs.Ordering.{int_eq}
use Rattle.std.specs.List.{IsDistinct}
use Rattle.std.specs.Map.{keys_of, lookup, remove_entry, set_value}
use Rattle.tcap_invocation.specs.declared.class.Class.{Class}
use Rattle.tcap_invocation.specs.declared.fault.AddFault.{AddFault}
use Rattle.tcap_invocation.specs.declared.fault.AddFault.TheVariants.{InUse, BadTimeout}
use Rattle.tcap_invocation.specs.declared.stage.Stage.{Stage}
use Rattle.tcap_invocation.specs.declared.stage.Stage.TheVariants.{Queued}
use Rattle.tcap_invocation.specs.declared.invocations.Invocation.{Invocation}
use Rattle.tcap_invocation.specs.Stage.{moment_limit, IsTimely, is_sent, sent_stage}

-- An invoke identifier, and the number, class and stage of the invocation that has it (own).
abbrev pub Row : Type 0
Row = ℤ × Invocation

-- How long an identifier waits for a Reject, in milliseconds, and the rows by rising number (own).
pub record InvocationList : Type 0 where
  pub reject_ms : ℕ
  pub rows : List Row

-- The list with other rows (own).
abbrev pub with_rows : InvocationList → List Row → InvocationList
with_rows list rows = record list { rows = rows }

-- Each number in the rows is above this one (own).
abbrev pub AllAbove : ℕ → List Row → Type 0
AllAbove number [] = Unit {0}
AllAbove number (r ∷ rs) = (number < r.1.number) × AllAbove number rs

-- Each number in the rows is below this one (own).
abbrev pub AllBelow : ℕ → List Row → Type 0
AllBelow number [] = Unit {0}
AllBelow number (r ∷ rs) = (r.1.number < number) × AllBelow number rs

-- The numbers rise, so none occurs twice, and each row's moment is within its bounds (own).
abbrev pub AreInOrder : List Row → Type 0
AreInOrder [] = Unit {0}
AreInOrder (r ∷ rs) = IsTimely r.1.stage × AllAbove r.1.number rs × AreInOrder rs

-- What every list keeps: the numbers rise and the moments are within their bounds, no identifier
-- occurs twice, and an identifier waits no longer than the limit (own).
pub record IsSound (list : InvocationList) : Type 0 where
  pub in_order : AreInOrder list.rows
  pub distinct : IsDistinct int_eq (keys_of list.rows)
  pub wait : list.reject_ms ≤ moment_limit

-- The invocation that has the identifier (own).
abbrev pub entry_at : List Row → ℤ → Option Invocation
entry_at rows id = lookup (int_eq id) rows

-- The invocation, if its stage passes the test (own).
abbrev pub passing : (Stage → Bool) → Option Invocation → Option Invocation
passing test None = None
passing test (Some entry) = if test entry.stage then Some entry else None

-- The invocation that has the identifier, if it is Sent (own).
abbrev pub sent_at : List Row → ℤ → Option Invocation
sent_at rows id = passing is_sent (entry_at rows id)

-- The rows without the identifier, which is free from then on (own).
abbrev pub without : List Row → ℤ → List Row
without rows id = remove_entry (int_eq id) rows

-- The rows, with the invocation of the identifier at this stage (own).
abbrev pub at_stage : List Row → ℤ → Invocation → Stage → List Row
at_stage rows id entry stage = set_value (int_eq id) rows (record entry { stage = stage })

-- The list, without the identifier if it is to be freed (own).
abbrev pub freed : InvocationList → ℤ → Bool → InvocationList
freed list id true = with_rows list (without list.rows id)
freed list id false = list

-- A list with one invocation more, Queued until the next message goes out
-- (Q.774, Invocation state machine).
abbrev pub added : InvocationList → ℤ → ℕ → Class → ℕ → InvocationList
added list id number class timeout =
    with_rows list (list.rows ++ (id, record { number = number; class = class; stage = Queued timeout }) ∷ [])

-- The refusal of an invocation that is due: a timeout out of its range, then an identifier in use
-- (own).
abbrev pub add_fault : List Row → ℤ → ℕ → Option AddFault
add_fault rows id timeout =
    if nat_lt 0 timeout && nat_le timeout moment_limit
    then (if is_some (entry_at rows id) then Some InUse else None)
    else Some BadTimeout

-- An invocation after the message with the queued ones went out (Q.774, Invocation state machine).
abbrev pub sent_entry : ℕ → Invocation → Invocation
sent_entry clock entry = record entry { stage = sent_stage clock entry.stage }

-- The rows after it (Q.774, Invocation state machine).
abbrev pub sent_rows : ℕ → List Row → List Row
sent_rows clock rows = map (λ r. (r.0, sent_entry clock r.1)) rows

-- The list after it (Q.774, Invocation state machine).
abbrev pub after_sent : InvocationList → ℕ → InvocationList
after_sent list clock = with_rows list (sent_rows clock list.rows)
