-- Which states a scanner may be in.
use Rattle.std.specs.Prelude.{ℕ, ◌+◌, ◌<◌, ◌≤◌, ⊤}
use Rattle.std.specs.Coded.{×_prop, Unit-prop, le_prop}
use Rattle.ber_core.specs.declared.scanner.due.Due.{Due}
use Rattle.ber_core.specs.declared.scanner.due.Due.TheVariants as due
use Rattle.ber_core.specs.Element.{depth_limit}
use Rattle.ber_core.specs.Length.{length_limit}

-- At least one octet of what is due is to come, an end only inside an indefinite element (own).
abbrev pub IsDue : Due → ℕ → Type 0
IsDue due.Tag nested = ⊤
IsDue due.End nested = 0 < nested
IsDue (due.FirstFurther constructed) nested = ⊤
IsDue (due.Further constructed left) nested = 0 < left
IsDue (due.Length constructed) nested = ⊤
IsDue (due.LongLength left value) nested = (0 < left) × (value ≤ length_limit + 1)
IsDue (due.Content left) nested = 0 < left

-- This can be due, and no more indefinite elements are open than may be (own).
abbrev pub CanBeDue : Due → ℕ → Type 0
CanBeDue due nested = IsDue due nested × (nested ≤ depth_limit)

-- There is at most one proof of that (own).
pub CanBeDue-prop : (due : Due) (nested : ℕ) → IsProp (CanBeDue due nested)
CanBeDue-prop due.Tag nested = ×_prop Unit-prop le_prop
CanBeDue-prop due.End nested = ×_prop le_prop le_prop
CanBeDue-prop (due.FirstFurther constructed) nested = ×_prop Unit-prop le_prop
CanBeDue-prop (due.Further constructed left) nested = ×_prop le_prop le_prop
CanBeDue-prop (due.Length constructed) nested = ×_prop Unit-prop le_prop
CanBeDue-prop (due.LongLength left value) nested = ×_prop (×_prop le_prop le_prop) le_prop
CanBeDue-prop (due.Content left) nested = ×_prop le_prop le_prop
