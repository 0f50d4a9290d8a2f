-- How the invocations of a dialogue are kept: few one after the other, many by their identifiers.
use Rattle.std.specs.Prelude.{◌≡◌, ℤ, true, List, [], Option, None, Some}
use Rattle.std.specs.Ordering.{int_eq}
use Rattle.std.specs.List.{IsDistinct}
use Rattle.std.specs.Map.{keys_of}
use Rattle.tcap_invocation.specs.declared.invocations.Invocation.{Invocation}
use Rattle.tcap_invocation.specs.Invocations.{Row, AllBelow, AreInOrder, entry_at}
use Rattle.tcap_invocation.specs.TimerList.{AreQueuedLast}
use Rattle.tcap_invocation.specs.Stage.{is_queued, IsTimely}

-- The numbers rise and the moments are within their bounds, no identifier occurs twice, and those that are Queued
-- stand behind all others (own).
pub record AreSorted (rows : List Row) : Type 0 where
  pub in_order : AreInOrder rows
  pub distinct : IsDistinct int_eq (keys_of rows)
  pub queued_last : AreQueuedLast rows

-- An invocation that comes in: Queued, under an identifier that is free, with a number above all (own).
pub record IsNew (rows : List Row) (id : ℤ) (entry : Invocation) : Type 0 where
  pub queued : is_queued entry.stage ≡ true
  pub free : entry_at rows id ≡ None
  pub above : AllBelow entry.number rows
  pub timely : IsTimely entry.stage

-- The rows: those that stand one after the other, or all of the many where there are many (own).
abbrev pub rows_of : List Row → Option (List Row) → List Row
rows_of few None = few
rows_of few (Some many) = many

-- Where there are many, none stands with the few (own).
abbrev pub AreApart : List Row → Option (List Row) → Type 0
AreApart few None = Unit {0}
AreApart few (Some many) = few ≡ []
