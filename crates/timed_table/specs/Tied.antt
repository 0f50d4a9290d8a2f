-- What ties the values, the keys and the timers of a table, and the rows that they are.
use Rattle.std.specs.Prelude.{◌≡◌, ℕ, zero, suc, ◌+◌, ◌<◌, ◌≤◌, ◌^◌, List, [], ◌∷◌, ◌++◌, Option, None, Some, IsSome, nat_eq, length}
use Rattle.std.specs.Option.{option_map}
use Rattle.std.specs.List.{cons_option}
use Rattle.std.specs.Map.{lookup}
use Rattle.slab.specs.Slab.{Slab, Updates, get}
use Rattle.timer_queue.specs.declared.timer.Timer.{Timer}
use Rattle.timer_queue.specs.Order.{timer_at}
use Rattle.timed_table.specs.Row.{Row}

-- One more than the greatest identifier (own).
unfoldable pub identifier_limit : ℕ
identifier_limit = 2 ^ 32

-- The key of an identifier (own).
abbrev pub key_of : List (ℕ × ℕ) → ℕ → Option ℕ
key_of keys id = lookup (nat_eq id) keys

module _ {T : Type 0} where
  -- The row of an identifier that has this key (own).
  abbrev pub row_at_key : Slab T → List (Option Timer) → ℕ → Option ℕ → Option (Row T)
  row_at_key values timers id None = None
  row_at_key values timers id (Some key) =
      option_map (λ value. record {
        identifier = id;
        value = value;
        time = option_map (λ t. t.time) (timer_at timers key);
      }) (get values key)

  -- The row of an identifier (own).
  abbrev pub row_at : List (ℕ × ℕ) → Slab T → List (Option Timer) → ℕ → Option (Row T)
  row_at keys values timers id = row_at_key values timers id (key_of keys id)

  -- The rows of so many identifiers from one on (own).
  abbrev pub rows_from : (ℕ → Option (Row T)) → ℕ → ℕ → List (Row T)
  rows_from at low zero = []
  rows_from at low (suc count) = cons_option (at low) (rows_from at (low + 1) count)

  -- The rows of all identifiers, by rising identifier (own).
  abbrev pub all_rows : List (ℕ × ℕ) → Slab T → List (Option Timer) → List (Row T)
  all_rows keys values timers = rows_from (row_at keys values timers) 0 identifier_limit

  -- Each identifier has a key of its own, with a value and a place for a timer, and each timer has the
  -- name of the identifier whose key it stands at (own).
  pub record IsTied (keys : List (ℕ × ℕ)) (values : Slab T) (timers : List (Option Timer)) : Type 0 where
    pub held : (id key : ℕ) → key_of keys id ≡ Some key → IsSome (get values key)
    pub own : (one other key : ℕ) → key_of keys one ≡ Some key → key_of keys other ≡ Some key → one ≡ other
    pub drawn : (id key : ℕ) → key_of keys id ≡ Some key → id < identifier_limit
    pub covered : (id key : ℕ) → key_of keys id ≡ Some key → key < length timers
    pub named : (key : ℕ) (t : Timer) → timer_at timers key ≡ Some t → key_of keys t.name ≡ Some key

  -- What a table keeps: the same, and there are as many keys as rows (own).
  pub record IsSound (keys : List (ℕ × ℕ)) (values : Slab T) (timers : List (Option Timer)) : Type 0 where
    pub tied : IsTied keys values timers
    pub as_many : length keys ≡ length (all_rows keys values timers)

-- The timer that stands for a time, under the name of the identifier (own).
abbrev pub timer_named : ℕ → Option ℕ → Option Timer
timer_named id None = None
timer_named id (Some time) = Some (record { time = time; name = id })

-- Further items, without timers, and nothing else changed (own).
pub record IsExtended (old new : List (Option Timer)) : Type 0 where
  pub kept : (item : ℕ) → timer_at new item ≡ timer_at old item
  pub longer : length old ≤ length new

-- A value is stored under the vacant key, and the other values are as before (own).
abbrev pub IsStored : {T : Type 0} → Slab T → Slab T → T → Type 0
IsStored before after value = Updates before after before.vacant_key (Some value)

-- Once a value is stored so, all is sound, and its row, of this identifier and time, stands behind these (own).
pub record IsPlace {T : Type 0} (before : List (Row T)) (id : ℕ) (time : Option ℕ) (keys : List (ℕ × ℕ))
    (values : Slab T) (timers : List (Option Timer)) : Type 0 where
  pub sound : (value : T) (stored : Slab T) → IsStored values stored value → IsSound keys stored timers
  pub rows : (value : T) (stored : Slab T) → IsStored values stored value
      → all_rows keys stored timers ≡ before ++ record { identifier = id; value = value; time = time } ∷ []
