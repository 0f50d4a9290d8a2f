-- What a contract sees of a table: its rows, by rising identifier.
use Rattle.std.specs.Prelude.{◌≡◌, ℕ, ◌<◌, ◌+◌, ◌≤◌, ◌||◌, ◌&&◌, ◌==◌, Bool, false, cond, nat_eq, nat_lt, nat_le, List, [], ◌∷◌, Option, None, Some, map, filter, refl}
use Rattle.std.specs.Map.{set_value}
use Rattle.std.specs.Coded.{Coded, code_by, coded×, coded_ℕ, coded_option}

-- An identifier, its value, and the time that is kept with it, if there is one (own).
pub record Row (T : Type 0) : Type 0 where
  pub identifier : ℕ
  pub value : T
  pub time : Option ℕ

-- A row is stored as the tuple of its fields (own).
abbrev pub row_code : {T : Type 0} → Coded T → Coded (Row T)
row_code {T} code =
    code_by
    (ℕ × (T × Option ℕ))
    (coded× coded_ℕ (coded× code (coded_option coded_ℕ)))
    (λ r. (r.identifier, (r.value, r.time)))
    (λ p. record { identifier = p.0; value = p.1.0; time = p.1.1 })
    (λ _. refl)

-- A time and an identifier are before others (own).
abbrev pub is_before : (ℕ × ℕ) → (ℕ × ℕ) → Bool
is_before a b = nat_lt a.0 b.0 || ((a.0 == b.0) && nat_lt a.1 b.1)

-- The time is reached (own).
abbrev pub is_due : ℕ → Option ℕ → Bool
is_due moment None = false
is_due moment (Some time) = nat_le time moment

module _ {T : Type 0} where
  -- The values under their identifiers (own).
  abbrev pub entries_of : List (Row T) → List (ℕ × T)
  entries_of rows = map (λ r. (r.identifier, r.value)) rows

  -- The row of an identifier (own).
  abbrev pub row_of : ℕ → List (Row T) → Option (Row T)
  row_of id [] = None
  row_of id (r ∷ rows) = cond (nat_eq id r.identifier) (Some r) (row_of id rows)

  -- The time of a row, if there is a row and it has one (own).
  abbrev pub time_in : Option (Row T) → Option ℕ
  time_in None = None
  time_in (Some r) = r.time

  -- The rows, with what a function makes of that of an identifier (own).
  abbrev pub changed : ℕ → (Row T → Row T) → List (Row T) → List (Row T)
  changed id change [] = []
  changed id change (r ∷ rows) = cond (nat_eq id r.identifier) (change r ∷ rows) (r ∷ changed id change rows)

  -- The rows, with this value under an identifier that has a row (own).
  abbrev pub with_value : ℕ → T → List (Row T) → List (Row T)
  with_value id value rows = changed id (λ r. record r { value = value }) rows

  -- What a write of the value under an identifier leaves, in rows and in entries (own).
  pub record IsWritten (id : ℕ) (value : T) (old new : List (Row T)) : Type 0 where
    pub rows : new ≡ with_value id value old
    pub entries : entries_of new ≡ set_value (nat_eq id) (entries_of old) value

  -- The rows, with this time for an identifier that has a row (own).
  abbrev pub with_time : ℕ → Option ℕ → List (Row T) → List (Row T)
  with_time id time rows = changed id (λ r. record r { time = time }) rows

  -- The rows without that of an identifier (own).
  abbrev pub without : ℕ → List (Row T) → List (Row T)
  without id [] = []
  without id (r ∷ rows) = cond (nat_eq id r.identifier) rows (r ∷ without id rows)

  -- The identifiers rise from this one on (own).
  abbrev pub IsRising : ℕ → List (Row T) → Type 0
  IsRising low [] = Unit {0}
  IsRising low (r ∷ rows) = (low ≤ r.identifier) × IsRising (r.identifier + 1) rows

  -- Every identifier is below this one (own).
  abbrev pub AllBelow : ℕ → List (Row T) → Type 0
  AllBelow id [] = Unit {0}
  AllBelow id (r ∷ rows) = (r.identifier < id) × AllBelow id rows

  -- No row has a time (own).
  abbrev pub HasNoTime : List (Row T) → Type 0
  HasNoTime rows = (id : ℕ) → time_in (row_of id rows) ≡ None

  -- This time is that of this identifier, and none is before them (own).
  pub record IsFirst (rows : List (Row T)) (first : ℕ × ℕ) : Type 0 where
    pub has : time_in (row_of first.1 rows) ≡ Some first.0
    pub least : (id time : ℕ) → time_in (row_of id rows) ≡ Some time → is_before (time, id) first ≡ false

  -- The values of the rows whose time is reached (own).
  abbrev pub due_values : ℕ → List (Row T) → List T
  due_values moment rows = map (λ r. r.value) (filter (λ r. is_due moment r.time) rows)
