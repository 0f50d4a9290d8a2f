-- What ties the values, the keys and the timers, and the rows that they are.
use Rattle.std.proofs.Common.{◌≡◌, ◌≢◌, ℕ, ◌<◌, ◌≤◌, ◌^◌, ◌⊎◌, inl, inr, List, length, set, true, false, nat_eq, Option, Some, None, IsSome, option_map, refl, sym, ap, ◌∙◌, arith, rules, tests}
use Rattle.std.proofs.lemmas.Bool.{cases_lt}
use Rattle.std.proofs.lemmas.List.{get_or-set_same, get_or-set_other}
use Rattle.std.specs.Map.{lookup}
use Rattle.slab.specs.Slab.{Slab, get}
use Rattle.timer_queue.specs.declared.timer.Timer.{Timer}
use Rattle.timer_queue.specs.Order.{timer_at}
use Rattle.timed_table.specs.Row.{Row, entries_of, row_of, time_in, AllBelow}
use Rattle.timed_table.specs.Tied.{identifier_limit, key_of, row_at, row_at_key, all_rows, timer_named, IsTied, IsExtended}
use Rattle.timed_table.proofs.RowLemmas.{lookup-row, found-own, found-below, row-found, row-past, rows-same}

-- A number of 32 bits is an identifier.
pub within_limit : (id : ℕ) → id < 2 ^ 32 → id < identifier_limit
unfolding identifier_limit
within_limit id lt = lt

pub apart : (a b : ℕ) → a ≢ b → nat_eq a b ≡ false
apart a b n = grind (arith, tests, n)

pub same : (a : ℕ) → nat_eq a a ≡ true
same a = grind (arith, tests)

pub some_same : (a b : ℕ) → Some a ≡ Some b → a ≡ b
some_same a b e = cc

pub none_some : {X : Type 0} (o : Option X) (x : X) → o ≡ None → o ≡ Some x → ⊥
none_some o x n s = let bad : None ≡ Some x = sym n ∙ s in search (bad, rules)

-- The time of a timer.
abbrev pub time_of : Option Timer → Option ℕ
time_of timer = option_map (λ t. t.time) timer

pub time-named : (id : ℕ) (time : Option ℕ) → option_map (λ (t : Timer). t.time) (timer_named id time) ≡ time
time-named id None = refl
time-named id (Some time) = refl

pub name-named : (id : ℕ) (time : Option ℕ) (t : Timer) → timer_named id time ≡ Some t → id ≡ t.name
name-named id None t h = absurd (search (h, rules))
name-named id (Some time) t h = let is : record { time = time; name = id } ≡ t = cc in ap (λ (x : Timer). x.name) is

module _ {T : Type 0} where
  -- A row of these parts, and a row with another time or value.
  abbrev pub row_made : ℕ → Option ℕ → T → Row T
  row_made id time value = record { identifier = id; value = value; time = time }

  abbrev pub timed : Option ℕ → Row T → Row T
  timed time r = record r { time = time }

  abbrev pub valued : T → Row T → Row T
  valued value r = record r { value = value }

  -- The value at a key.
  abbrev pub value_at : Slab T → Option ℕ → Option T
  value_at values None = None
  value_at values (Some key) = get values key

  pub row-names : (keys : List (ℕ × ℕ)) (values : Slab T) (timers : List (Option Timer)) (id : ℕ) (r : Row T) → row_at keys values timers id ≡ Some r → r.identifier ≡ id
  row-names keys values timers id r h = go (key_of keys id) h
    where
      made : (key : ℕ) (o : Option T) → option_map (row_made id (time_of (timer_at timers key))) o ≡ Some r → r.identifier ≡ id
      made key None e = absurd (search (e, rules))
      made key (Some v) e =
          let is : record { identifier = id; value = v; time = option_map (λ (t : Timer). t.time) (timer_at timers key) } ≡ r = cc in
          sym (ap (λ (x : Row T). x.identifier) is)

      go : (o : Option ℕ) → row_at_key values timers id o ≡ Some r → r.identifier ≡ id
      go None e = absurd (search (e, rules))
      go (Some key) e = made key (get values key) e

  row-value : (values : Slab T) (timers : List (Option Timer)) (id : ℕ) (o : Option ℕ) → option_map (λ (r : Row T). r.value) (row_at_key values timers id o) ≡ value_at values o
  row-value values timers id None = refl
  row-value values timers id (Some key) = go (get values key)
    where
      go : (o : Option T) → option_map (λ (r : Row T). r.value) (option_map (row_made id (time_of (timer_at timers key))) o) ≡ o
      go None = refl
      go (Some v) = refl

  module _ (keys : List (ℕ × ℕ)) (values : Slab T) (timers : List (Option Timer)) (t : IsTied keys values timers) where
    -- The row of an identifier is the one that is found.
    pub row-is : (id : ℕ) → row_of id (all_rows keys values timers) ≡ row_at keys values timers id
    row-is id = go (cases_lt id identifier_limit)
      where
        go : (id < identifier_limit) ⊎ (identifier_limit ≤ id) → row_of id (all_rows keys values timers) ≡ row_at keys values timers id
        go (inl lt) = row-found (row_at keys values timers) (row-names keys values timers) id 0 identifier_limit (omega arith) (omega (arith, lt))
        go (inr le) = row-past (row_at keys values timers) (row-names keys values timers) id 0 identifier_limit (omega (arith, le)) ∙ sym (absent (key_of keys id) refl)
          where
            absent : (o : Option ℕ) → key_of keys id ≡ o → row_at_key values timers id (key_of keys id) ≡ None
            absent None e = rw e refl
            absent (Some key) e = let lt = t.drawn id key e in absurd (omega (arith, lt, le))

    -- The value of an identifier is that at its key.
    pub value-is : (id : ℕ) → lookup (nat_eq id) (entries_of (all_rows keys values timers)) ≡ value_at values (key_of keys id)
    value-is id = lookup-row id (all_rows keys values timers) ∙ ap (option_map (λ (r : Row T). r.value)) (row-is id) ∙ row-value values timers id (key_of keys id)

    -- An identifier with a key has a row.
    pub row-some : (id key : ℕ) → key_of keys id ≡ Some key → IsSome (row_at keys values timers id)
    row-some id key e = rw e (made (get values key) (t.held id key e))
      where
        made : (o : Option T) → IsSome o → IsSome (option_map (row_made id (time_of (timer_at timers key))) o)
        made None h = h
        made (Some v) h = refl

    -- Above all rows there is none, and no key.
    module _ (id : ℕ) (below : AllBelow id (all_rows keys values timers)) where
      pub row-above : (other : ℕ) → id ≤ other → row_at keys values timers other ≡ None
      row-above other le = go (row_at keys values timers other) refl
        where
          go : (o : Option (Row T)) → row_at keys values timers other ≡ o → row_at keys values timers other ≡ None
          go None e = e
          go (Some r) e =
              let found = row-is other ∙ e in
              let low = found-below id other (all_rows keys values timers) r below found in
              let name = found-own other (all_rows keys values timers) r found in
              absurd (omega (arith, low, name, le))

      pub key-above : key_of keys id ≡ None
      key-above = go (key_of keys id) refl
        where
          go : (o : Option ℕ) → key_of keys id ≡ o → key_of keys id ≡ None
          go None e = e
          go (Some key) e = absurd (none-is (row_at keys values timers id) (row-above id (omega arith)) (row-some id key e))
            where
              none-is : (o : Option (Row T)) → o ≡ None → IsSome o → ⊥
              none-is None e h = search (h, rules)
              none-is (Some r) e h = search (e, rules)

    -- Further items.
    module _ (new : List (Option Timer)) (x : IsExtended timers new) where
      pub tied-extended : IsTied keys values new
      tied-extended =
          record {
            held = t.held;
            own = t.own;
            drawn = t.drawn;
            covered = λ id key h. (let was = t.covered id key h in let longer = x.longer in omega (arith, was, longer));
            named = λ key u h. t.named key u (sym (x.kept key) ∙ h);
          }

      pub rows-extended : all_rows keys values new ≡ all_rows keys values timers
      rows-extended = rows-same (row_at keys values timers) (row_at keys values new) 0 identifier_limit (λ id le. by_key id (key_of keys id))
        where
          by_key : (id : ℕ) (o : Option ℕ) → row_at_key values new id o ≡ row_at_key values timers id o
          by_key id None = refl
          by_key id (Some key) = ap (λ u. option_map (row_made id (time_of u)) (get values key)) (x.kept key)

    -- What two keys with one timer and one value make is one row.
    pub same-row : (new : Slab T) (times : List (Option Timer)) (id key : ℕ) → get new key ≡ get values key → timer_at times key ≡ timer_at timers key → row_at_key new times id (Some key) ≡ row_at_key values timers id (Some key)
    same-row new times id key one two =
        ap (λ o. option_map (row_made id (time_of (timer_at times key))) o) one
        ∙ ap (λ u. option_map (row_made id (time_of u)) (get values key)) two

    module _ (key : ℕ) (timer : Option Timer) (within : key < length timers) where
      pub timer-here : timer_at (set timers key timer) key ≡ timer
      timer-here = get_or-set_same timers key timer None within

      pub timer-other : (k : ℕ) → k ≢ key → timer_at (set timers key timer) k ≡ timer_at timers k
      timer-other k n = get_or-set_other timers key k timer None n

    -- The time beside an identifier is that of the timer at its key, and there is none without a key.
    pub time-is : (id key : ℕ) → key_of keys id ≡ Some key → time_in (row_of id (all_rows keys values timers)) ≡ time_of (timer_at timers key)
    time-is id key at = ap time_in (row-is id ∙ ap (row_at_key values timers id) at) ∙ made (get values key) (t.held id key at)
      where
        made : (o : Option T) → IsSome o → time_in (option_map (row_made id (time_of (timer_at timers key))) o) ≡ time_of (timer_at timers key)
        made None h = absurd (search (h, rules))
        made (Some v) h = refl

    pub time-none : (id : ℕ) → key_of keys id ≡ None → time_in (row_of id (all_rows keys values timers)) ≡ None
    time-none id none = ap time_in (row-is id ∙ ap (row_at_key values timers id) none)
