-- What a table keeps after each change, from what its parts tell of theirs.
use Rattle.std.proofs.Common.{◌≡◌, ℕ, ◌+◌, ◌<◌, ◌^◌, List, [], ◌∷◌, ◌++◌, length, set, Bool, true, false, cond, nat_eq, Option, Some, None, IsSome, option_map, refl, sym, ap, subst, ◌∙◌, arith, rules, tests}
use Rattle.std.proofs.lemmas.List.{length-append}
use Rattle.slab.proofs.SlabLemmas.{Updates-with_value}
use Rattle.slab.specs.Slab.{Slab, get, Updates as SlabUpdates, with_value as slab_with}
use Rattle.timer_queue.specs.declared.timer.Timer.{Timer}
use Rattle.timed_table.specs.Row.{Row, IsWritten, entries_of, row_of, AllBelow, with_time, without}
use Rattle.timed_table.specs.Tied.{identifier_limit, key_of, row_at, all_rows, timer_named, IsTied, IsSound, IsExtended, IsPlace}
use Rattle.timed_table.proofs.RowLemmas.{rows-none, entries-changed, length-changed, length-without, lookup-row}
use Rattle.timed_table.proofs.TiedLemmas.{within_limit, tied-extended, rows-extended, key-above, value_at, value-is}
use Rattle.timed_table.proofs.InsertLemmas.{tied-added, rows-inserted}
use Rattle.timed_table.proofs.WriteLemmas.{tied-removed, rows-removed, tied-timed, rows-timed, tied-written, rows-written, rows-unwritten}

-- A key behind the others is found where none was.
pub key-pushed : (keys : List (ℕ × ℕ)) (id key q : ℕ) → key_of keys id ≡ None → key_of (keys ++ (id, key) ∷ []) q ≡ cond (nat_eq id q) (Some key) (key_of keys q)
key-pushed [] id key q none = ap (λ b. cond b (Some key) None) (flip q id)
  where
    flip : (a b : ℕ) → nat_eq a b ≡ nat_eq b a
    flip a b = grind (arith, tests)
key-pushed (e ∷ keys) id key q none = go (nat_eq id e.0) refl (nat_eq q e.0) refl (key-pushed keys id key q)
  where
    go : (b : Bool) → nat_eq id e.0 ≡ b → (d : Bool) → nat_eq q e.0 ≡ d → (key_of keys id ≡ None → key_of (keys ++ (id, key) ∷ []) q ≡ cond (nat_eq id q) (Some key) (key_of keys q))
        → cond (nat_eq q e.0) (Some e.1) (key_of (keys ++ (id, key) ∷ []) q) ≡ cond (nat_eq id q) (Some key) (cond (nat_eq q e.0) (Some e.1) (key_of keys q))
    go true h d k ih = let bad : Some e.1 ≡ None = ap (λ b. cond b (Some e.1) (key_of keys id)) (sym h) ∙ none in absurd (search (bad, rules))
    go false h true k ih = let other : nat_eq id q ≡ false = grind (arith, tests, h, k) in rw (k, other) refl
    go false h false k ih = rw k (ih (ap (λ b. cond b (Some e.1) (key_of keys id)) (sym h) ∙ none))

module _ {T : Type 0} (keys : List (ℕ × ℕ)) (values : Slab T) (timers : List (Option Timer)) (sound : IsSound keys values timers) where
  -- More room and further items.
  module _ (room : Slab T) (same : room ≡ record values { capacity = room.capacity }) (more : List (Option Timer)) (x : IsExtended timers more) where
    pub rows-roomy : all_rows keys room more ≡ all_rows keys values timers
    rows-roomy = ap (λ s. all_rows keys s more) same ∙ rows-extended keys values timers sound.tied more x

    pub sound-roomy : IsSound keys room more
    sound-roomy = record { tied = rw same roomy; as_many = sound.as_many ∙ ap length (sym rows-roomy) }
      where
        extended : IsTied keys values more
        extended = tied-extended keys values timers sound.tied more x

        roomy : IsTied keys (record values { capacity = room.capacity }) more
        roomy = record { held = extended.held; own = extended.own; drawn = extended.drawn; covered = extended.covered; named = extended.named }

  -- A row behind the others.
  module _ (new_values : Slab T) (id key : ℕ) (value : T) (time : Option ℕ) (within : key < length timers) (small : id < 2 ^ 32)
      (up : SlabUpdates values new_values key (Some value)) (vacant : get values key ≡ None) (below : AllBelow id (all_rows keys values timers)) where
    pub rows-insert : all_rows (keys ++ (id, key) ∷ []) new_values (set timers key (timer_named id time)) ≡ all_rows keys values timers ++ record { identifier = id; value = value; time = time } ∷ []
    rows-insert = rows-inserted keys values timers sound.tied (keys ++ (id, key) ∷ []) new_values id key value time within (within_limit id small) (λ q. key-pushed keys id key q (key-above keys values timers sound.tied id below)) up vacant below

    pub sound-insert : IsSound (keys ++ (id, key) ∷ []) new_values (set timers key (timer_named id time))
    sound-insert =
        record {
          tied = tied-added keys values timers sound.tied (keys ++ (id, key) ∷ []) new_values id key value time within (within_limit id small) (λ q. key-pushed keys id key q (key-above keys values timers sound.tied id below)) up vacant below;
          as_many =
              length-append keys ((id, key) ∷ []) ∙ ap (λ n. n + 1) sound.as_many ∙ sym (ap length rows-insert ∙ length-append (all_rows keys values timers) (record { identifier = id; value = value; time = time } ∷ []));
        }

  module _ (id key : ℕ) (at : key_of keys id ≡ Some key) where
    -- A row less.
    module _ (new_keys : List (ℕ × ℕ)) (new_values : Slab T) (ix : (q : ℕ) → key_of new_keys q ≡ cond (nat_eq id q) None (key_of keys q)) (fewer : length new_keys + 1 ≡ length keys)
        (up : SlabUpdates values new_values key None) where
      pub rows-remove : all_rows new_keys new_values (set timers key None) ≡ without id (all_rows keys values timers)
      rows-remove = rows-removed keys values timers sound.tied id key at new_keys new_values ix up

      pub sound-remove : IsSound new_keys new_values (set timers key None)
      sound-remove = record { tied = tied-removed keys values timers sound.tied id key at new_keys new_values ix up; as_many = go (row_of id (all_rows keys values timers)) refl }
        where
          go : (o : Option (Row T)) → row_of id (all_rows keys values timers) ≡ o → length new_keys ≡ length (all_rows new_keys new_values (set timers key None))
          go None e =
              let none : value_at values (key_of keys id) ≡ None = sym (value-is keys values timers sound.tied id) ∙ lookup-row id (all_rows keys values timers) ∙ ap (option_map (λ (r : Row T). r.value)) e in
              absurd (none-is (get values key) (ap (value_at values) (sym at) ∙ none) (sound.tied.held id key at))
            where
              none-is : (o : Option T) → o ≡ None → IsSome o → ⊥
              none-is None e h = search (h, rules)
              none-is (Some r) e h = search (e, rules)
          go (Some r) e =
              let shorter = length-without id (all_rows keys values timers) r e in
              let now = ap length rows-remove in
              let many = sound.as_many in
              omega (arith, shorter, now, many, fewer)

    -- Another time.
    pub sound-time : (time : Option ℕ) → IsSound keys values (set timers key (timer_named id time))
    sound-time time =
        record {
          tied = tied-timed keys values timers sound.tied id key at time;
          as_many = sound.as_many ∙ sym (ap length (rows-timed keys values timers sound.tied id key at time) ∙ length-changed id (λ r. record r { time = time }) (all_rows keys values timers));
        }

    pub rows-time : (time : Option ℕ) → all_rows keys values (set timers key (timer_named id time)) ≡ with_time id time (all_rows keys values timers)
    rows-time time = rows-timed keys values timers sound.tied id key at time

    -- Another value.
    pub sound-write : (new_values : Slab T) (value : T) → SlabUpdates values new_values key (Some value) → IsSound keys new_values timers
    sound-write new_values value up =
        record {
          tied = tied-written keys values timers sound.tied id key at new_values value up;
          as_many = sound.as_many ∙ sym (ap length (rows-written keys values timers sound.tied id key at new_values value up) ∙ length-changed id (λ r. record r { value = value }) (all_rows keys values timers));
        }

    -- The rows have that value.
    pub written : (new_values : Slab T) (value : T) → SlabUpdates values new_values key (Some value) → IsWritten id value (all_rows keys values timers) (all_rows keys new_values timers)
    written new_values value up =
        let rows = rows-written keys values timers sound.tied id key at new_values value up in
        record { rows = rows; entries = ap entries_of rows ∙ entries-changed id value (all_rows keys values timers) }

  -- Without a key a write changes nothing.
  pub unwritten : (id : ℕ) (value : T) → key_of keys id ≡ None → IsWritten id value (all_rows keys values timers) (all_rows keys values timers)
  unwritten id value none =
      let rows = rows-unwritten keys values timers sound.tied id value none in
      record { rows = rows; entries = ap entries_of rows ∙ entries-changed id value (all_rows keys values timers) }

-- A row has its place once there is room for it, its key stands behind the others, and its timer under the key.
module _ {T : Type 0} (keys : List (ℕ × ℕ)) (values : Slab T) (timers : List (Option Timer)) (sound : IsSound keys values timers)
    (room : Slab T) (same : room ≡ record values { capacity = room.capacity }) (more : List (Option Timer)) (x : IsExtended timers more)
    (id key : ℕ) (time : Option ℕ) (within : key < length more) (small : id < 2 ^ 32) (next : key ≡ room.vacant_key) (vacant : get room key ≡ None) (below : AllBelow id (all_rows keys values timers)) where
  same_rows : all_rows keys room more ≡ all_rows keys values timers
  same_rows = rows-roomy keys values timers sound room same more x

  roomy : IsSound keys room more
  roomy = sound-roomy keys values timers sound room same more x

  still_below : AllBelow id (all_rows keys room more)
  still_below = rw same_rows below

  under : (value : T) (stored : Slab T) → SlabUpdates room stored room.vacant_key (Some value) → SlabUpdates room stored key (Some value)
  under value stored up = rw next up

  pub place-made : IsPlace (all_rows keys values timers) id time (keys ++ (id, key) ∷ []) room (set more key (timer_named id time))
  place-made =
      record {
        sound = λ value stored up. sound-insert keys room more roomy stored id key value time within small (under value stored up) vacant still_below;
        rows = λ value stored up. rw (← same_rows) (rows-insert keys room more roomy stored id key value time within small (under value stored up) vacant still_below);
      }

-- A value that is stored under the vacant key, and then written.
module _ {T : Type 0} (room stored : Slab T) (key : ℕ) (value : T) (next : key ≡ room.vacant_key) (up : SlabUpdates room stored key (Some value)) where
  pub stored-vacant : SlabUpdates room stored room.vacant_key (Some value)
  stored-vacant = subst (λ k. SlabUpdates room stored k (Some value)) next up

  held : IsSome (get stored key)
  held = rw up.changed refl

  pub written-vacant : (w : T) → SlabUpdates room (slab_with stored key w) room.vacant_key (Some w)
  written-vacant w = subst (λ k. SlabUpdates room (slab_with stored key w) k (Some w)) next twice
    where
      wrote : SlabUpdates stored (slab_with stored key w) key (Some w)
      wrote = Updates-with_value stored key w held

      twice : SlabUpdates room (slab_with stored key w) key (Some w)
      twice = record { changed = wrote.changed; others = λ k n. wrote.others k n ∙ up.others k n }

-- A table without rows.
module _ {T : Type 0} (values : Slab T) where
  pub rows-empty : all_rows [] values [] ≡ []
  rows-empty = rows-none (row_at [] values []) 0 identifier_limit (λ id le. refl)

  pub sound-empty : IsSound [] values []
  sound-empty =
      record {
        tied =
            record {
              held = λ id key h. absurd (search (h, rules));
              own = λ one other key h k. absurd (search (h, rules));
              drawn = λ id key h. absurd (search (h, rules));
              covered = λ id key h. absurd (search (h, rules));
              named = λ key t h. absurd (search (h, rules));
            };
        as_many = sym (ap length rows-empty);
      }
