-- The rows of all identifiers: what is found in them, and what they are after one of them changed.
use Rattle.std.proofs.Common.{◌≡◌, ◌≢◌, ℕ, zero, suc, ◌+◌, ◌<◌, ◌≤◌, ◌⊎◌, inl, inr, List, [], ◌∷◌, ◌++◌, length, true, false, cond, nat_eq, Option, Some, None, option_map, refl, sym, ap, ◌∙◌, subst, arith, rules, tests}
use Rattle.std.proofs.lemmas.Bool.{cases_eq, cases_Bool, eqb-true}
use Rattle.std.specs.List.{cons_option}
use Rattle.std.specs.Map.{lookup, set_value, remove_entry}
use Rattle.timed_table.specs.Row.{Row, entries_of, row_of, changed, without, AllBelow, IsRising}
use Rattle.timed_table.specs.Tied.{rows_from}

eq-same : (a : ℕ) → nat_eq a a ≡ true
eq-same a = grind (arith, tests)

eq-apart : (a b : ℕ) → a ≢ b → nat_eq a b ≡ false
eq-apart a b n = grind (arith, tests, n)

none_some : {X : Type 0} (o : Option X) (x : X) → o ≡ None → o ≡ Some x → ⊥
none_some o x n s = let bad : None ≡ Some x = sym n ∙ s in search (bad, rules)

module _ {T : Type 0} where
  -- The value that is found under an identifier is that of its row.
  pub lookup-row : (id : ℕ) (rows : List (Row T)) → lookup (nat_eq id) (entries_of rows) ≡ option_map (λ r. r.value) (row_of id rows)
  lookup-row id [] = refl
  lookup-row id (r ∷ rows) = go (cases_Bool (nat_eq id r.identifier)) (lookup-row id rows)
    where
      go : (nat_eq id r.identifier ≡ true) ⊎ (nat_eq id r.identifier ≡ false) → lookup (nat_eq id) (entries_of rows) ≡ option_map (λ q. q.value) (row_of id rows)
          → cond (nat_eq id r.identifier) (Some r.value) (lookup (nat_eq id) (entries_of rows)) ≡ option_map (λ q. q.value) (cond (nat_eq id r.identifier) (Some r) (row_of id rows))
      go (inl e) ih = rw e refl
      go (inr e) ih = rw e ih

  -- The row that is found has the identifier.
  pub found-own : (id : ℕ) (rows : List (Row T)) (r : Row T) → row_of id rows ≡ Some r → r.identifier ≡ id
  found-own id [] r h = absurd (search (h, rules))
  found-own id (q ∷ rows) r h = go (cases_Bool (nat_eq id q.identifier)) (found-own id rows r)
    where
      go : (nat_eq id q.identifier ≡ true) ⊎ (nat_eq id q.identifier ≡ false) → (row_of id rows ≡ Some r → r.identifier ≡ id) → r.identifier ≡ id
      go (inl e) ih =
          let same : Some q ≡ Some r = ap (λ b. cond b (Some q) (row_of id rows)) (sym e) ∙ h in
          let is : q ≡ r = cc in
          ap (λ (x : Row T). x.identifier) (sym is) ∙ sym (eqb-true id q.identifier e)
      go (inr e) ih = ih (ap (λ b. cond b (Some q) (row_of id rows)) (sym e) ∙ h)

  -- Where all are below an identifier, the row that is found is.
  pub found-below : (bound id : ℕ) (rows : List (Row T)) (r : Row T) → AllBelow bound rows → row_of id rows ≡ Some r → r.identifier < bound
  found-below bound id [] r all h = absurd (search (h, rules))
  found-below bound id (q ∷ rows) r all h = go (cases_Bool (nat_eq id q.identifier)) (found-below bound id rows r all.1)
    where
      go : (nat_eq id q.identifier ≡ true) ⊎ (nat_eq id q.identifier ≡ false) → (row_of id rows ≡ Some r → r.identifier < bound) → r.identifier < bound
      go (inl e) ih =
          let same : Some q ≡ Some r = ap (λ b. cond b (Some q) (row_of id rows)) (sym e) ∙ h in
          let is : q ≡ r = cc in
          subst (λ (x : Row T). x.identifier < bound) is all.0
      go (inr e) ih = ih (ap (λ b. cond b (Some q) (row_of id rows)) (sym e) ∙ h)

  pub length-changed : (id : ℕ) (change : Row T → Row T) (rows : List (Row T)) → length (changed id change rows) ≡ length rows
  length-changed id change [] = refl
  length-changed id change (r ∷ rows) = go (cases_Bool (nat_eq id r.identifier)) (length-changed id change rows)
    where
      go : (nat_eq id r.identifier ≡ true) ⊎ (nat_eq id r.identifier ≡ false) → length (changed id change rows) ≡ length rows → length (cond (nat_eq id r.identifier) (change r ∷ rows) (r ∷ changed id change rows)) ≡ suc (length rows)
      go (inl e) ih = rw e refl
      go (inr e) ih = rw e (ap suc ih)

  pub length-without : (id : ℕ) (rows : List (Row T)) (r : Row T) → row_of id rows ≡ Some r → length (without id rows) + 1 ≡ length rows
  length-without id [] r h = absurd (search (h, rules))
  length-without id (q ∷ rows) r h = go (cases_Bool (nat_eq id q.identifier)) (length-without id rows r)
    where
      go : (nat_eq id q.identifier ≡ true) ⊎ (nat_eq id q.identifier ≡ false) → (row_of id rows ≡ Some r → length (without id rows) + 1 ≡ length rows)
          → length (cond (nat_eq id q.identifier) rows (q ∷ without id rows)) + 1 ≡ suc (length rows)
      go (inl e) ih = rw e (omega arith)
      go (inr e) ih = let rest = ih (ap (λ b. cond b (Some q) (row_of id rows)) (sym e) ∙ h) in rw e (omega (arith, rest))

  -- The entries after a change of a value are those with that value, and after a removal those without it.
  pub entries-changed : (id : ℕ) (w : T) (rows : List (Row T)) → entries_of (changed id (λ r. record r { value = w }) rows) ≡ set_value (nat_eq id) (entries_of rows) w
  entries-changed id w [] = refl
  entries-changed id w (r ∷ rows) = go (cases_Bool (nat_eq id r.identifier)) (entries-changed id w rows)
    where
      go : (nat_eq id r.identifier ≡ true) ⊎ (nat_eq id r.identifier ≡ false)
          → entries_of (changed id (λ q. record q { value = w }) rows) ≡ set_value (nat_eq id) (entries_of rows) w
          → entries_of (cond (nat_eq id r.identifier) (record r { value = w } ∷ rows) (r ∷ changed id (λ q. record q { value = w }) rows))
          ≡ cond (nat_eq id r.identifier) ((r.identifier, w) ∷ entries_of rows) ((r.identifier, r.value) ∷ set_value (nat_eq id) (entries_of rows) w)
      go (inl e) ih = rw e refl
      go (inr e) ih = rw e (ap (λ (l : List (ℕ × T)). (r.identifier, r.value) ∷ l) ih)

  pub entries-time : (id : ℕ) (time : Option ℕ) (rows : List (Row T)) → entries_of (changed id (λ r. record r { time = time }) rows) ≡ entries_of rows
  entries-time id time [] = refl
  entries-time id time (r ∷ rows) = go (cases_Bool (nat_eq id r.identifier)) (entries-time id time rows)
    where
      go : (nat_eq id r.identifier ≡ true) ⊎ (nat_eq id r.identifier ≡ false)
          → entries_of (changed id (λ q. record q { time = time }) rows) ≡ entries_of rows
          → entries_of (cond (nat_eq id r.identifier) (record r { time = time } ∷ rows) (r ∷ changed id (λ q. record q { time = time }) rows)) ≡ (r.identifier, r.value) ∷ entries_of rows
      go (inl e) ih = rw e refl
      go (inr e) ih = rw e (ap (λ (l : List (ℕ × T)). (r.identifier, r.value) ∷ l) ih)

  pub entries-without : (id : ℕ) (rows : List (Row T)) → entries_of (without id rows) ≡ remove_entry (nat_eq id) (entries_of rows)
  entries-without id [] = refl
  entries-without id (r ∷ rows) = go (cases_Bool (nat_eq id r.identifier)) (entries-without id rows)
    where
      go : (nat_eq id r.identifier ≡ true) ⊎ (nat_eq id r.identifier ≡ false) → entries_of (without id rows) ≡ remove_entry (nat_eq id) (entries_of rows)
          → entries_of (cond (nat_eq id r.identifier) rows (r ∷ without id rows)) ≡ cond (nat_eq id r.identifier) (entries_of rows) ((r.identifier, r.value) ∷ remove_entry (nat_eq id) (entries_of rows))
      go (inl e) ih = rw e refl
      go (inr e) ih = rw e (ap (λ (l : List (ℕ × T)). (r.identifier, r.value) ∷ l) ih)

  -- Rows that are the same identifier by identifier.
  pub rows-same : (at new : ℕ → Option (Row T)) (low count : ℕ) → ((id : ℕ) → low ≤ id → new id ≡ at id) → rows_from new low count ≡ rows_from at low count
  rows-same at new low zero same = refl
  rows-same at new low (suc count) same =
      let rest = rows-same at new (low + 1) count (λ id le. same id (omega (arith, le))) in
      ap (λ o. cons_option o (rows_from new (low + 1) count)) (same low (omega arith)) ∙ ap (λ (l : List (Row T)). cons_option (at low) l) rest

  pub rows-none : (at : ℕ → Option (Row T)) (low count : ℕ) → ((id : ℕ) → low ≤ id → at id ≡ None) → rows_from at low count ≡ []
  rows-none at low zero none = refl
  rows-none at low (suc count) none =
      let rest = rows-none at (low + 1) count (λ id le. none id (omega (arith, le))) in
      ap (λ o. cons_option o (rows_from at (low + 1) count)) (none low (omega arith)) ∙ rest

  rising-lower : (low high : ℕ) (rows : List (Row T)) → low ≤ high → IsRising high rows → IsRising low rows
  rising-lower low high [] le h = tt
  rising-lower low high (r ∷ rows) le h = (omega (arith, le, h.0), h.1)

  module _ (at : ℕ → Option (Row T)) (names : (id : ℕ) (r : Row T) → at id ≡ Some r → r.identifier ≡ id) where
    -- No row before the first identifier is found.
    row-before : (id low count : ℕ) → id < low → row_of id (rows_from at low count) ≡ None
    row-before id low zero lt = refl
    row-before id low (suc count) lt = go (at low) refl (row-before id (low + 1) count (omega (arith, lt)))
      where
        go : (o : Option (Row T)) → at low ≡ o → row_of id (rows_from at (low + 1) count) ≡ None → row_of id (cons_option (at low) (rows_from at (low + 1) count)) ≡ None
        go None e ih = rw e ih
        go (Some r) e ih =
            let name = names low r e in
            let apart : nat_eq id r.identifier ≡ false = eq-apart id r.identifier (λ s. omega (arith, lt, name, s)) in
            rw e (rw apart ih)

    -- Nor is one past the last.
    pub row-past : (id low count : ℕ) → low + count ≤ id → row_of id (rows_from at low count) ≡ None
    row-past id low zero le = refl
    row-past id low (suc count) le = go (at low) refl (row-past id (low + 1) count (omega (arith, le)))
      where
        go : (o : Option (Row T)) → at low ≡ o → row_of id (rows_from at (low + 1) count) ≡ None → row_of id (cons_option (at low) (rows_from at (low + 1) count)) ≡ None
        go None e ih = rw e ih
        go (Some r) e ih =
            let name = names low r e in
            let apart : nat_eq id r.identifier ≡ false = eq-apart id r.identifier (λ s. omega (arith, le, name, s)) in
            rw e (rw apart ih)

    -- The identifiers rise.
    pub rows-rising : (low count : ℕ) → IsRising low (rows_from at low count)
    rows-rising low zero = tt
    rows-rising low (suc count) = go (at low) refl (rows-rising (low + 1) count)
      where
        go : (o : Option (Row T)) → at low ≡ o → IsRising (low + 1) (rows_from at (low + 1) count) → IsRising low (cons_option (at low) (rows_from at (low + 1) count))
        go None e ih = rw e (rising-lower low (low + 1) (rows_from at (low + 1) count) (omega arith) ih)
        go (Some r) e ih =
            let name = names low r e in
            rw e (omega (arith, name), subst (λ n. IsRising (n + 1) (rows_from at (low + 1) count)) (sym name) ih)

    -- The row of an identifier is found.
    pub row-found : (id low count : ℕ) → low ≤ id → id < low + count → row_of id (rows_from at low count) ≡ at id
    row-found id low zero le lt = absurd (omega (arith, le, lt))
    row-found id low (suc count) le lt = go (at low) refl (cases_eq id low) (row-found id (low + 1) count)
      where
        go : (o : Option (Row T)) → at low ≡ o → (id ≡ low) ⊎ (id ≢ low) → (low + 1 ≤ id → id < low + 1 + count → row_of id (rows_from at (low + 1) count) ≡ at id)
            → row_of id (cons_option (at low) (rows_from at (low + 1) count)) ≡ at id
        go None e (inl s) ih = ap (λ o. row_of id (cons_option o (rows_from at (low + 1) count))) e ∙ row-before id (low + 1) count (omega (arith, s)) ∙ sym (ap at s ∙ e)
        go None e (inr n) ih = ap (λ o. row_of id (cons_option o (rows_from at (low + 1) count))) e ∙ ih (omega (arith, le, n)) (omega (arith, lt))
        go (Some r) e (inl s) ih =
            let name = names low r e in
            let here : nat_eq id r.identifier ≡ true = ap (nat_eq id) (name ∙ sym s) ∙ eq-same id in
            ap (λ o. row_of id (cons_option o (rows_from at (low + 1) count))) e ∙ ap (λ b. cond b (Some r) (row_of id (rows_from at (low + 1) count))) here ∙ sym (ap at s ∙ e)
        go (Some r) e (inr n) ih =
            let name = names low r e in
            let apart : nat_eq id r.identifier ≡ false = eq-apart id r.identifier (λ s. n (s ∙ name)) in
            ap (λ o. row_of id (cons_option o (rows_from at (low + 1) count))) e ∙ ap (λ b. cond b (Some r) (row_of id (rows_from at (low + 1) count))) apart ∙ ih (omega (arith, le, n)) (omega (arith, lt))

    module _ (new : ℕ → Option (Row T)) (id : ℕ) (others : (other : ℕ) → other ≢ id → new other ≡ at other) where
      -- The row of one identifier changed.
      module _ (change : Row T → Row T) (here : new id ≡ option_map change (at id)) where
        changed-before : (low count : ℕ) → id < low → changed id change (rows_from at low count) ≡ rows_from at low count
        changed-before low zero lt = refl
        changed-before low (suc count) lt = go (at low) refl (changed-before (low + 1) count (omega (arith, lt)))
          where
            go : (o : Option (Row T)) → at low ≡ o → changed id change (rows_from at (low + 1) count) ≡ rows_from at (low + 1) count
                → changed id change (cons_option (at low) (rows_from at (low + 1) count)) ≡ cons_option (at low) (rows_from at (low + 1) count)
            go None e ih = rw e ih
            go (Some r) e ih =
                let name = names low r e in
                let apart : nat_eq id r.identifier ≡ false = eq-apart id r.identifier (λ s. omega (arith, lt, name, s)) in
                rw e (rw apart (ap (λ (l : List (Row T)). r ∷ l) ih))

        pub rows-changed : (low count : ℕ) → rows_from new low count ≡ changed id change (rows_from at low count)
        rows-changed low zero = refl
        rows-changed low (suc count) = go (at low) refl (cases_eq low id) (rows-changed (low + 1) count)
          where
            go : (o : Option (Row T)) → at low ≡ o → (low ≡ id) ⊎ (low ≢ id) → rows_from new (low + 1) count ≡ changed id change (rows_from at (low + 1) count)
                → cons_option (new low) (rows_from new (low + 1) count) ≡ changed id change (cons_option (at low) (rows_from at (low + 1) count))
            go None e (inl s) ih =
                let now : new low ≡ None = ap new s ∙ here ∙ ap (option_map change) (sym (ap at s) ∙ e) in
                rw (now, e) ih
            go None e (inr n) ih = rw (others low n, e) ih
            go (Some r) e (inl s) ih =
                let now : new low ≡ Some (change r) = ap new s ∙ here ∙ ap (option_map change) (sym (ap at s) ∙ e) in
                let name = names low r e in
                let same : nat_eq id r.identifier ≡ true = ap (nat_eq id) (name ∙ s) ∙ eq-same id in
                rw (now, e) (rw same (ap (λ (l : List (Row T)). change r ∷ l) (ih ∙ changed-before (low + 1) count (omega (arith, s)))))
            go (Some r) e (inr n) ih =
                let name = names low r e in
                let apart : nat_eq id r.identifier ≡ false = eq-apart id r.identifier (λ s. n (sym (s ∙ name))) in
                rw (others low n, e) (rw apart (ap (λ (l : List (Row T)). r ∷ l) ih))

      -- The row of one identifier is gone.
      module _ (gone : new id ≡ None) where
        pub rows-without : (low count : ℕ) → rows_from new low count ≡ without id (rows_from at low count)
        rows-without low zero = refl
        rows-without low (suc count) = go (at low) refl (cases_eq low id) (rows-without (low + 1) count)
          where
            without-before : (low count : ℕ) → id < low → without id (rows_from at low count) ≡ rows_from at low count
            without-before low zero lt = refl
            without-before low (suc count) lt = go (at low) refl (without-before (low + 1) count (omega (arith, lt)))
              where
                go : (o : Option (Row T)) → at low ≡ o → without id (rows_from at (low + 1) count) ≡ rows_from at (low + 1) count
                    → without id (cons_option (at low) (rows_from at (low + 1) count)) ≡ cons_option (at low) (rows_from at (low + 1) count)
                go None e ih = rw e ih
                go (Some r) e ih =
                    let name = names low r e in
                    let apart : nat_eq id r.identifier ≡ false = eq-apart id r.identifier (λ s. omega (arith, lt, name, s)) in
                    rw e (rw apart (ap (λ (l : List (Row T)). r ∷ l) ih))

            go : (o : Option (Row T)) → at low ≡ o → (low ≡ id) ⊎ (low ≢ id) → rows_from new (low + 1) count ≡ without id (rows_from at (low + 1) count)
                → cons_option (new low) (rows_from new (low + 1) count) ≡ without id (cons_option (at low) (rows_from at (low + 1) count))
            go None e (inl s) ih = let now : new low ≡ None = ap new s ∙ gone in rw (now, e) ih
            go None e (inr n) ih = rw (others low n, e) ih
            go (Some r) e (inl s) ih =
                let now : new low ≡ None = ap new s ∙ gone in
                let name = names low r e in
                let same : nat_eq id r.identifier ≡ true = ap (nat_eq id) (name ∙ s) ∙ eq-same id in
                rw (now, e) (rw same (ih ∙ without-before (low + 1) count (omega (arith, s))))
            go (Some r) e (inr n) ih =
                let name = names low r e in
                let apart : nat_eq id r.identifier ≡ false = eq-apart id r.identifier (λ s. n (sym (s ∙ name))) in
                rw (others low n, e) (rw apart (ap (λ (l : List (Row T)). r ∷ l) ih))

      -- A row came behind all others.
      module _ (row : Row T) (come : new id ≡ Some row) (last : (other : ℕ) → id ≤ other → at other ≡ None) where
        pub rows-added : (low count : ℕ) → low ≤ id → id < low + count → rows_from new low count ≡ rows_from at low count ++ row ∷ []
        rows-added low zero le lt = absurd (omega (arith, le, lt))
        rows-added low (suc count) le lt = go (at low) refl (cases_eq low id) (rows-added (low + 1) count)
          where
            go : (o : Option (Row T)) → at low ≡ o → (low ≡ id) ⊎ (low ≢ id)
                → (low + 1 ≤ id → id < low + 1 + count → rows_from new (low + 1) count ≡ rows_from at (low + 1) count ++ row ∷ [])
                → cons_option (new low) (rows_from new (low + 1) count) ≡ cons_option (at low) (rows_from at (low + 1) count) ++ row ∷ []
            go o e (inl s) ih =
                let now : new low ≡ Some row = ap new s ∙ come in
                let was : at low ≡ None = last low (omega (arith, s)) in
                let later : rows_from new (low + 1) count ≡ [] = rows-none new (low + 1) count (λ other more. others other (λ q. omega (arith, s, more, q)) ∙ last other (omega (arith, s, more))) in
                let before : rows_from at (low + 1) count ≡ [] = rows-none at (low + 1) count (λ other more. last other (omega (arith, s, more))) in
                rw (now, was) (rw (later, before) refl)
            go None e (inr n) ih = rw (others low n, e) (ih (omega (arith, le, n)) (omega (arith, lt)))
            go (Some r) e (inr n) ih = rw (others low n, e) (ap (λ (l : List (Row T)). r ∷ l) (ih (omega (arith, le, n)) (omega (arith, lt))))
