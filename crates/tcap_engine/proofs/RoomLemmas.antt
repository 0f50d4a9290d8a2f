-- How much is told at a moment, counted in the dialogues whose timer was reached.
use Rattle.std.proofs.Common.{◌≡◌, ◌⊎◌, inl, inr, ℕ, zero, suc, ◌+◌, ◌<◌, ◌≤◌, Bool, true, false, cond, ◌&&◌, nat_lt, nat_le, List, [], ◌∷◌, ◌++◌, min, length, map, filter, Option, Some, None, refl, ap, sym, ◌∙◌, arith, tests}
use Rattle.std.proofs.lemmas.Bool.{cases_Bool}
use Rattle.std.proofs.lemmas.List.{length-append, length-map}
use Rattle.std.proofs.lemmas.List.Concat.{flat_map-cons}
use Rattle.std.proofs.lemmas.List.Sums.{sum_by-cons}
use Rattle.std.specs.List.{cons_option, flat_map, sum_by}
use Rattle.tcap_dialogue.specs.Timers.{earliest}
use Rattle.tcap_engine.specs.IdleDialogues.{idle_ids}
use Rattle.tcap_engine.specs.Lapsing.{rows_timer, timer_of}
use Rattle.tcap_engine.specs.DialogueEntries.{dialogues_of}
use Rattle.tcap_engine.specs.Timed.{AreTimed}
use Rattle.tcap_engine.proofs.TimerLemmas.{quiet-rows}
use Rattle.tcap_invocation.specs.Closing.{ended_at}
use Rattle.tcap_invocation.specs.Invocations.{Row as InvocationRow}
use Rattle.tcap_invocation.specs.Lapses.{after_lapse, due_at, stays}
use Rattle.tcap_invocation.specs.Stage.{is_pending}
use Rattle.tcap_invocation.proofs.CallerLemmas.{length-in_order, total, total_in_order}
use Rattle.tcap_model.specs.Table.Dialogue.{Dialogue, idle_end, is_idle_at}
use Rattle.tcap_model.specs.Table.DueLapses.{all_due, all_idle_told, all_told, due_in, due_key, due_told, table_idle_key, table_idle_told}
use Rattle.tcap_model.specs.Table.TableMove.{ended_told}
use Rattle.tcap_model.specs.Words.KeyOrder.{in_order, key_before}
use Rattle.tcap_model.specs.Words.State.{is_live}
use Rattle.timed_table.specs.Row.{Row, due_values, entries_of, is_due}

-- How many lapse in a dialogue at a moment, and how many are told at most if it has been idle too long.
abbrev pub moment_weight : ℕ → Dialogue → ℕ
moment_weight now d = length (due_at now d.invocations.rows) + cond (is_idle_at now d) (1 + length (ended_at d.invocations.rows)) 0

-- One if a dialogue has been idle too long at a moment.
abbrev pub idle_weight : ℕ → Dialogue → ℕ
idle_weight now d = cond (is_idle_at now d) 1 0

-- ---- what is told of one dialogue and the rest

told-cons : (now : ℕ) (d : Dialogue) (ds : List Dialogue) → length (all_told now (d ∷ ds)) ≡ length (due_at now d.invocations.rows) + length (all_told now ds)
told-cons now d ds =
    told (d ∷ ds)
    ∙ length-append (due_in now d) (all_due now ds)
    ∙ ap (λ n. n + length (all_due now ds)) (length-map (due_at now d.invocations.rows) (λ lapse. record { dialogue = d.standing.identifier; lapse = lapse }))
    ∙ ap (λ n. length (due_at now d.invocations.rows) + n) (sym (told ds))
  where
    told : (xs : List Dialogue) → length (all_told now xs) ≡ length (all_due now xs)
    told xs = length-map (in_order due_key (all_due now xs)) due_told ∙ length-in_order (key_before due_key) (all_due now xs)

length-told : (now : ℕ) (ds : List Dialogue) → length (flat_map (table_idle_told now) ds) ≡ total (λ d. length (table_idle_told now d)) ds
length-told now [] = refl
length-told now (d ∷ ds) =
    ap length (flat_map-cons (table_idle_told now) d ds) ∙ length-append (table_idle_told now d) (flat_map (table_idle_told now) ds) ∙ ap (λ n. length (table_idle_told now d) + n) (length-told now ds)

idle-cons : (now : ℕ) (d : Dialogue) (ds : List Dialogue) → length (all_idle_told now (d ∷ ds)) ≡ cond (is_idle_at now d) (length (table_idle_told now d)) 0 + length (all_idle_told now ds)
idle-cons now d ds = told (d ∷ ds) ∙ go (is_idle_at now d) ∙ ap (λ n. cond (is_idle_at now d) (length (table_idle_told now d)) 0 + n) (sym (told ds))
  where
    long : Dialogue → ℕ
    long e = length (table_idle_told now e)

    rest : List Dialogue
    rest = filter (is_idle_at now) ds

    told : (xs : List Dialogue) → length (all_idle_told now xs) ≡ total (λ e. length (table_idle_told now e)) (filter (is_idle_at now) xs)
    told xs = length-told now (in_order table_idle_key (filter (is_idle_at now) xs)) ∙ total_in_order (key_before table_idle_key) (λ e. length (table_idle_told now e)) (filter (is_idle_at now) xs)

    go : (b : Bool) → total (λ e. length (table_idle_told now e)) (cond b (d ∷ rest) rest) ≡ cond b (length (table_idle_told now d)) 0 + total (λ e. length (table_idle_told now e)) rest
    go true = refl
    go false = omega arith

ids-cons : (now : ℕ) (p : ℕ × Dialogue) (ps : List (ℕ × Dialogue)) → length (idle_ids now (p ∷ ps)) ≡ idle_weight now p.1 + length (idle_ids now ps)
ids-cons now p ps = ids (p ∷ ps) ∙ go (is_idle_at now p.1) ∙ ap (λ n. idle_weight now p.1 + n) (sym (ids ps))
  where
    rest : List Dialogue
    rest = filter (is_idle_at now) (dialogues_of ps)

    ids : (qs : List (ℕ × Dialogue)) → length (idle_ids now qs) ≡ length (filter (is_idle_at now) (dialogues_of qs))
    ids qs = length-map (in_order table_idle_key (filter (is_idle_at now) (dialogues_of qs))) (λ d. d.standing.identifier) ∙ length-in_order (key_before table_idle_key) (filter (is_idle_at now) (dialogues_of qs))

    go : (b : Bool) → length (cond b (p.1 ∷ rest) rest) ≡ cond b 1 0 + length rest
    go true = omega arith
    go false = omega arith

-- What lapses is no longer there at the end.
fewer-ended : (now : ℕ) (rows : List InvocationRow) → length (ended_at (filter (λ r. stays now r.1.stage) rows)) ≤ length (ended_at rows)
fewer-ended now [] = omega arith
fewer-ended now (r ∷ rows) = go (stays now r.1.stage) (is_pending r.1.stage) refl (fewer-ended now rows)
  where
    left : List InvocationRow
    left = filter (λ r. stays now r.1.stage) rows

    go : (b c : Bool) → is_pending r.1.stage ≡ c → length (ended_at left) ≤ length (ended_at rows) → length (ended_at (cond b (r ∷ left) left)) ≤ length (cons_option (cond c (Some (r.1.number, r.0)) None) (ended_at rows))
    go true true e ih = rw e (omega (arith, ih))
    go true false e ih = rw e ih
    go false true e ih = omega (arith, ih)
    go false false e ih = ih

idle-most : (now : ℕ) (d : Dialogue) → length (table_idle_told now d) ≤ 1 + length (ended_at d.invocations.rows)
idle-most now d =
    let told : length (ended_told d.standing.identifier (after_lapse d.invocations now)) ≡ length (ended_at (after_lapse d.invocations now).rows) = length-map (ended_at (after_lapse d.invocations now).rows) _ in
    let fewer = fewer-ended now d.invocations.rows in
    omega (arith, told, fewer)

-- ---- a dialogue whose timer wasn't reached

late-either : (now : ℕ) (a b : Option ℕ) → is_due now (earliest a b) ≡ false → (is_due now a ≡ false) × (is_due now b ≡ false)
late-either now None b h = (refl, h)
late-either now (Some x) None h = (h, refl)
late-either now (Some x) (Some y) h = go (cases_Bool (nat_lt y x))
  where
    go : (nat_lt y x ≡ true) ⊎ (nat_lt y x ≡ false) → (nat_le x now ≡ false) × (nat_le y now ≡ false)
    go (inl e) = let late : nat_le y now ≡ false = ap (λ b. nat_le (cond b y x) now) (sym e) ∙ h in (grind (arith, tests, e, late), late)
    go (inr e) = let late : nat_le x now ≡ false = ap (λ b. nat_le (cond b y x) now) (sym e) ∙ h in (late, grind (arith, tests, e, late))

late-end : (now : ℕ) (d : Dialogue) → is_due now (idle_end d) ≡ false → is_idle_at now d ≡ false
late-end now d h = go (is_live d.standing.state) (nat_lt 0 d.idle_ms) h
  where
    go : (a b : Bool) → is_due now (cond (a && b) (Some (d.touched + d.idle_ms)) None) ≡ false → (a && (b && nat_le (d.touched + d.idle_ms) now)) ≡ false
    go true true e = e
    go true false e = refl
    go false b e = refl

-- None of its invocations is due, and it hasn't been idle too long.
pub late-timer : (now : ℕ) (d : Dialogue) → is_due now (timer_of d) ≡ false → (is_due now (rows_timer d) ≡ false) × (is_idle_at now d ≡ false)
late-timer now d h = let both = late-either now (rows_timer d) (idle_end d) h in (both.0, late-end now d both.1)

late-none : (now : ℕ) (d : Dialogue) → is_due now (timer_of d) ≡ false → (length (due_at now d.invocations.rows) ≡ 0) × (is_idle_at now d ≡ false)
late-none now d h = let late = late-timer now d h in (ap length (quiet-rows now d.invocations.rows late.0).0, late.1)

-- ---- all dialogues

one-of : (a m n : ℕ) → 0 < a + m → (0 < m → 0 < n) → 0 < a + n
one-of zero m n some rest = let one = rest (omega (arith, some)) in omega (arith, one)
one-of (suc a) m n some rest = omega arith

module _ (now : ℕ) where
  -- how much is told
  abbrev room : List (Row Dialogue) → ℕ
  room rows = length (all_told now (dialogues_of (entries_of rows))) + length (all_idle_told now (dialogues_of (entries_of rows)))

  room-cons : (r : Row Dialogue) (rows : List (Row Dialogue)) → room (r ∷ rows) ≡ length (due_at now r.value.invocations.rows) + cond (is_idle_at now r.value) (length (table_idle_told now r.value)) 0 + room rows
  room-cons r rows =
      let told = told-cons now r.value (dialogues_of (entries_of rows)) in
      let idle = idle-cons now r.value (dialogues_of (entries_of rows)) in
      omega (arith, told, idle)

  room-late : (r : Row Dialogue) (rows : List (Row Dialogue)) → is_due now (timer_of r.value) ≡ false → room (r ∷ rows) ≡ room rows
  room-late r rows late =
      let none = late-none now r.value late in
      let zero = none.0 in
      let still = ap (λ b. cond b (length (table_idle_told now r.value)) 0) none.1 in
      let all = room-cons r rows in
      omega (arith, zero, still, all)

  -- All that is told has room in what the dialogues count whose timer was reached.
  pub room-rows : (rows : List (Row Dialogue)) → AreTimed rows → length (all_told now (dialogues_of (entries_of rows))) + length (all_idle_told now (dialogues_of (entries_of rows))) ≤ sum_by (moment_weight now) (due_values now rows)
  room-rows [] h = omega arith
  room-rows (r ∷ rows) h = go (is_due now r.time) refl (room-rows rows h.1)
    where
      left : List (Row Dialogue)
      left = filter (λ r. is_due now r.time) rows

      most : (b : Bool) → cond b (length (table_idle_told now r.value)) 0 ≤ cond b (1 + length (ended_at r.value.invocations.rows)) 0
      most true = idle-most now r.value
      most false = omega arith

      go : (b : Bool) → is_due now r.time ≡ b → room rows ≤ sum_by (moment_weight now) (due_values now rows) → room (r ∷ rows) ≤ sum_by (moment_weight now) (map (λ r. r.value) (cond b (r ∷ left) left))
      go true e ih =
          let all = room-cons r rows in
          let weights = sum_by-cons (moment_weight now) r.value (due_values now rows) in
          let less = most (is_idle_at now r.value) in
          omega (arith, ih, all, weights, less)
      go false e ih = let all = room-late r rows (ap (is_due now) (sym h.0) ∙ e) in omega (arith, ih, all)

  -- Those that have been idle too long are dialogues whose timer was reached.
  pub idle-rows-count : (rows : List (Row Dialogue)) → AreTimed rows → length (idle_ids now (entries_of rows)) ≡ sum_by (idle_weight now) (due_values now rows)
  idle-rows-count [] h = refl
  idle-rows-count (r ∷ rows) h = go (is_due now r.time) refl (idle-rows-count rows h.1)
    where
      left : List (Row Dialogue)
      left = filter (λ r. is_due now r.time) rows

      go : (b : Bool) → is_due now r.time ≡ b → length (idle_ids now (entries_of rows)) ≡ sum_by (idle_weight now) (due_values now rows)
          → length (idle_ids now (entries_of (r ∷ rows))) ≡ sum_by (idle_weight now) (map (λ r. r.value) (cond b (r ∷ left) left))
      go true e ih = ids-cons now (r.identifier, r.value) (entries_of rows) ∙ ap (λ n. idle_weight now r.value + n) ih ∙ sym (sum_by-cons (idle_weight now) r.value (due_values now rows))
      go false e ih =
          let still = (late-none now r.value (ap (is_due now) (sym h.0) ∙ e)).1 in
          ids-cons now (r.identifier, r.value) (entries_of rows) ∙ ap (λ b. cond b 1 0 + length (idle_ids now (entries_of rows))) still ∙ omega (arith, ih)

  -- Where they count anything, something is told.
  pub move-told : (rows : List (Row Dialogue)) → AreTimed rows → 0 < sum_by (moment_weight now) (due_values now rows)
      → 0 < length (all_told now (dialogues_of (entries_of rows))) + length (all_idle_told now (dialogues_of (entries_of rows)))
  move-told [] h some = absurd (omega (arith, some))
  move-told (r ∷ rows) h some = go (is_due now r.time) refl some (move-told rows h.1)
    where
      left : List (Row Dialogue)
      left = filter (λ r. is_due now r.time) rows

      count : ℕ
      count = sum_by (moment_weight now) (due_values now rows)

      here : (b : Bool) → 0 < length (due_at now r.value.invocations.rows) + cond b (1 + length (ended_at r.value.invocations.rows)) 0 + count → (0 < count → 0 < room rows)
          → 0 < length (due_at now r.value.invocations.rows) + cond b (length (table_idle_told now r.value)) 0 + room rows
      here true k ih = omega arith
      here false k ih =
          let one = one-of (length (due_at now r.value.invocations.rows)) count (room rows) (omega (arith, k)) ih in
          omega (arith, one)

      go : (b : Bool) → is_due now r.time ≡ b → 0 < sum_by (moment_weight now) (map (λ r. r.value) (cond b (r ∷ left) left)) → (0 < count → 0 < room rows) → 0 < room (r ∷ rows)
      go true e k ih =
          let weights = sum_by-cons (moment_weight now) r.value (due_values now rows) in
          let all = room-cons r rows in
          let told = here (is_idle_at now r.value) (omega (arith, k, weights)) ih in
          omega (arith, told, all)
      go false e k ih = let all = room-late r rows (ap (is_due now) (sym h.0) ∙ e) in let rest = ih k in omega (arith, all, rest)

-- ---- a count as far as a `usize` can tell

pub is-enough : (count total most told : ℕ) → count ≡ min total most → told ≤ total → (told ≤ count) ⊎ (count ≡ most)
is-enough count total most told e le = elim (cases_Bool (nat_le total most)) [
  | inl within ↦ inl (let low : total ≤ most = grind (arith, tests, within) in omega (arith, e, le, low))
  | inr beyond ↦ inr (let high : most < total = grind (arith, tests, beyond) in omega (arith, e, high))
]

pub is-some : (count total most : ℕ) → count ≡ min total most → (count ≡ 0 → ⊥) → 0 < total
is-some count zero most e other = absurd (other (omega (arith, e)))
is-some count (suc total) most e other = omega arith

pub is-long : {X : Type 0} (xs ys : List X) → 0 < length xs + length ys → xs ++ ys ≡ [] → ⊥
is-long {X = X} xs ys some none = let all = length-append xs ys in let long = ap (λ (l : List X). length l) none in absurd (omega (arith, some, all, long))
