-- The timers beside the dialogues after a write, a removal and a birth, and the first of them.
use Rattle.std.proofs.Common.{◌≡◌, ℕ, ◌+◌, ◌<◌, ◌≤◌, Bool, true, false, cond, nat_eq, List, [], ◌∷◌, ◌++◌, Option, Some, None, refl, ap, sym, ◌∙◌, arith, tests}
use Rattle.std.proofs.lemmas.List.{map-append}
use Rattle.std.specs.Prelude.{IfSome, MatchOption}
use Rattle.std.specs.Map.{lookup}
use Rattle.tcap_engine.specs.Lapsing.{AreBehind, AreUntimed, IsFirstTimer, timer_of}
use Rattle.tcap_engine.specs.DialogueEntries.{AreDrawn}
use Rattle.tcap_engine.specs.Timed.{AreTimed}
use Rattle.tcap_model.specs.Table.Dialogue.{Dialogue}
use Rattle.timed_table.specs.Row.{Row, AllBelow, HasNoTime, IsFirst, IsRising, entries_of, is_before, row_of, time_in, with_time, with_value, without}

-- ---- changes

-- A dialogue that was written, with its timer of then.
pub timed-set : (d : ℕ) (new : Dialogue) (rows : List (Row Dialogue)) → AreTimed rows → AreTimed (with_time d (timer_of new) (with_value d new rows))
timed-set d new [] h = tt
timed-set d new (r ∷ rows) h = go (nat_eq d r.identifier) refl (timed-set d new rows h.1)
  where
    go : (b : Bool) → nat_eq d r.identifier ≡ b → AreTimed (with_time d (timer_of new) (with_value d new rows))
        → AreTimed (with_time d (timer_of new) (cond b (record r { value = new } ∷ rows) (r ∷ with_value d new rows)))
    go true e ih = rw e (refl, h.1)
    go false e ih = rw e (h.0, ih)

-- One that was written with the same timer.
pub timed-alike : (d : ℕ) (old new : Dialogue) (rows : List (Row Dialogue)) → lookup (nat_eq d) (entries_of rows) ≡ Some old → timer_of new ≡ timer_of old → AreTimed rows → AreTimed (with_value d new rows)
timed-alike d old new [] found same h = tt
timed-alike d old new (r ∷ rows) found same h = go (nat_eq d r.identifier) found (λ f. timed-alike d old new rows f same h.1)
  where
    go : (b : Bool) → cond b (Some r.value) (lookup (nat_eq d) (entries_of rows)) ≡ Some old → (lookup (nat_eq d) (entries_of rows) ≡ Some old → AreTimed (with_value d new rows))
        → AreTimed (cond b (record r { value = new } ∷ rows) (r ∷ with_value d new rows))
    go true f ih = let own : r.value ≡ old = cc in (h.0 ∙ ap timer_of own ∙ sym same, h.1)
    go false f ih = (h.0, ih f)

-- One that was written back as it was.
pub timed-still : (d : ℕ) (old new : Dialogue) (rows : List (Row Dialogue)) → lookup (nat_eq d) (entries_of rows) ≡ Some old → new ≡ old → AreTimed rows → AreTimed (with_value d new rows)
timed-still d old new rows found same h = timed-alike d old new rows found (ap timer_of same) h

-- It makes no difference to the rest how one was written that is taken out.
pub without-written : (d : ℕ) (new : Dialogue) (rows : List (Row Dialogue)) → without d (with_value d new rows) ≡ without d rows
without-written d new [] = refl
without-written d new (r ∷ rows) = go (nat_eq d r.identifier) refl (without-written d new rows)
  where
    go : (b : Bool) → nat_eq d r.identifier ≡ b → without d (with_value d new rows) ≡ without d rows
        → without d (cond b (record r { value = new } ∷ rows) (r ∷ with_value d new rows)) ≡ cond b rows (r ∷ without d rows)
    go true e ih = rw e refl
    go false e ih = rw e (ap (λ (qs : List (Row Dialogue)). r ∷ qs) ih)

-- One that was taken out after it was written.
pub timed-gone : (d : ℕ) (new : Dialogue) (rows : List (Row Dialogue)) → AreTimed rows → AreTimed (without d (with_value d new rows))
timed-gone d new [] h = tt
timed-gone d new (r ∷ rows) h = go (nat_eq d r.identifier) refl (timed-gone d new rows h.1)
  where
    go : (b : Bool) → nat_eq d r.identifier ≡ b → AreTimed (without d (with_value d new rows)) → AreTimed (without d (cond b (record r { value = new } ∷ rows) (r ∷ with_value d new rows)))
    go true e ih = rw e h.1
    go false e ih = rw e (h.0, ih)

-- One that was taken out as it was.
pub timed-without : (d : ℕ) (rows : List (Row Dialogue)) → AreTimed rows → AreTimed (without d rows)
timed-without d [] h = tt
timed-without d (r ∷ rows) h = go (nat_eq d r.identifier) (timed-without d rows h.1)
  where
    go : (b : Bool) → AreTimed (without d rows) → AreTimed (cond b rows (r ∷ without d rows))
    go true ih = h.1
    go false ih = (h.0, ih)

-- After a step the dialogue is gone, or stands with its timer of then.
pub timed-settled : (is_over : Bool) (d : ℕ) (new : Dialogue) (time : Option ℕ) (rows : List (Row Dialogue)) → (is_over ≡ false → time ≡ timer_of new)
    → AreTimed rows → AreTimed (cond is_over (without d (with_value d new rows)) (with_time d time (with_value d new rows)))
timed-settled true d new time rows is h = timed-gone d new rows h
timed-settled false d new time rows is h = rw (is refl) (timed-set d new rows h)

-- One that is created.
pub timed-push : (d : ℕ) (new : Dialogue) (time : Option ℕ) (rows : List (Row Dialogue)) → time ≡ timer_of new → AreTimed rows → AreTimed (rows ++ record { identifier = d; value = new; time = time } ∷ [])
timed-push d new time [] is h = (is, tt)
timed-push d new time (r ∷ rows) is h = (h.0, timed-push d new time rows is h.1)

-- The dialogues with it, and that it is found under its identifier.
pub entries-push : (d : ℕ) (x : Dialogue) (rows new : List (Row Dialogue)) → new ≡ rows ++ record { identifier = d; value = x; time = None } ∷ [] → entries_of new ≡ entries_of rows ++ (d, x) ∷ []
entries-push d x rows new is = ap entries_of is ∙ map-append _ rows _

pub below-drawn : (d : ℕ) (rows : List (Row Dialogue)) → AreDrawn d (entries_of rows) → AllBelow d rows
below-drawn d [] h = tt
below-drawn d (r ∷ rows) h = (h.0, below-drawn d rows h.1)

-- ---- the first timer

-- The row of an identifier that stands first, and that of a later one.
row-here : (r : Row Dialogue) (rows : List (Row Dialogue)) → row_of r.identifier (r ∷ rows) ≡ Some r
row-here r rows = let same : nat_eq r.identifier r.identifier ≡ true = grind (arith, tests) in rw same refl

row-later : (id : ℕ) (r : Row Dialogue) (rows : List (Row Dialogue)) → r.identifier < id → row_of id (r ∷ rows) ≡ row_of id rows
row-later id r rows lt = let other : nat_eq id r.identifier ≡ false = grind (arith, tests, lt) in rw other refl

idle-from : (low : ℕ) (rows : List (Row Dialogue)) → IsRising low rows → AreTimed rows → ((id : ℕ) → low ≤ id → time_in (row_of id rows) ≡ None) → AreUntimed (entries_of rows)
idle-from low [] rising timed none = tt
idle-from low (r ∷ rows) rising timed none = (
  sym timed.0 ∙ ap time_in (sym (row-here r rows)) ∙ none r.identifier rising.0,
  idle-from (r.identifier + 1) rows rising.1 timed.1 (λ id le. ap time_in (sym (row-later id r rows (omega (arith, le)))) ∙ none id (let up = rising.0 in omega (arith, le, up))),
)

idle-rows : (rows : List (Row Dialogue)) → IsRising 0 rows → AreTimed rows → HasNoTime rows → AreUntimed (entries_of rows)
idle-rows rows rising timed none = idle-from 0 rows rising timed (λ id le. none id)

behind-from : (low : ℕ) (first : ℕ × ℕ) (rows : List (Row Dialogue)) → IsRising low rows → AreTimed rows
    → ((id time : ℕ) → low ≤ id → time_in (row_of id rows) ≡ Some time → is_before (time, id) first ≡ false) → AreBehind first (entries_of rows)
behind-from low first [] rising timed least = tt
behind-from low first (r ∷ rows) rising timed least = (
  own (timer_of r.value) refl,
  behind-from (r.identifier + 1) first rows rising.1 timed.1 (λ id time le has. least id time (let up = rising.0 in omega (arith, le, up)) (ap time_in (row-later id r rows (omega (arith, le))) ∙ has)),
)
  where
    own : (o : Option ℕ) → timer_of r.value ≡ o → IfSome o (λ time. is_before (time, r.identifier) first ≡ false)
    own None e = tt
    own (Some time) e = least r.identifier time rising.0 (ap time_in (row-here r rows) ∙ timed.0 ∙ e)

-- A dialogue stands where there is a time.
record IsThere (d t : ℕ) (rows : List (Row Dialogue)) : Type 0 where
  pub dialogue : Dialogue
  pub stands : lookup (nat_eq d) (entries_of rows) ≡ Some dialogue
  pub timer : timer_of dialogue ≡ Some t

is-there : (d t : ℕ) (rows : List (Row Dialogue)) → AreTimed rows → time_in (row_of d rows) ≡ Some t → IsThere d t rows
is-there d t [] timed has = absurd cc
is-there d t (r ∷ rows) timed has = go (nat_eq d r.identifier) refl has (is-there d t rows timed.1)
  where
    go : (b : Bool) → nat_eq d r.identifier ≡ b → time_in (cond b (Some r) (row_of d rows)) ≡ Some t → (time_in (row_of d rows) ≡ Some t → IsThere d t rows) → IsThere d t (r ∷ rows)
    go true e has ih = record { dialogue = r.value; stands = rw e refl; timer = sym timed.0 ∙ has }
    go false e has ih = let f = ih has in record { dialogue = f.dialogue; stands = rw e f.stands; timer = f.timer }

first-rows : (rows : List (Row Dialogue)) (first : ℕ × ℕ) → IsRising 0 rows → AreTimed rows → IsFirst rows first → IsFirstTimer (entries_of rows) first
first-rows rows first rising timed h =
    let there = is-there first.1 first.0 rows timed h.has in
    record { dialogue = there.dialogue; stands = there.stands; timer = there.timer; least = behind-from 0 first rows rising timed (λ id time le has. h.least id time has) }

pub first-if-any : (rows : List (Row Dialogue)) (first : Option (ℕ × ℕ)) → IsRising 0 rows → AreTimed rows → MatchOption first (HasNoTime rows) (IsFirst rows) → MatchOption first (AreUntimed (entries_of rows)) (IsFirstTimer (entries_of rows))
first-if-any rows None rising timed h = idle-rows rows rising timed h
first-if-any rows (Some first) rising timed h = first-rows rows first rising timed h
