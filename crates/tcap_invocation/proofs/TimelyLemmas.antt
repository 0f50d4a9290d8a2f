-- What the timers of the rows tell: how many there are, what is due, and when time next changes something.
use Rattle.std.proofs.Common.{◌≡◌, ℕ, zero, suc, ℤ, ◌+◌, ◌<◌, ◌≤◌, Bool, true, false, cond, List, [], ◌∷◌, length, filter, Option, Some, None, refl, ap, sym, ◌∙◌, arith, tests, nat_lt, nat_le, ◌&&◌, ◌||◌}
use Rattle.std.specs.Prelude.{filter_map, slice_get, map}
use Rattle.std.specs.List.{cons_option}
use Rattle.std.specs.Option.{option_map}
use Rattle.tcap_invocation.specs.declared.invocations.lapse.Lapse.{Lapse}
use Rattle.tcap_invocation.specs.declared.invocations.timers.Timer.{Timer}
use Rattle.tcap_invocation.specs.declared.stage.Stage.{Stage}
use Rattle.tcap_invocation.specs.declared.stage.Stage.TheVariants.{Queued, Sent, Waiting}
use Rattle.tcap_invocation.specs.Order.{in_order_by, first_of}
use Rattle.tcap_invocation.specs.Invocations.{Row}
use Rattle.tcap_invocation.specs.Lapses.{is_before, due_at, told_at, first_due_at, lapse_with, due_deadline, is_held, stays}
use Rattle.tcap_invocation.specs.Timers.{time_of, times_of, next_timer_at}
use Rattle.tcap_invocation.specs.TimerList.{is_earlier, timer_with, timer_of, timers_at, told_of_timer, is_later, is_kept, has_come}
use Rattle.tcap_invocation.proofs.InsertionLemmas.{Ahead, Ordered, total, total_in_order, length-in_order, front, first_of-put, ordered_in_order}
use Rattle.tcap_invocation.proofs.SortLemmas.{told_in_order}
use Rattle.tcap_invocation.proofs.TimerLemmas.{lapse_at_time, earlier_once, not_earlier}
use Rattle.tcap_invocation.proofs.TimedLemmas.{timers_at-filter}

-- ---- how many there are

fewer : (rows : List Row) → length (filter_map timer_of rows) ≤ length rows
fewer [] = omega arith
fewer (r ∷ rs) = go (timer_of r) (fewer rs)
  where
    go : (o : Option Timer) → length (filter_map timer_of rs) ≤ length rs → length (cons_option o (filter_map timer_of rs)) ≤ suc (length rs)
    go None h = omega (arith, h)
    go (Some t) h = omega (arith, h)

pub length-timers_at : (rows : List Row) → length (timers_at rows) ≤ length rows
length-timers_at rows = let all = length-in_order is_earlier (filter_map timer_of rows) in let few = fewer rows in omega (arith, all, few)

-- a Queued row has none
pub length-timers_at-queued : (place : ℕ) (rows : List Row) (r : Row) → slice_get rows place ≡ Some r → timer_of r ≡ None → length (timers_at rows) < length rows
length-timers_at-queued place rows r found none =
    let all = length-in_order is_earlier (filter_map timer_of rows) in let few = less place rows found in omega (arith, all, few)
  where
    less : (place : ℕ) (rows : List Row) → slice_get rows place ≡ Some r → length (filter_map timer_of rows) < length rows
    less place [] q = absurd cc
    less zero (x ∷ xs) q = let same : r ≡ x = cc in let few = fewer xs in rw (ap timer_of (sym same) ∙ none) (omega (arith, few))
    less (suc place) (x ∷ xs) q = go (timer_of x) (less place xs q)
      where
        go : (o : Option Timer) → length (filter_map timer_of xs) < length xs → length (cons_option o (filter_map timer_of xs)) < suc (length xs)
        go None h = omega (arith, h)
        go (Some t) h = omega (arith, h)

-- ---- what is due

told-is : (clock : ℕ) (t : Timer) (l : Lapse) → told_of_timer clock t ≡ Some l → l ≡ lapse_at_time t
told-is clock t l = go (t.lapses && nat_le t.time clock)
  where
    go : (b : Bool) → cond b (Some (lapse_at_time t)) None ≡ Some l → l ≡ lapse_at_time t
    go true e = cc
    go false e = absurd cc

-- what is told of a row is what is told of its timer
fused : (clock : ℕ) (rows : List Row) → filter_map (told_of_timer clock) (filter_map timer_of rows) ≡ due_at clock rows
fused clock [] = refl
fused clock (r ∷ rs) = go r.0 r.1.number r.1.stage (fused clock rs)
  where
    go : (id : ℤ) (number : ℕ) (s : Stage) → filter_map (told_of_timer clock) (filter_map timer_of rs) ≡ due_at clock rs
        → filter_map (told_of_timer clock) (cons_option (timer_with id number s) (filter_map timer_of rs)) ≡ cons_option (lapse_with id number (due_deadline clock s)) (due_at clock rs)
    go id number (Queued timeout) e = e
    go id number (Waiting until) e = e
    go id number (Sent deadline) e = come (nat_le deadline clock) e
      where
        come : (b : Bool) → filter_map (told_of_timer clock) (filter_map timer_of rs) ≡ due_at clock rs
            → cons_option (cond b (Some (record { deadline = deadline; number = number; id = id })) None) (filter_map (told_of_timer clock) (filter_map timer_of rs)) ≡ cons_option (lapse_with id number (cond b (Some deadline) None)) (due_at clock rs)
        come true e = ap (λ ls. (record { deadline = deadline; number = number; id = id }) ∷ ls) e
        come false e = e

pub told_at-timers : (clock : ℕ) (rows : List Row) → filter_map (told_of_timer clock) (timers_at rows) ≡ told_at clock rows
told_at-timers clock rows =
    told_in_order is_earlier is_before (told_of_timer clock)
    (λ x y u v d e. let k = told-is clock x u d in let l = told-is clock y v e in (λ j. is_before (sym k j) (sym l j)))
    not_earlier earlier_once (filter_map timer_of rows)
    ∙ ap (in_order_by is_before) (fused clock rows)

pub due_at-timers : (clock : ℕ) (rows : List Row) → length (filter_map (told_of_timer clock) (timers_at rows)) ≡ length (due_at clock rows)
due_at-timers clock rows = ap length (told_at-timers clock rows) ∙ length-in_order is_before (due_at clock rows)

-- as much is told as is due
pub told_at-some : (clock : ℕ) (rows : List Row) → 0 < length (filter_map (told_of_timer clock) (timers_at rows)) → told_at clock rows ≡ [] → ⊥
told_at-some clock rows some none = let e = ap length (told_at-timers clock rows ∙ none) in omega (arith, some, e)

pub first_due_at-timers : (clock : ℕ) (rows : List Row) → first_of (filter_map (told_of_timer clock) (timers_at rows)) ≡ first_due_at clock rows
first_due_at-timers clock rows = ap first_of (told_at-timers clock rows)

-- ---- what stays

pub timers_at-stays : (clock : ℕ) (rows : List Row) → timers_at (filter (λ r. stays clock r.1.stage) rows) ≡ filter (is_later clock) (timers_at rows)
timers_at-stays clock rows = timers_at-filter (λ r. stays clock r.1.stage) (is_later clock) (λ r t e. same r.0 r.1.number r.1.stage t e) rows
  where
    same : (id : ℤ) (number : ℕ) (s : Stage) (t : Timer) → timer_with id number s ≡ Some t → stays clock s ≡ nat_lt clock t.time
    same id number (Queued timeout) t e = absurd cc
    same id number (Sent deadline) t e = let time : deadline ≡ t.time = grind (arith, e) in ap (nat_lt clock) time
    same id number (Waiting until) t e = let time : until ≡ t.time = grind (arith, e) in ap (nat_lt clock) time

pub timers_at-held : (clock : ℕ) (rows : List Row) → timers_at (filter (λ r. is_held clock r.1.stage) rows) ≡ filter (is_kept clock) (timers_at rows)
timers_at-held clock rows = timers_at-filter (λ r. is_held clock r.1.stage) (is_kept clock) (λ r t e. same r.0 r.1.number r.1.stage t e) rows
  where
    same : (id : ℤ) (number : ℕ) (s : Stage) (t : Timer) → timer_with id number s ≡ Some t → is_held clock s ≡ t.lapses || nat_lt clock t.time
    same id number (Queued timeout) t e = absurd cc
    same id number (Sent deadline) t e = let is : t ≡ record { time = deadline; number = number; id = id; lapses = true } = cc in rw is refl
    same id number (Waiting until) t e = let is : t ≡ record { time = until; number = number; id = id; lapses = false } = cc in rw is refl

-- ---- the first

front-time : (t : Timer) (o : Option Timer) → (front is_earlier t o).time ≡ front nat_lt t.time (option_map (λ (t : Timer). t.time) o)
front-time t None = refl
front-time t (Some h) = go (is_earlier h t) (nat_lt h.time t.time) refl refl
  where
    go : (b c : Bool) → is_earlier h t ≡ b → nat_lt h.time t.time ≡ c → (cond b h t).time ≡ cond c h.time t.time
    go true true d e = refl
    go true false d e = grind (arith, tests, d, e)
    go false true d e = grind (arith, tests, d, e)
    go false false d e = refl

first-time : (ts : List Timer) → option_map (λ (t : Timer). t.time) (first_of (in_order_by is_earlier ts)) ≡ first_of (in_order_by nat_lt (map (λ (t : Timer). t.time) ts))
first-time [] = refl
first-time (t ∷ ts) =
    ap (option_map (λ (t : Timer). t.time)) (first_of-put is_earlier t (in_order_by is_earlier ts))
    ∙ ap Some (front-time t (first_of (in_order_by is_earlier ts)) ∙ ap (front nat_lt t.time) (first-time ts))
    ∙ sym (first_of-put nat_lt t.time (in_order_by nat_lt (map (λ (t : Timer). t.time) ts)))

times-timers : (rows : List Row) → map (λ (t : Timer). t.time) (filter_map timer_of rows) ≡ times_of rows
times-timers [] = refl
times-timers (r ∷ rs) = go r.0 r.1.number r.1.stage (times-timers rs)
  where
    go : (id : ℤ) (number : ℕ) (s : Stage) → map (λ (t : Timer). t.time) (filter_map timer_of rs) ≡ times_of rs
        → map (λ (t : Timer). t.time) (cons_option (timer_with id number s) (filter_map timer_of rs)) ≡ cons_option (time_of s) (times_of rs)
    go id number (Queued timeout) e = e
    go id number (Sent deadline) e = ap (λ l. deadline ∷ l) e
    go id number (Waiting until) e = ap (λ l. until ∷ l) e

pub next_timer_at-timers : (rows : List Row) → option_map (λ (t : Timer). t.time) (first_of (timers_at rows)) ≡ next_timer_at rows
next_timer_at-timers rows = first-time (filter_map timer_of rows) ∙ ap (λ l. first_of (in_order_by nat_lt l)) (times-timers rows)

-- whether the time of a timer has come, as a number
abbrev come : ℕ → Timer → ℕ
come clock t = cond (nat_le t.time clock) 1 0

none-ahead : (clock : ℕ) (t : Timer) (ts : List Timer) → nat_le t.time clock ≡ false → Ahead is_earlier t ts → total (come clock) ts ≡ 0
none-ahead clock t [] late a = refl
none-ahead clock t (u ∷ us) late a =
    let after = a.0 in
    let later : nat_le u.time clock ≡ false = grind (arith, tests, late, after) in
    let rest = none-ahead clock t us late a.1 in
    rw later (omega (arith, rest))

none-come : (clock : ℕ) (ts : List Timer) → Ordered is_earlier ts → has_come clock (first_of ts) ≡ false → total (come clock) ts ≡ 0
none-come clock [] o h = refl
none-come clock (t ∷ ts) o h = let rest = none-ahead clock t ts h o.0 in rw h (omega (arith, rest))

-- where the time of the first hasn't come, no wait is over
pub held-all : (clock : ℕ) (rows : List Row) → has_come clock (first_of (timers_at rows)) ≡ false → filter (λ r. is_held clock r.1.stage) rows ≡ rows
held-all clock rows h =
    let sorted = none-come clock (timers_at rows) (ordered_in_order is_earlier earlier_once not_earlier (filter_map timer_of rows)) h in
    kept rows (sym (total_in_order is_earlier (come clock) (filter_map timer_of rows)) ∙ sorted)
  where
    kept : (rows : List Row) → total (come clock) (filter_map timer_of rows) ≡ 0 → filter (λ r. is_held clock r.1.stage) rows ≡ rows
    kept [] z = refl
    kept (r ∷ rs) z = go r.0 r.1.number r.1.stage z (kept rs)
      where
        go : (id : ℤ) (number : ℕ) (s : Stage) → total (come clock) (cons_option (timer_with id number s) (filter_map timer_of rs)) ≡ 0
            → (total (come clock) (filter_map timer_of rs) ≡ 0 → filter (λ r. is_held clock r.1.stage) rs ≡ rs) → cond (is_held clock s) (r ∷ filter (λ r. is_held clock r.1.stage) rs) (filter (λ r. is_held clock r.1.stage) rs) ≡ r ∷ rs
        go id number (Queued timeout) z rest = ap (λ l. r ∷ l) (rest z)
        go id number (Sent deadline) z rest = ap (λ l. r ∷ l) (rest (omega (arith, z)))
        go id number (Waiting until) z rest = over (nat_le until clock) refl z
          where
            over : (b : Bool) → nat_le until clock ≡ b → cond b 1 0 + total (come clock) (filter_map timer_of rs) ≡ 0 → cond (nat_lt clock until) (r ∷ filter (λ r. is_held clock r.1.stage) rs) (filter (λ r. is_held clock r.1.stage) rs) ≡ r ∷ rs
            over true e z = absurd (omega (arith, z))
            over false e z = let more : nat_lt clock until ≡ true = grind (arith, tests, e) in rw more (ap (λ l. r ∷ l) (rest (omega (arith, z))))

pub ruleset timely_rules = (next_timer_at-timers, due_at-timers, first_due_at-timers)
