-- The timers stay those of the rows, with room for one of each row, through each change.
use Rattle.std.proofs.Common.{◌≡◌, ℕ, suc, ℤ, ◌+◌, ◌<◌, ◌≤◌, Bool, true, false, cond, List, [], ◌∷◌, ◌++◌, length, filter, Option, Some, None, refl, ap, sym, subst, ◌∙◌, arith, if◌then◌else◌}
use Rattle.std.specs.Prelude.{slice_get}
use Rattle.std.specs.Map.{remove_entry}
use Rattle.std.specs.Ordering.{int_eq}
use Rattle.std.proofs.lemmas.Map.{length-set_value}
use Rattle.tcap_invocation.specs.declared.invocations.Invocation.{Invocation}
use Rattle.tcap_invocation.specs.declared.invocations.timers.Timer.{Timer}
use Rattle.tcap_invocation.specs.declared.stage.Stage.{Stage}
use Rattle.tcap_invocation.specs.declared.stage.Stage.TheVariants.{Queued, Sent, Waiting}
use Rattle.tcap_invocation.specs.Order.{put_by}
use Rattle.tcap_invocation.specs.Stage.{is_sent, sent_stage}
use Rattle.tcap_invocation.specs.Invocations.{Row, AreInOrder, entry_at, passing, sent_at, without, at_stage, sent_entry}
use Rattle.tcap_invocation.specs.Lapses.{is_held, stays}
use Rattle.tcap_invocation.specs.TimerList.{TimerList, IsTimed, is_earlier, timer_with, timer_of, timers_at, put_timer, is_later, is_kept, sent_place}
use Rattle.tcap_invocation.proofs.OrderLemmas.{entry_at-sent}
use Rattle.tcap_invocation.proofs.SortLemmas.{length-put}
use Rattle.tcap_invocation.proofs.TimedLemmas.{timers_at-set, timers_at-without, timers_at-push, timers_at-sent_place, length-sent_place}
use Rattle.tcap_invocation.proofs.TimelyLemmas.{length-timers_at, length-timers_at-queued, timers_at-stays, timers_at-held}

length-remove_entry : (test : ℤ → Bool) (rows : List Row) → length (remove_entry test rows) ≤ length rows
length-remove_entry test [] = omega arith
length-remove_entry test (r ∷ rs) = let rest = length-remove_entry test rs in elim (test r.0) as (λ b. length (cond b rs (r ∷ remove_entry test rs)) ≤ suc (length rs)) [ true ↦ omega arith | false ↦ omega (arith, rest) ]

length-filter : (p : Row → Bool) (rows : List Row) → length (filter p rows) ≤ length rows
length-filter p [] = omega arith
length-filter p (r ∷ rs) = let rest = length-filter p rs in elim (p r) as (λ b. length (cond b (r ∷ filter p rs) (filter p rs)) ≤ suc (length rs)) [ true ↦ omega (arith, rest) | false ↦ omega (arith, rest) ]

length-push : (rows : List Row) (r : Row) → length (rows ++ r ∷ []) ≡ length rows + 1
length-push [] r = omega arith
length-push (x ∷ xs) r = let rest = length-push xs r in omega (arith, rest)

pub is_sent-at : (rows : List Row) (id : ℤ) (e : Invocation) → sent_at rows id ≡ Some e → is_sent e.stage ≡ true
is_sent-at rows id e = go (entry_at rows id)
  where
    go : (o : Option Invocation) → passing is_sent o ≡ Some e → is_sent e.stage ≡ true
    go None q = absurd cc
    go (Some f) q = by (is_sent f.stage) refl q
      where
        by : (b : Bool) → is_sent f.stage ≡ b → (if b then Some f else None) ≡ Some e → is_sent e.stage ≡ true
        by true h q = let same : f ≡ e = cc in subst (λ (e : Invocation). is_sent e.stage ≡ true) same h
        by false h q = absurd cc

sent-timer : (id : ℤ) (number : ℕ) (s : Stage) → is_sent s ≡ true → (t : Timer) × (timer_with id number s ≡ Some t)
sent-timer id number (Queued timeout) h = absurd cc
sent-timer id number (Sent deadline) h = (record { time = deadline; number = number; id = id; lapses = true }, refl)
sent-timer id number (Waiting until) h = absurd cc

module _ (rows : List Row) (old new : TimerList) (timed : IsTimed rows old) (more : old.room ≤ new.room) where
  -- a Queued row is added
  pub IsTimed-push : (r : Row) → timer_of r ≡ None → new.timers ≡ old.timers → length rows + 1 ≤ new.room → IsTimed (rows ++ r ∷ []) new
  IsTimed-push r none same room =
      let long = length-push rows r in
      record { timers = same ∙ timed.timers ∙ sym (timers_at-push rows r none); room = omega (arith, long, room) }

  -- some are taken out at a clock
  pub IsTimed-stays : (clock : ℕ) → new.timers ≡ filter (is_later clock) old.timers → IsTimed (filter (λ r. stays clock r.1.stage) rows) new
  IsTimed-stays clock left =
      let few = length-filter (λ r. stays clock r.1.stage) rows in
      let room = timed.room in
      record { timers = left ∙ ap (filter (is_later clock)) timed.timers ∙ sym (timers_at-stays clock rows); room = omega (arith, few, room, more) }

  pub IsTimed-held : (clock : ℕ) → new.timers ≡ filter (is_kept clock) old.timers → IsTimed (filter (λ r. is_held clock r.1.stage) rows) new
  IsTimed-held clock left =
      let few = length-filter (λ r. is_held clock r.1.stage) rows in
      let room = timed.room in
      record { timers = left ∙ ap (filter (is_kept clock)) timed.timers ∙ sym (timers_at-held clock rows); room = omega (arith, few, room, more) }

  -- a Queued row is sent
  pub IsTimed-sent_place : (clock place timeout : ℕ) (r : Row) → slice_get rows place ≡ Some r → r.1.stage ≡ Queued timeout → AreInOrder rows
      → new.timers ≡ put_by is_earlier (record { time = clock + timeout; number = r.1.number; id = r.0; lapses = true }) old.timers → IsTimed (sent_place clock place rows) new
  IsTimed-sent_place clock place timeout r found queued o put =
      let none : timer_of r ≡ None = ap (timer_with r.0 r.1.number) queued in
      let own : timer_of (r.0, sent_entry clock r.1) ≡ Some (record { time = clock + timeout; number = r.1.number; id = r.0; lapses = true }) = ap (λ s. timer_with r.0 r.1.number (sent_stage clock s)) queued in
      let long = length-sent_place clock place rows in
      let room = timed.room in
      record {
        timers = put ∙ ap (put_by is_earlier (record { time = clock + timeout; number = r.1.number; id = r.0; lapses = true })) timed.timers ∙ ap (λ (o : Option Timer). put_timer o (timers_at rows)) (sym own) ∙ sym (timers_at-sent_place clock place rows r found none o);
        room = omega (arith, long, room, more);
      }

-- the room that a Queued row has for its timer
pub room-queued : (rows : List Row) (list : TimerList) (place timeout : ℕ) (r : Row) → IsTimed rows list → slice_get rows place ≡ Some r → r.1.stage ≡ Queued timeout → length list.timers < list.room
room-queued rows list place timeout r timed found queued =
    let less = length-timers_at-queued place rows r found (ap (timer_with r.0 r.1.number) queued) in
    let same = ap length timed.timers in
    let room = timed.room in
    omega (arith, less, same, room)

-- a row is taken out, or waits
module _ (rows : List Row) (old mid : TimerList) (id : ℤ) (e : Invocation) (timed : IsTimed rows old) (o : AreInOrder rows)
    (drop : (rest : List Timer) → old.timers ≡ put_timer (timer_of (id, e)) rest → mid.timers ≡ rest) (same : mid.room ≡ old.room) where
  dropped : entry_at rows id ≡ Some e → mid.timers ≡ timers_at (without rows id)
  dropped found = drop (timers_at (without rows id)) (timed.timers ∙ timers_at-without id e rows found o)

  pub IsTimed-without : entry_at rows id ≡ Some e → IsTimed (without rows id) mid
  IsTimed-without found =
      let few = length-remove_entry (int_eq id) rows in
      let room = timed.room in
      record { timers = dropped found; room = omega (arith, few, room, same) }

  pub room-sent : sent_at rows id ≡ Some e → length mid.timers < mid.room
  room-sent sent =
      let found = entry_at-sent rows id e sent in
      let t = sent-timer id e.number e.stage (is_sent-at rows id e sent) in
      let whole : timers_at rows ≡ put_by is_earlier t.0 (timers_at (without rows id)) = timers_at-without id e rows found o ∙ ap (λ (p : Option Timer). put_timer p (timers_at (without rows id))) t.1 in
      let longer = ap length whole ∙ length-put is_earlier t.0 (timers_at (without rows id)) in
      let left = ap length (dropped found) in
      let all = length-timers_at rows in
      let room = timed.room in
      omega (arith, longer, left, all, room, same)

  pub IsTimed-at_stage : (until : ℕ) (new : TimerList) → sent_at rows id ≡ Some e → new.timers ≡ put_by is_earlier (record { time = until; number = e.number; id = id; lapses = false }) mid.timers → mid.room ≤ new.room
      → IsTimed (at_stage rows id e (Waiting until)) new
  IsTimed-at_stage until new sent put more =
      let found = entry_at-sent rows id e sent in
      let long = length-set_value (int_eq id) rows (record e { stage = Waiting until }) in
      let room = timed.room in
      record {
        timers = put ∙ ap (put_by is_earlier (record { time = until; number = e.number; id = id; lapses = false })) (dropped found) ∙ sym (timers_at-set id e (record e { stage = Waiting until }) refl rows found o);
        room = omega (arith, long, room, same, more);
      }
