-- The rows stay sorted through each change.
use Rattle.std.proofs.Common.{◌≡◌, ℤ, ◌≤◌, ◌*◌, Bool, true, false, cond, List, [], ◌∷◌, ◌++◌, filter, Option, Some, None, refl, ap, sym, subst, ℕ, Result, Ok, Err, OnOk, OnErr}
use Rattle.std.specs.Ordering.{int_eq}
use Rattle.std.specs.Cmp.{int_eq_equiv}
use Rattle.std.specs.List.{AllByRecursion, IsDistinct, list_any}
use Rattle.std.specs.Map.{keys_of, lookup, remove_entry, set_value}
use Rattle.std.proofs.lemmas.Map.Keys.{IsDistinct-head, IsDistinct-tail, IsDistinct-cons, IsDistinct-push}
use Rattle.std.proofs.lemmas.Map.Made.{IsDistinct-keys_filter, keys_of-map_values}
use Rattle.tcap_invocation.specs.declared.invocations.Invocation.{Invocation}
use Rattle.tcap_invocation.specs.declared.stage.Stage.{Stage}
use Rattle.tcap_invocation.specs.declared.stage.Stage.TheVariants.{Queued, Sent, Waiting}
use Rattle.tcap_invocation.specs.Stage.{moment_limit, is_queued}
use Rattle.tcap_invocation.specs.Invocations.{Row, sent_at, at_stage, without, sent_entry, sent_rows}
use Rattle.tcap_invocation.specs.declared.invocations.lapse.Expiry.{Expiry}
use Rattle.tcap_invocation.specs.declared.invocations.lapse.Expiry.TheVariants.{Lapse as Lapses, Wait}
use Rattle.tcap_invocation.specs.Expiries.{rows_after}
use Rattle.tcap_invocation.specs.Lapses.{is_held}
use Rattle.tcap_invocation.specs.Rows.{AreSorted, IsNew}
use Rattle.tcap_invocation.specs.TimerList.{timer_with}
use Rattle.tcap_invocation.proofs.OrderLemmas.{AreInOrder-remove_entry, AreInOrder-at_stage, AreInOrder-filter, AreInOrder-sent_rows, AreInOrder-push, entry_at-sent}
use Rattle.tcap_invocation.proofs.QueuedLemmas.{AreQueuedLast-remove_entry, AreQueuedLast-filter, AreQueuedLast-push, AreQueuedLast-set_value, AreQueuedLast-sent_rows, sent-unqueued}
use Rattle.tcap_invocation.proofs.TiedLemmas.{is_sent-at}

-- ---- the identifiers stay apart

apart-without : (test : ℤ → Bool) (id : ℤ) (rows : List Row) → AllByRecursion (λ y. int_eq id y ≡ false) (keys_of rows) → AllByRecursion (λ y. int_eq id y ≡ false) (keys_of (remove_entry test rows))
apart-without test id [] a = tt
apart-without test id (r ∷ rs) a =
    elim (test r.0) as (λ b. AllByRecursion (λ y. int_eq id y ≡ false) (keys_of (cond b rs (r ∷ remove_entry test rs)))) [
      | true ↦ a.1
      | false ↦ (a.0, apart-without test id rs a.1)
    ]

distinct-without : (test : ℤ → Bool) (rows : List Row) → IsDistinct int_eq (keys_of rows) → IsDistinct int_eq (keys_of (remove_entry test rows))
distinct-without test [] d = d
distinct-without test (r ∷ rs) d =
    let rest = IsDistinct-tail int_eq r.0 (keys_of rs) d in
    elim (test r.0) as (λ b. IsDistinct int_eq (keys_of (cond b rs (r ∷ remove_entry test rs)))) [
      | true ↦ rest
      | false ↦ IsDistinct-cons int_eq r.0 (keys_of (remove_entry test rs)) (apart-without test r.0 rs (IsDistinct-head int_eq r.0 (keys_of rs) d)) (distinct-without test rs rest)
    ]

keys-set_value : (test : ℤ → Bool) (w : Invocation) (rows : List Row) → keys_of (set_value test rows w) ≡ keys_of rows
keys-set_value test w [] = refl
keys-set_value test w (r ∷ rs) =
    let rest = keys-set_value test w rs in
    elim (test r.0) as (λ b. keys_of (cond b ((r.0, w) ∷ rs) (r ∷ set_value test rs w)) ≡ r.0 ∷ keys_of rs) [
      | true ↦ refl
      | false ↦ ap (λ (ks : List ℤ). r.0 ∷ ks) rest
    ]

keys-push : (rows : List Row) (r : Row) → keys_of (rows ++ r ∷ []) ≡ keys_of rows ++ r.0 ∷ []
keys-push [] r = refl
keys-push (x ∷ xs) r = ap (λ (ks : List ℤ). x.0 ∷ ks) (keys-push xs r)

absent-keys : (test : ℤ → Bool) (rows : List Row) → lookup test rows ≡ None → list_any test (keys_of rows) ≡ false
absent-keys test [] none = refl
absent-keys test (r ∷ rs) none = go (test r.0) refl none (absent-keys test rs)
  where
    go : (b : Bool) → test r.0 ≡ b → cond b (Some r.1) (lookup test rs) ≡ None → (lookup test rs ≡ None → list_any test (keys_of rs) ≡ false) → list_any test (r.0 ∷ keys_of rs) ≡ false
    go true e h rest = absurd cc
    go false e h rest = rw e (rest h)

-- ---- each change

pub AreSorted-empty : AreSorted []
unfolding IsDistinct
AreSorted-empty = record { in_order = tt; distinct = tt; queued_last = tt }

pub AreSorted-without : (rows : List Row) (id : ℤ) → AreSorted rows → AreSorted (without rows id)
AreSorted-without rows id s = record {
  in_order = AreInOrder-remove_entry (int_eq id) rows s.in_order;
  distinct = distinct-without (int_eq id) rows s.distinct;
  queued_last = AreQueuedLast-remove_entry (int_eq id) rows s.queued_last;
}

pub AreSorted-filter : (p : Row → Bool) (rows : List Row) → AreSorted rows → AreSorted (filter p rows)
AreSorted-filter p rows s = record {
  in_order = AreInOrder-filter p rows s.in_order;
  distinct = IsDistinct-keys_filter int_eq p rows s.distinct;
  queued_last = AreQueuedLast-filter p rows s.queued_last;
}

pub AreSorted-after : (clock : ℕ) (rows : List Row) (expiry : Option Expiry) → AreSorted rows → AreSorted (rows_after clock rows expiry)
AreSorted-after clock rows None s = s
AreSorted-after clock rows (Some (Lapses lapse)) s = AreSorted-without rows lapse.id s
AreSorted-after clock rows (Some Wait) s = AreSorted-filter (λ r. is_held clock r.1.stage) rows s

pub AreSorted-sent : (clock : ℕ) (rows : List Row) → clock ≤ moment_limit → AreSorted rows → AreSorted (sent_rows clock rows)
AreSorted-sent clock rows late s = record {
  in_order = AreInOrder-sent_rows clock rows late s.in_order;
  distinct = subst (IsDistinct int_eq) (sym (keys_of-map_values (sent_entry clock) rows)) s.distinct;
  queued_last = AreQueuedLast-sent_rows clock rows;
}

pub AreSorted-waiting : (rows : List Row) (id : ℤ) (e : Invocation) (until : ℕ) → until ≤ 2 * moment_limit → sent_at rows id ≡ Some e → AreSorted rows → AreSorted (at_stage rows id e (Waiting until))
AreSorted-waiting rows id e until late sent s =
    let found = entry_at-sent rows id e sent in
    record {
      in_order = AreInOrder-at_stage rows id e (Waiting until) late sent s.in_order;
      distinct = subst (IsDistinct int_eq) (sym (keys-set_value (int_eq id) (record e { stage = Waiting until }) rows)) s.distinct;
      queued_last = AreQueuedLast-set_value (int_eq id) (record e { stage = Waiting until }) e rows found (sent-unqueued e.stage (is_sent-at rows id e sent)) refl s.queued_last;
    }

pub AreSorted-push : (rows : List Row) (id : ℤ) (e : Invocation) → IsNew rows id e → AreSorted rows → AreSorted (rows ++ (id, e) ∷ [])
AreSorted-push rows id e new s = record {
  in_order = AreInOrder-push rows (id, e) new.timely new.above s.in_order;
  distinct = subst (IsDistinct int_eq) (sym (keys-push rows (id, e))) (IsDistinct-push int_eq_equiv (keys_of rows) id s.distinct (absent-keys (int_eq id) rows new.free));
  queued_last = AreQueuedLast-push rows (id, e) new.queued s.queued_last;
}

-- a Queued row has no timer
pub untimed : (id : ℤ) (number : ℕ) (s : Stage) → is_queued s ≡ true → timer_with id number s ≡ None
untimed id number (Queued timeout) h = refl
untimed id number (Sent deadline) h = absurd cc
untimed id number (Waiting until) h = absurd cc

-- where what is due lapsed, or nothing changed
pub AreSorted-lapsed : {V E : Type 0} (r : Result V E) (p : Row → Bool) (old new : List Row) → OnOk r (new ≡ filter p old) → OnErr r (new ≡ old) → AreSorted old → AreSorted new
AreSorted-lapsed (Ok v) p old new left same s = subst AreSorted (sym left) (AreSorted-filter p old s)
AreSorted-lapsed (Err e) p old new left same s = subst AreSorted (sym same) s

-- where one was added, or nothing changed
pub AreSorted-pushed : {V E : Type 0} (r : Result V E) (old new : List Row) (id : ℤ) (e : Invocation) → OnOk r (new ≡ old ++ (id, e) ∷ []) → OnErr r (new ≡ old) → IsNew old id e → AreSorted old → AreSorted new
AreSorted-pushed (Ok v) old new id e more same fresh s = subst AreSorted (sym more) (AreSorted-push old id e fresh s)
AreSorted-pushed (Err f) old new id e more same fresh s = subst AreSorted (sym same) s
