-- The Queued rows stay behind all others through each change, and what stands before them is sent.
use Rattle.std.proofs.Common.{◌≡◌, ℕ, zero, suc, ℤ, ◌-◌, ◌<◌, ◌≤◌, Bool, true, false, cond, List, [], ◌∷◌, ◌++◌, length, filter, Some, refl, ap, subst, ◌∙◌, arith}
use Rattle.std.specs.Prelude.{slice_get}
use Rattle.std.specs.Map.{lookup, remove_entry, set_value}
use Rattle.tcap_invocation.specs.declared.invocations.Invocation.{Invocation}
use Rattle.tcap_invocation.specs.declared.stage.Stage.{Stage}
use Rattle.tcap_invocation.specs.declared.stage.Stage.TheVariants.{Queued, Sent, Waiting}
use Rattle.tcap_invocation.specs.Stage.{is_queued, is_sent, sent_stage}
use Rattle.tcap_invocation.specs.Invocations.{Row, sent_entry, sent_rows}
use Rattle.tcap_invocation.specs.TimerList.{AreQueued, AreQueuedLast, sent_below}
use Rattle.tcap_invocation.proofs.TimedLemmas.{sent_below-cons}

differ : (b : Bool) → b ≡ true → b ≡ false → ⊥
differ true h k = absurd cc
differ false h k = absurd cc

-- ---- some are taken out

AreQueued-remove_entry : (test : ℤ → Bool) (rows : List Row) → AreQueued rows → AreQueued (remove_entry test rows)
AreQueued-remove_entry test [] h = tt
AreQueued-remove_entry test (r ∷ rs) h =
    elim (test r.0) as (λ b. AreQueued (cond b rs (r ∷ remove_entry test rs))) [ true ↦ h.1 | false ↦ (h.0, AreQueued-remove_entry test rs h.1) ]

pub AreQueuedLast-remove_entry : (test : ℤ → Bool) (rows : List Row) → AreQueuedLast rows → AreQueuedLast (remove_entry test rows)
AreQueuedLast-remove_entry test [] h = tt
AreQueuedLast-remove_entry test (r ∷ rs) h =
    elim (test r.0) as (λ b. AreQueuedLast (cond b rs (r ∷ remove_entry test rs))) [
      | true ↦ h.1
      | false ↦ (λ q. AreQueued-remove_entry test rs (h.0 q), AreQueuedLast-remove_entry test rs h.1)
    ]

AreQueued-filter : (p : Row → Bool) (rows : List Row) → AreQueued rows → AreQueued (filter p rows)
AreQueued-filter p [] h = tt
AreQueued-filter p (r ∷ rs) h =
    elim (p r) as (λ b. AreQueued (cond b (r ∷ filter p rs) (filter p rs))) [ true ↦ (h.0, AreQueued-filter p rs h.1) | false ↦ AreQueued-filter p rs h.1 ]

pub AreQueuedLast-filter : (p : Row → Bool) (rows : List Row) → AreQueuedLast rows → AreQueuedLast (filter p rows)
AreQueuedLast-filter p [] h = tt
AreQueuedLast-filter p (r ∷ rs) h =
    elim (p r) as (λ b. AreQueuedLast (cond b (r ∷ filter p rs) (filter p rs))) [
      | true ↦ (λ q. AreQueued-filter p rs (h.0 q), AreQueuedLast-filter p rs h.1)
      | false ↦ AreQueuedLast-filter p rs h.1
    ]

-- ---- a Queued one is added

AreQueued-push : (rows : List Row) (r : Row) → is_queued r.1.stage ≡ true → AreQueued rows → AreQueued (rows ++ r ∷ [])
AreQueued-push [] r new h = (new, tt)
AreQueued-push (x ∷ xs) r new h = (h.0, AreQueued-push xs r new h.1)

pub AreQueuedLast-push : (rows : List Row) (r : Row) → is_queued r.1.stage ≡ true → AreQueuedLast rows → AreQueuedLast (rows ++ r ∷ [])
AreQueuedLast-push [] r new h = (λ q. tt, tt)
AreQueuedLast-push (x ∷ xs) r new h = (λ q. AreQueued-push xs r new (h.0 q), AreQueuedLast-push xs r new h.1)

-- ---- one that isn't Queued is written

AreQueued-lookup : (test : ℤ → Bool) (rows : List Row) (e : Invocation) → lookup test rows ≡ Some e → AreQueued rows → is_queued e.stage ≡ true
AreQueued-lookup test [] e found h = absurd cc
AreQueued-lookup test (r ∷ rs) e found h = go (test r.0) found (λ q. AreQueued-lookup test rs e q h.1)
  where
    go : (b : Bool) → cond b (Some r.1) (lookup test rs) ≡ Some e → (lookup test rs ≡ Some e → is_queued e.stage ≡ true) → is_queued e.stage ≡ true
    go true q rest = let same : r.1 ≡ e = cc in subst (λ (e : Invocation). is_queued e.stage ≡ true) same h.0
    go false q rest = rest q

pub AreQueuedLast-set_value : (test : ℤ → Bool) (w e : Invocation) (rows : List Row) → lookup test rows ≡ Some e → is_queued e.stage ≡ false → is_queued w.stage ≡ false
    → AreQueuedLast rows → AreQueuedLast (set_value test rows w)
AreQueuedLast-set_value test w e [] found old new h = tt
AreQueuedLast-set_value test w e (r ∷ rs) found old new h = go (test r.0) found (λ q. AreQueuedLast-set_value test w e rs q old new h.1)
  where
    go : (b : Bool) → cond b (Some r.1) (lookup test rs) ≡ Some e → (lookup test rs ≡ Some e → AreQueuedLast (set_value test rs w))
        → AreQueuedLast (cond b ((r.0, w) ∷ rs) (r ∷ set_value test rs w))
    go true q rest = (λ p. absurd (differ (is_queued w.stage) p new), h.1)
    go false q rest = (λ p. absurd (differ (is_queued e.stage) (AreQueued-lookup test rs e q (h.0 p)) old), rest q)

pub sent-unqueued : (s : Stage) → is_sent s ≡ true → is_queued s ≡ false
sent-unqueued (Queued timeout) h = absurd cc
sent-unqueued (Sent deadline) h = refl
sent-unqueued (Waiting until) h = absurd cc

-- ---- all are sent

sent_stage-unqueued : (clock : ℕ) (s : Stage) → is_queued (sent_stage clock s) ≡ false
sent_stage-unqueued clock (Queued timeout) = refl
sent_stage-unqueued clock (Sent deadline) = refl
sent_stage-unqueued clock (Waiting until) = refl

pub AreQueuedLast-sent_rows : (clock : ℕ) (rows : List Row) → AreQueuedLast (sent_rows clock rows)
AreQueuedLast-sent_rows clock [] = tt
AreQueuedLast-sent_rows clock (r ∷ rs) = (λ q. absurd (differ (is_queued (sent_stage clock r.1.stage)) q (sent_stage-unqueued clock r.1.stage)), AreQueuedLast-sent_rows clock rs)

-- ---- before one that isn't Queued none is

sent_entry-unqueued : (clock : ℕ) (e : Invocation) → is_queued e.stage ≡ false → sent_entry clock e ≡ e
sent_entry-unqueued clock e other = ap (λ (s : Stage). record e { stage = s }) (same e.stage other)
  where
    same : (s : Stage) → is_queued s ≡ false → sent_stage clock s ≡ s
    same (Queued timeout) h = absurd cc
    same (Sent deadline) h = refl
    same (Waiting until) h = refl

queued-at : (place : ℕ) (rows : List Row) → place < length rows → AreQueued rows → ((r : Row) → slice_get rows place ≡ Some r → is_queued r.1.stage ≡ false) → ⊥
queued-at place [] within h other = absurd (omega (arith, within))
queued-at zero (x ∷ xs) within h other = differ (is_queued x.1.stage) h.0 (other x refl)
queued-at (suc place) (x ∷ xs) within h other = queued-at place xs (omega (arith, within)) h.1 other

pub sent_below-unqueued : (clock place : ℕ) (rows : List Row) → place < length rows → AreQueuedLast rows → ((r : Row) → slice_get rows place ≡ Some r → is_queued r.1.stage ≡ false)
    → sent_below clock (suc place) rows ≡ rows
sent_below-unqueued clock place [] within h other = absurd (omega (arith, within))
sent_below-unqueued clock zero (x ∷ xs) within h other = ap (λ (e : Invocation). (x.0, e) ∷ xs) (sent_entry-unqueued clock x.1 (other x refl))
sent_below-unqueued clock (suc place) (x ∷ xs) within h other =
    let rest = sent_below-unqueued clock place xs (omega (arith, within)) h.1 other in
    let own = first (is_queued x.1.stage) refl in
    sent_below-cons clock (suc place) x xs ∙ ap (λ (e : Invocation). (x.0, e) ∷ sent_below clock (suc place) xs) (sent_entry-unqueued clock x.1 own) ∙ ap (λ (l : List Row). x ∷ l) rest
  where
    first : (b : Bool) → is_queued x.1.stage ≡ b → is_queued x.1.stage ≡ false
    first true q = absurd (queued-at place xs (omega (arith, within)) (h.0 q) other)
    first false q = q

-- the same, of the place behind it
pub sent_below-first : (clock place : ℕ) (rows : List Row) → 0 < place → place ≤ length rows → AreQueuedLast rows → ((r : Row) → slice_get rows (place - 1) ≡ Some r → is_queued r.1.stage ≡ false)
    → sent_below clock place rows ≡ rows
sent_below-first clock zero rows some within h other = absurd (omega (arith, some))
sent_below-first clock (suc place) rows some within h other =
    let before : suc place - 1 ≡ place = omega arith in
    sent_below-unqueued clock place rows (omega (arith, within)) h (λ r found. other r (ap (λ (n : ℕ). slice_get rows n) before ∙ found))
