-- Which moments change a dialogue, by the first timer of all.
use Rattle.std.proofs.Common.{◌≡◌, ◌≢◌, inl, inr, ℕ, ◌<◌, ◌≤◌, Bool, true, false, cond, not, nat_eq, nat_lt, nat_le, List, [], ◌∷◌, ◌++◌, length, map, filter, filter_map, Option, Some, None, if◌then◌else◌, refl, ap, sym, ◌∙◌, arith, tests}
use Rattle.std.proofs.lemmas.List.Filters.{length-filter_both}
use Rattle.std.specs.Map.{lookup}
use Rattle.tcap_engine.specs.IdleDialogues.{idle_ids}
use Rattle.tcap_engine.specs.Lapsing.{AreUntimed, IsFirstTimer, IsQuiet, rows_timer, timer_of}
use Rattle.tcap_engine.specs.NextTimer.{IsAccepted, IsChanged, IsStill, if_within, next_timer_in, times_in, timers_in}
use Rattle.tcap_engine.specs.DialogueEntries.{TableEntry, AreFrom, dialogues_of}
use Rattle.tcap_engine.proofs.FirstLemmas.{least-timer, least-times}
use Rattle.tcap_engine.proofs.MomentLemmas.{dialogues-at}
use Rattle.tcap_engine.proofs.QuietLemmas.{AreLate, idle-due, late-quiet}
use Rattle.tcap_engine.proofs.TimerLemmas.{IsIn, least, least-in, no-times}
use Rattle.std.specs.List.{cons_option, flat_map}
use Rattle.tcap_invocation.specs.declared.stage.Stage.{Stage}
use Rattle.tcap_invocation.specs.declared.stage.Stage.TheVariants.{Queued, Sent, Waiting}
use Rattle.tcap_invocation.specs.Invocations.{Row}
use Rattle.tcap_invocation.specs.Lapses.{stays}
use Rattle.tcap_invocation.specs.Stage.{moment_limit}
use Rattle.tcap_invocation.specs.Timers.{time_of, times_of}
use Rattle.tcap_model.specs.Table.Dialogue.{Dialogue, idle_end, is_idle_at}
use Rattle.tcap_model.specs.Table.DueLapses.{all_idle_told, at_moment, table_idle_key, table_idle_told, left_at}
use Rattle.tcap_model.specs.Table.EngineMove.{EngineMoved, engine_move, advanced, moment_in, unmoved}
use Rattle.tcap_model.specs.Table.World.{World}
use Rattle.tcap_model.specs.Words.Answer.{Answer}
use Rattle.tcap_model.specs.Words.Event.{Event}
use Rattle.tcap_model.specs.Words.Fault.{Fault}
use Rattle.tcap_model.specs.Words.KeyOrder.{in_order, key_before}
use Rattle.tcap_dialogue.specs.Timers.{earliest}
use Rattle.timed_table.specs.Row.{is_due}
use Rattle.tcap_invocation.proofs.CallerLemmas.{length-in_order}
use Rattle.std.proofs.lemmas.List.{length-map}

-- ---- an accepted moment

pub accepted-move : (w : World) (now : ℕ) → IsAccepted w now → engine_move w (Event.moment now) ≡ advanced w now
unfolding engine_move
accepted-move w now h =
    let low = h.0 in
    let high = h.1 in
    let within : nat_lt moment_limit now ≡ false = grind (arith, tests, high) in
    let up : nat_lt now w.clock ≡ false = grind (arith, tests, low) in
    ap (λ b. moment_in w now (if b then Some Fault.moment_too_late else None)) within
    ∙ ap (λ b. if b then unmoved w (Answer.outputs []) else advanced w now) up

-- ---- dialogues that have been idle too long

in-order-none : (xs : List Dialogue) → map (λ (d : Dialogue). d.standing.identifier) (in_order table_idle_key xs) ≡ [] → xs ≡ []
in-order-none [] e = refl
in-order-none (x ∷ xs) e = let long = ap length e in let all = length-map (in_order table_idle_key (x ∷ xs)) (λ (d : Dialogue). d.standing.identifier) in let same = length-in_order (key_before table_idle_key) (x ∷ xs) in absurd (omega (arith, long, all, same))

pub quiet-ends : (now : ℕ) (ps : List TableEntry) → idle_ids now ps ≡ [] → all_idle_told now (dialogues_of ps) ≡ []
quiet-ends now ps e = ap (λ (l : List Dialogue). flat_map (table_idle_told now) (in_order table_idle_key l)) (in-order-none (filter (is_idle_at now) (dialogues_of ps)) e)

-- None has.
abbrev AreAwake : ℕ → List Dialogue → Type 0
AreAwake now [] = Unit {0}
AreAwake now (d ∷ ds) = (is_idle_at now d ≡ false) × AreAwake now ds

kept-awake : (now : ℕ) (ds : List Dialogue) → filter (is_idle_at now) ds ≡ [] → AreAwake now ds
kept-awake now [] e = tt
kept-awake now (d ∷ ds) e = go (is_idle_at now d) refl e (kept-awake now ds)
  where
    go : (b : Bool) → is_idle_at now d ≡ b → cond b (d ∷ filter (is_idle_at now) ds) (filter (is_idle_at now) ds) ≡ [] → (filter (is_idle_at now) ds ≡ [] → AreAwake now ds) → AreAwake now (d ∷ ds)
    go true i e ih = absurd cc
    go false i e ih = (i, ih e)

none-awake : (now : ℕ) (ds : List Dialogue) → map (λ (d : Dialogue). d.standing.identifier) (in_order table_idle_key (filter (is_idle_at now) ds)) ≡ [] → AreAwake now ds
none-awake now ds e = kept-awake now ds (in-order-none (filter (is_idle_at now) ds) e)

awake-left : (now : ℕ) (ds : List Dialogue) → AreAwake now ds → filter_map (left_at now) ds ≡ map (at_moment now) ds
awake-left now [] h = refl
awake-left now (d ∷ ds) h =
    ap (λ b. cons_option (cond b None (Some (at_moment now d))) (filter_map (left_at now) ds)) h.0
    ∙ ap (λ (l : List Dialogue). at_moment now d ∷ l) (awake-left now ds h.1)

-- Where one has, fewer are left.
left-most : (now : ℕ) (ds : List Dialogue) → length (filter_map (left_at now) ds) ≤ length ds
left-most now [] = omega arith
left-most now (d ∷ ds) = go (is_idle_at now d) (left-most now ds)
  where
    go : (b : Bool) → length (filter_map (left_at now) ds) ≤ length ds → length (cons_option (cond b None (Some (at_moment now d))) (filter_map (left_at now) ds)) ≤ length (d ∷ ds)
    go true le = omega (arith, le)
    go false le = omega (arith, le)

gone-fewer : (now : ℕ) (ds : List Dialogue) (x : Dialogue) (xs : List Dialogue) → filter (is_idle_at now) ds ≡ x ∷ xs → length (filter_map (left_at now) ds) < length ds
gone-fewer now [] x xs e = absurd cc
gone-fewer now (d ∷ ds) x xs e = go (is_idle_at now d) e (gone-fewer now ds x xs) (left-most now ds)
  where
    rest : List Dialogue
    rest = filter_map (left_at now) ds

    go : (b : Bool) → cond b (d ∷ filter (is_idle_at now) ds) (filter (is_idle_at now) ds) ≡ x ∷ xs → (filter (is_idle_at now) ds ≡ x ∷ xs → length rest < length ds) → length rest ≤ length ds
        → length (cons_option (cond b None (Some (at_moment now d))) rest) < length (d ∷ ds)
    go true e ih most = omega (arith, most)
    go false e ih most = let lt = ih e in omega (arith, lt)

-- ---- before the first timer

still-quiet : (w : World) (now : ℕ) (ps : List TableEntry) → w.dialogues ≡ dialogues_of ps → IsAccepted w now → IsQuiet now ps → IsStill w now
still-quiet w now ps is accepted h =
    accepted-move w now accepted
    ∙ ap (λ ds. record { answer = (advanced (record w { dialogues = ds }) now).answer; after = (advanced (record w { dialogues = ds }) now).after }) is
    ∙ ap (λ os. record { answer = Answer.outputs (os ++ all_idle_told now (dialogues_of ps)); after = record w { clock = now; dialogues = filter_map (left_at now) (dialogues_of ps) } }) h.told
    ∙ ap (λ os. record { answer = Answer.outputs os; after = record w { clock = now; dialogues = filter_map (left_at now) (dialogues_of ps) } }) (quiet-ends now ps h.idle)
    ∙ ap (λ ds. record { answer = Answer.outputs []; after = record w { clock = now; dialogues = ds } }) (awake-left now (dialogues_of ps) (none-awake now (dialogues_of ps) h.idle) ∙ sym (dialogues-at now ps) ∙ ap dialogues_of h.rest ∙ sym is)

pub late-still : (w : World) (now : ℕ) (ps : List TableEntry) → w.dialogues ≡ dialogues_of ps → IsAccepted w now → AreLate now ps → IsStill w now
late-still w now ps is accepted late = still-quiet w now ps is accepted (late-quiet now ps late)

-- ---- from the first timer on

fewer-most : (now : ℕ) (rows : List Row) → length (filter (λ r. stays now r.1.stage) rows) ≤ length rows
fewer-most now rows = omega (arith, length-filter_both (λ r. stays now r.1.stage) (λ r. not (stays now r.1.stage)) (λ r. refl) rows)

-- A row goes whose time has come.
fewer-rows : (now t : ℕ) (rows : List Row) → t ≤ now → IsIn t (times_of rows) → length (filter (λ r. stays now r.1.stage) rows) < length rows
fewer-rows now t [] le i = absurd i
fewer-rows now t (r ∷ rs) le i = go r.1.stage i (fewer-rows now t rs le) (fewer-most now rs)
  where
    kept : List Row
    kept = filter (λ r. stays now r.1.stage) rs

    dropped : (b : Bool) → length kept < length rs → length (cond b (r ∷ kept) kept) < length (r ∷ rs)
    dropped true lt = omega (arith, lt)
    dropped false lt = omega (arith, lt)

    go : (s : Stage) → IsIn t (cons_option (time_of s) (times_of rs)) → (IsIn t (times_of rs) → length kept < length rs) → length kept ≤ length rs
        → length (cond (stays now s) (r ∷ kept) kept) < length (r ∷ rs)
    go (Queued timeout) i ih most = dropped true (ih i)
    go (Sent deadline) (inl e) ih most = let over : nat_lt now deadline ≡ false = grind (arith, tests, e, le) in rw over (omega (arith, most))
    go (Sent deadline) (inr i) ih most = dropped (nat_lt now deadline) (ih i)
    go (Waiting until) (inl e) ih most = let over : nat_lt now until ≡ false = grind (arith, tests, e, le) in rw over (omega (arith, most))
    go (Waiting until) (inr i) ih most = dropped (nat_lt now until) (ih i)

-- Where a dialogue has fewer invocations then, the list is another.
changed-list : (now d : ℕ) (w : Dialogue) (ps : List TableEntry) → lookup (nat_eq d) ps ≡ Some w → length (at_moment now w).invocations.rows < length w.invocations.rows → map (at_moment now) (dialogues_of ps) ≢ dialogues_of ps
changed-list now d w [] found fewer same = absurd cc
changed-list now d w (p ∷ ps) found fewer same = go (nat_eq d p.0) found (λ f. changed-list now d w ps f fewer tail)
  where
    head : at_moment now p.1 ≡ p.1
    head = cc

    tail : map (at_moment now) (dialogues_of ps) ≡ dialogues_of ps
    tail = cc

    go : (b : Bool) → cond b (Some p.1) (lookup (nat_eq d) ps) ≡ Some w → (lookup (nat_eq d) ps ≡ Some w → ⊥) → ⊥
    go true f ih =
        let is : p.1 ≡ w = cc in
        let more = ap (λ (x : Dialogue). length x.invocations.rows) (ap (at_moment now) (sym is) ∙ head ∙ is) in
        absurd (omega (arith, more, fewer))
    go false f ih = ih f

-- The timer that was reached is that of its invocations, where it hasn't been idle too long.
rows-reached : (now t : ℕ) (w : Dialogue) → timer_of w ≡ Some t → t ≤ now → is_idle_at now w ≡ false → rows_timer w ≡ Some t
rows-reached now t w timer le awake = go (rows_timer w) (idle_end w) refl timer (idle-due now w ∙ awake)
  where
    go : (a b : Option ℕ) → rows_timer w ≡ a → earliest a b ≡ Some t → is_due now b ≡ false → rows_timer w ≡ Some t
    go None None r e d = absurd cc
    go None (Some y) r e d = let same : y ≡ t = cc in let late : nat_le y now ≡ true = grind (arith, tests, same, le) in absurd cc
    go (Some x) None r e d = r ∙ e
    go (Some x) (Some y) r e d = pick (nat_lt y x) refl e
      where
        pick : (b : Bool) → nat_lt y x ≡ b → Some (cond b y x) ≡ Some t → rows_timer w ≡ Some t
        pick true q e = let same : y ≡ t = cc in let late : nat_le y now ≡ true = grind (arith, tests, same, le) in absurd cc
        pick false q e = r ∙ e

pub reached-changed : (w : World) (now : ℕ) (ps : List TableEntry) (first : ℕ × ℕ) → w.dialogues ≡ dialogues_of ps → IsAccepted w now → IsFirstTimer ps first → first.0 ≤ now → IsChanged w now
reached-changed w now ps first is accepted h le same = go (filter (is_idle_at now) (dialogues_of ps)) refl
  where
    still : filter_map (left_at now) (dialogues_of ps) ≡ dialogues_of ps
    still = ap (filter_map (left_at now)) (sym is) ∙ ap (λ (m : EngineMoved). m.after.dialogues) (sym (accepted-move w now accepted)) ∙ same ∙ is

    awake-of : (ds : List Dialogue) → AreAwake now ds → (d : ℕ) (x : Dialogue) (qs : List TableEntry) → dialogues_of qs ≡ ds → lookup (nat_eq d) qs ≡ Some x → is_idle_at now x ≡ false
    awake-of ds awake d x [] e found = absurd cc
    awake-of [] awake d x (q ∷ qs) e found = absurd cc
    awake-of (y ∷ ys) awake d x (q ∷ qs) e found = pick (nat_eq d q.0) found (awake-of ys awake.1 d x qs cc)
      where
        pick : (b : Bool) → cond b (Some q.1) (lookup (nat_eq d) qs) ≡ Some x → (lookup (nat_eq d) qs ≡ Some x → is_idle_at now x ≡ false) → is_idle_at now x ≡ false
        pick true f ih = let here : q.1 ≡ x = cc in let head : q.1 ≡ y = cc in ap (is_idle_at now) (sym here ∙ head) ∙ awake.0
        pick false f ih = ih f

    quiet : AreAwake now (dialogues_of ps) → ⊥
    quiet awake =
        let off = awake-of (dialogues_of ps) awake first.1 h.dialogue ps refl h.stands in
        let timer = rows-reached now first.0 h.dialogue h.timer le off in
        changed-list now first.1 h.dialogue ps h.stands (fewer-rows now first.0 h.dialogue.invocations.rows le (least-in first.0 (times_of h.dialogue.invocations.rows) timer))
        (sym (awake-left now (dialogues_of ps) awake) ∙ still)

    go : (idle : List Dialogue) → filter (is_idle_at now) (dialogues_of ps) ≡ idle → ⊥
    go [] e = quiet (kept-awake now (dialogues_of ps) e)
    go (x ∷ xs) e = some-gone (dialogues_of ps) e still
      where
        some-gone : (ds : List Dialogue) → filter (is_idle_at now) ds ≡ x ∷ xs → filter_map (left_at now) ds ≡ ds → ⊥
        some-gone ds e same = let fewer = gone-fewer now ds x xs e in let long = ap length same in absurd (omega (arith, fewer, long))

-- ---- the next timer

none-least : (ps : List TableEntry) → AreUntimed ps → least (timers_in (dialogues_of ps)) ≡ None
none-least [] h = refl
none-least (p ∷ ps) h = ap (λ (l : List ℕ). least (l ++ timers_in (dialogues_of ps))) (no-times (times_in p.1) (least-times p.1 ∙ h.0)) ∙ none-least ps h.1

pub next-none : (w : World) (ps : List TableEntry) → w.dialogues ≡ dialogues_of ps → AreUntimed ps → next_timer_in w ≡ None
next-none w ps is h = ap (λ ds. if_within (least (timers_in ds))) is ∙ ap if_within (none-least ps h)

pub next-first : (w : World) (ps : List TableEntry) (first : ℕ × ℕ) → w.dialogues ≡ dialogues_of ps → AreFrom 0 ps → IsFirstTimer ps first → next_timer_in w ≡ if_within (Some first.0)
next-first w ps first is from h = ap (λ ds. if_within (least (timers_in ds))) is ∙ ap if_within (least-timer ps first from h)

pub is-within : (t : ℕ) → t ≤ moment_limit → if_within (Some t) ≡ Some t
is-within t le = let within : nat_le t moment_limit ≡ true = grind (arith, tests, le) in rw within refl

pub is-beyond : (t : ℕ) → moment_limit < t → if_within (Some t) ≡ None
is-beyond t lt = let beyond : nat_le t moment_limit ≡ false = grind (arith, tests, lt) in rw beyond refl
