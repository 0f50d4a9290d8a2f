-- The first timer of all runs out: its lapse is told, and after it the rest.
use Rattle.std.proofs.Common.{◌≡◌, ℕ, ◌+◌, ◌<◌, ◌≤◌, Bool, true, false, cond, nat_eq, nat_lt, List, [], ◌∷◌, ◌++◌, length, map, Option, Some, None, option_to_list, refl, ap, sym, ◌∙◌, arith, tests}
use Rattle.std.proofs.lemmas.Bool.{eqb-true}
use Rattle.std.proofs.lemmas.List.{length-map}
use Rattle.std.specs.Prelude.{IfSome}
use Rattle.std.specs.Map.{lookup, set_value}
use Rattle.std.specs.Option.{option_map}
use Rattle.tcap_invocation.specs.declared.invocations.lapse.Lapse.{Lapse}
use Rattle.tcap_invocation.specs.Lapses.{told_at}
use Rattle.tcap_invocation.specs.Order.{put_by, first_of}
use Rattle.tcap_invocation.proofs.CallerLemmas.{length-in_order}
use Rattle.tcap_model.specs.Table.Dialogue.{Dialogue, idle_end, with_invocations}
use Rattle.tcap_model.specs.Table.DueLapses.{DueLapse, all_due, all_told, at_moment, due_told, table_idle_told}
use Rattle.tcap_dialogue.specs.Timers.{earliest, lapse_told}
use Rattle.tcap_engine.specs.IdleDialogues.{idle_ids}
use Rattle.tcap_dialogue.specs.declared.dialogue.timers.Timer.{Timer}
use Rattle.tcap_dialogue.specs.declared.dialogue.timers.Timer.TheVariants as idle
use Rattle.tcap_engine.specs.Lapsing.{AreBehind, IsFirstTimer, IsExpired, IsPutOff, IsRunOut, due_from, idle_of, row_count, rows_timer, timer_of}
use Rattle.tcap_engine.specs.DialogueEntries.{TableEntry, AreFrom, dialogues_of}
use Rattle.tcap_engine.proofs.OrderLemmas.{put_all, put-put, put-first}
use Rattle.tcap_engine.proofs.DueLemmas.{is_sooner, sooner-never, sooner-once, sooner-behind, sooner-through, named, told_in, order, order-cons}
use Rattle.tcap_engine.proofs.FirstLemmas.{first-told}
use Rattle.tcap_engine.proofs.TableLemmas.{from-set, found-own}
use Rattle.tcap_engine.proofs.EndLemmas.{ends-set, left-set}
use Rattle.tcap_engine.proofs.IdleLemmas.{AreIdleBehind, idle-first, idle-same}
use Rattle.tcap_model.specs.Table.TableMove.{ended_told}
use Rattle.tcap_model.specs.Words.Output.{Output, AbortCause, DialogueIndication}
use Rattle.timed_table.specs.Row.{is_before}

-- ---- the rest

-- Lapses of other dialogues may be put in before or after.
past-put : (now : ℕ) (i : ℕ) (x : DueLapse) (ls : List Lapse) (zs : List DueLapse) → nat_eq x.dialogue i ≡ false → put_all is_sooner (map (named i) ls) (put_by is_sooner x zs) ≡ put_by is_sooner x (put_all is_sooner (map (named i) ls) zs)
past-put now i x [] zs other = refl
past-put now i x (l ∷ ls) zs other =
    ap (put_by is_sooner (named i l)) (past-put now i x ls zs other)
    ∙ go (is_sooner (named i l) x) refl
  where
    rest : List DueLapse
    rest = put_all is_sooner (map (named i) ls) zs

    go : (b : Bool) → is_sooner (named i l) x ≡ b → put_by is_sooner (named i l) (put_by is_sooner x rest) ≡ put_by is_sooner x (put_by is_sooner (named i l) rest)
    go true e = put-put is_sooner sooner-once sooner-behind sooner-through x (named i l) rest e
    go false e =
        let back : is_sooner x (named i l) ≡ true = grind (arith, tests, e, other) in
        sym (put-put is_sooner sooner-once sooner-behind sooner-through (named i l) x rest back)

-- Where the first of a dialogue has lapsed, it is put among what is due then.
pub put-lapsed : (now low : ℕ) (ps : List TableEntry) (x : DueLapse) (old new : Dialogue) → AreFrom low ps → lookup (nat_eq x.dialogue) ps ≡ Some old → new.standing.identifier ≡ x.dialogue
    → told_at now old.invocations.rows ≡ x.lapse ∷ told_at now new.invocations.rows
    → order now (dialogues_of ps) ≡ put_by is_sooner x (order now (dialogues_of (set_value (nat_eq x.dialogue) ps new)))
put-lapsed now low [] x old new h found own told = absurd cc
put-lapsed now low (p ∷ ps) x old new h found own told = go (nat_eq x.dialogue p.0) refl found (λ f. put-lapsed now (p.0 + 1) ps x old new h.2 f own told)
  where
    go : (b : Bool) → nat_eq x.dialogue p.0 ≡ b → cond b (Some p.1) (lookup (nat_eq x.dialogue) ps) ≡ Some old
        → (lookup (nat_eq x.dialogue) ps ≡ Some old → order now (dialogues_of ps) ≡ put_by is_sooner x (order now (dialogues_of (set_value (nat_eq x.dialogue) ps new))))
        → order now (dialogues_of (p ∷ ps)) ≡ put_by is_sooner x (order now (dialogues_of (cond b ((p.0, new) ∷ ps) (p ∷ set_value (nat_eq x.dialogue) ps new))))
    go true e f ih =
        let same : p.1 ≡ old = cc in
        let is : p.1.standing.identifier ≡ new.standing.identifier = h.1 ∙ sym (eqb-true x.dialogue p.0 e) ∙ sym own in
        let rows : told_at now p.1.invocations.rows ≡ x.lapse ∷ told_at now new.invocations.rows = ap (λ (d : Dialogue). told_at now d.invocations.rows) same ∙ told in
        let head : named new.standing.identifier x.lapse ≡ x = ap (λ i. named i x.lapse) own in
        order-cons now p.1 (dialogues_of ps)
        ∙ ap (λ i. put_all is_sooner (map (named i) (told_at now p.1.invocations.rows)) (order now (dialogues_of ps))) is
        ∙ ap (λ (ls : List Lapse). put_all is_sooner (map (named new.standing.identifier) ls) (order now (dialogues_of ps))) rows
        ∙ ap (λ (y : DueLapse). put_by is_sooner y (put_all is_sooner (told_in now new) (order now (dialogues_of ps)))) head
        ∙ ap (put_by is_sooner x) (sym (order-cons now new (dialogues_of ps)))
    go false e f ih =
        let other : nat_eq x.dialogue p.1.standing.identifier ≡ false = ap (nat_eq x.dialogue) h.1 ∙ e in
        order-cons now p.1 (dialogues_of ps)
        ∙ ap (put_all is_sooner (told_in now p.1)) (ih f)
        ∙ past-put now p.1.standing.identifier x (told_at now p.1.invocations.rows) (order now (dialogues_of (set_value (nat_eq x.dialogue) ps new))) other
        ∙ ap (put_by is_sooner x) (sym (order-cons now p.1 (dialogues_of (set_value (nat_eq x.dialogue) ps new))))

-- The first is told, and then the rest.
pub least-first : (now : ℕ) (ps : List TableEntry) (x : DueLapse) (old new : Dialogue) → AreFrom 0 ps → first_of (order now (dialogues_of ps)) ≡ Some x → lookup (nat_eq x.dialogue) ps ≡ Some old → new.standing.identifier ≡ x.dialogue
    → told_at now old.invocations.rows ≡ x.lapse ∷ told_at now new.invocations.rows
    → all_told now (dialogues_of ps) ≡ due_told x ∷ all_told now (dialogues_of (set_value (nat_eq x.dialogue) ps new))
least-first now ps x old new h first found own told =
    let put = put-lapsed now 0 ps x old new h found own told in
    ap (map due_told) (put ∙ put-first is_sooner sooner-never x (order now (dialogues_of (set_value (nat_eq x.dialogue) ps new))) (ap first_of (sym put) ∙ first))

-- As much is told as is due.
pub length-all_told : (now : ℕ) (ds : List Dialogue) → length (all_told now ds) ≡ length (all_due now ds)
length-all_told now ds = length-map (order now ds) due_told ∙ length-in_order is_sooner (all_due now ds)

-- Where a dialogue tells the same, all tell the same.
order-same : (now d : ℕ) (old new : Dialogue) (ps : List TableEntry) → lookup (nat_eq d) ps ≡ Some old → told_in now new ≡ told_in now old → order now (dialogues_of (set_value (nat_eq d) ps new)) ≡ order now (dialogues_of ps)
order-same now d old new [] found same = refl
order-same now d old new (p ∷ ps) found same = go (nat_eq d p.0) found (λ f. order-same now d old new ps f same)
  where
    rest : List Dialogue
    rest = dialogues_of ps

    go : (b : Bool) → cond b (Some p.1) (lookup (nat_eq d) ps) ≡ Some old → (lookup (nat_eq d) ps ≡ Some old → order now (dialogues_of (set_value (nat_eq d) ps new)) ≡ order now rest)
        → order now (dialogues_of (cond b ((p.0, new) ∷ ps) (p ∷ set_value (nat_eq d) ps new))) ≡ order now (dialogues_of (p ∷ ps))
    go true f ih =
        let is : p.1 ≡ old = cc in
        order-cons now new rest ∙ ap (λ (xs : List DueLapse). put_all is_sooner xs (order now rest)) (same ∙ ap (told_in now) (sym is)) ∙ sym (order-cons now p.1 rest)
    go false f ih = order-cons now p.1 (dialogues_of (set_value (nat_eq d) ps new)) ∙ ap (put_all is_sooner (told_in now p.1)) (ih f) ∙ sym (order-cons now p.1 rest)

row_count-set : (d : ℕ) (old new : Dialogue) (ps : List TableEntry) → lookup (nat_eq d) ps ≡ Some old → length new.invocations.rows < length old.invocations.rows → row_count (set_value (nat_eq d) ps new) < row_count ps
row_count-set d old new [] found fewer = absurd cc
row_count-set d old new (p ∷ ps) found fewer = go (nat_eq d p.0) found (λ f. row_count-set d old new ps f fewer)
  where
    go : (b : Bool) → cond b (Some p.1) (lookup (nat_eq d) ps) ≡ Some old → (lookup (nat_eq d) ps ≡ Some old → row_count (set_value (nat_eq d) ps new) < row_count ps)
        → row_count (cond b ((p.0, new) ∷ ps) (p ∷ set_value (nat_eq d) ps new)) < row_count (p ∷ ps)
    go true f ih = let is : p.1 ≡ old = cc in let same = ap (λ (w : Dialogue). length w.invocations.rows) is in omega (arith, same, fewer)
    go false f ih = let rest = ih f in omega (arith, rest)

row_count-same : (d : ℕ) (old new : Dialogue) (ps : List TableEntry) → lookup (nat_eq d) ps ≡ Some old → length new.invocations.rows ≡ length old.invocations.rows → row_count (set_value (nat_eq d) ps new) ≡ row_count ps
row_count-same d old new [] found same = refl
row_count-same d old new (p ∷ ps) found same = go (nat_eq d p.0) found (λ f. row_count-same d old new ps f same)
  where
    go : (b : Bool) → cond b (Some p.1) (lookup (nat_eq d) ps) ≡ Some old → (lookup (nat_eq d) ps ≡ Some old → row_count (set_value (nat_eq d) ps new) ≡ row_count ps)
        → row_count (cond b ((p.0, new) ∷ ps) (p ∷ set_value (nat_eq d) ps new)) ≡ row_count (p ∷ ps)
    go true f ih = let is : p.1 ≡ old = cc in ap (λ n. n + row_count ps) (same ∙ ap (λ (w : Dialogue). length w.invocations.rows) (sym is))
    go false f ih = ap (λ n. length p.1.invocations.rows + n) (ih f)

-- The ends of the others are behind.
idle-behind : (first : ℕ × ℕ) (ps : List TableEntry) → AreBehind first ps → AreIdleBehind first ps
idle-behind first [] h = tt
idle-behind first (p ∷ ps) h = (one (rows_timer p.1) (idle_end p.1) h.0, idle-behind first ps h.1)
  where
    one : (a b : Option ℕ) → IfSome (earliest a b) (λ time. is_before (time, p.0) first ≡ false) → IfSome b (λ time. is_before (time, p.0) first ≡ false)
    one a None h = tt
    one None (Some y) h = h
    one (Some x) (Some y) h = go (nat_lt y x) refl h
      where
        go : (b : Bool) → nat_lt y x ≡ b → is_before (cond b y x, p.0) first ≡ false → is_before (y, p.0) first ≡ false
        go true e h = h
        go false e h = grind (arith, tests, e, h)

-- A timer of its invocations has run out, in the dialogue that was written.
run-out-told : (now t d : ℕ) (lapse : Option Lapse) (ps : List TableEntry) (old new : Dialogue) → AreFrom 0 ps → IsFirstTimer ps (t, d) → lookup (nat_eq d) ps ≡ Some old → IsRunOut now t lapse old new → new.standing.identifier ≡ d
    → all_told now (dialogues_of ps) ≡ option_to_list (option_map (λ l. due_told (due_from d l)) lapse) ++ all_told now (dialogues_of (set_value (nat_eq d) ps new))
run-out-told now t d lapse ps old new from timer found h own = go lapse h.first h.told
  where
    alike : new.standing.identifier ≡ old.standing.identifier
    alike = ap (λ (w : Dialogue). w.standing.identifier) h.alike

    go : (o : Option Lapse) → IfSome o (λ l. l.deadline ≡ t) → told_at now old.invocations.rows ≡ option_to_list o ++ told_at now new.invocations.rows
        → all_told now (dialogues_of ps) ≡ option_to_list (option_map (λ l. due_told (due_from d l)) o) ++ all_told now (dialogues_of (set_value (nat_eq d) ps new))
    go None at told =
        ap (map due_told) (sym (order-same now d old new ps found (ap (λ i. map (named i) (told_at now new.invocations.rows)) alike ∙ ap (map (named old.standing.identifier)) (sym told))))
    go (Some l) at told = least-first now ps (due_from d l) old new from (first-told now t d l at ps old from found timer.least (ap first_of told)) found own told

module _ (now t d : ℕ) (ps : List TableEntry) (old new : Dialogue) (from : AreFrom 0 ps) (timer : IsFirstTimer ps (t, d)) (found : lookup (nat_eq d) ps ≡ Some old) where
  abbrev after : List TableEntry
  after = set_value (nat_eq d) ps new

  named-so : old.standing.identifier ≡ d
  named-so = found-own d 0 old ps from found

  -- a timer of its invocations ran out
  pub run-out-set : (what : Timer) (lapse : Option Lapse) → idle_of d what ≡ [] → IsRunOut now t lapse old new → IsExpired now d what ps after
  run-out-set what lapse none h = record {
    idle = sym same ∙ ap (λ ids. ids ++ idle_ids now after) (sym none);
    ends = ends-set now d old new ps found (idle-told-same h.alike h.rest);
    left = λ ids among. left-set now d old new ids ps from found (λ other. h.rest);
    from = from-set d 0 new ps (ap (λ (w : Dialogue). w.standing.identifier) h.alike ∙ named-so) from;
    fewer = let rows = row_count-set d old new ps found h.fewer in let ids = ap (λ (l : List ℕ). length l) same in omega (arith, rows, ids);
  }
    where
      same : idle_ids now after ≡ idle_ids now ps
      same = idle-same now d old new ps found h.alike

      idle-told-same : new ≡ with_invocations old new.invocations → at_moment now new ≡ at_moment now old → table_idle_told now new ≡ table_idle_told now old
      idle-told-same e rest =
          ap (λ (w : Dialogue). Output.dialogue (DialogueIndication.p_abort w.standing.identifier AbortCause.idle) ∷ ended_told w.standing.identifier w.invocations) rest

  pub run-out-tells : (lapse : Option Lapse) → IsRunOut now t lapse old new → all_told now (dialogues_of ps) ≡ lapse_told d lapse ++ all_told now (dialogues_of after)
  run-out-tells None h = run-out-told now t d None ps old new from timer found h (ap (λ (w : Dialogue). w.standing.identifier) h.alike ∙ named-so)
  run-out-tells (Some lapse) h = run-out-told now t d (Some lapse) ps old new from timer found h (ap (λ (w : Dialogue). w.standing.identifier) h.alike ∙ named-so)

  -- its end is postponed
  pub put-off-set : IsPutOff now t old new → t ≤ now → IsExpired now d idle.Idle ps after
  put-off-set h reached = record {
    idle = idle-first now t d old ps from found h.ends reached (idle-behind (t, d) ps timer.least) ∙ ap (λ (w : Dialogue). d ∷ idle_ids now (set_value (nat_eq d) ps w)) (sym h.is_touched);
    ends = ends-set now d old new ps found (ap (table_idle_told now) h.is_touched);
    left = λ ids among. left-set now d old new ids ps from found (λ other. absurd (let is = among refl in let never : true ≡ false = sym is ∙ other in cc));
    from = from-set d 0 new ps (ap (λ (w : Dialogue). w.standing.identifier) h.is_touched ∙ named-so) from;
    fewer = let first = idle-first now t d old ps from found h.ends reached (idle-behind (t, d) ps timer.least) in
        let ids = ap (λ (l : List ℕ). length l) first in
        let here = ap (λ (w : Dialogue). length (idle_ids now (set_value (nat_eq d) ps w))) h.is_touched in
        let rows = row_count-same d old new ps found (ap (λ (w : Dialogue). length w.invocations.rows) h.is_touched) in
        omega (arith, ids, here, rows);
  }

  pub put-off-tells : IsPutOff now t old new → all_told now (dialogues_of ps) ≡ all_told now (dialogues_of after)
  put-off-tells h = ap (map due_told) (sym (order-same now d old new ps found (ap (told_in now) h.is_touched)))

-- The dialogue of the first timer is the one that is found.
pub same-first : (ps : List TableEntry) (t d : ℕ) (w : Dialogue) → IsFirstTimer ps (t, d) → lookup (nat_eq d) ps ≡ Some w → timer_of w ≡ Some t
same-first ps t d w h found = let stands = h.stands in let same : w ≡ h.dialogue = cc in ap timer_of same ∙ h.timer
