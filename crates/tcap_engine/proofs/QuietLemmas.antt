-- A moment before all timers tells nothing and changes nothing.
use Rattle.std.proofs.Common.{◌≡◌, ℕ, ◌+◌, ◌<◌, Bool, true, false, cond, ◌&&◌, if◌then◌else◌, nat_lt, nat_le, List, [], ◌∷◌, ◌++◌, map, filter, Option, Some, None, refl, ap, sym, ◌∙◌, arith, tests}
use Rattle.std.specs.Prelude.{IfSome}
use Rattle.tcap_dialogue.specs.Timers.{earliest}
use Rattle.tcap_engine.specs.IdleDialogues.{entry_at}
use Rattle.tcap_engine.specs.Lapsing.{AreBehind, AreUntimed, IsQuiet, rows_timer, timer_of}
use Rattle.tcap_engine.specs.DialogueEntries.{TableEntry, dialogues_of}
use Rattle.tcap_engine.proofs.TimerLemmas.{quiet-rows}
use Rattle.tcap_invocation.specs.Invocations.{with_rows}
use Rattle.tcap_model.specs.Table.Dialogue.{Dialogue, idle_end, is_idle_at, with_invocations}
use Rattle.tcap_model.specs.Words.State.{is_live}
use Rattle.tcap_model.specs.Table.DueLapses.{DueLapse, due_key, due_told, due_in, all_due, table_idle_key}
use Rattle.tcap_model.specs.Words.KeyOrder.{in_order}
use Rattle.timed_table.specs.Row.{is_before, is_due}

-- A moment has reached the timer of no dialogue.
abbrev pub AreLate : ℕ → List TableEntry → Type 0
AreLate now [] = Unit {0}
AreLate now (p ∷ ps) = (is_due now (timer_of p.1) ≡ false) × AreLate now ps

pub idle-late : (now : ℕ) (ps : List TableEntry) → AreUntimed ps → AreLate now ps
idle-late now [] h = tt
idle-late now (p ∷ ps) h = (ap (is_due now) h.0, idle-late now ps h.1)

pub behind-late : (now : ℕ) (first : ℕ × ℕ) (ps : List TableEntry) → now < first.0 → AreBehind first ps → AreLate now ps
behind-late now first [] lt h = tt
behind-late now first (p ∷ ps) lt h = (own (timer_of p.1) h.0, behind-late now first ps lt h.1)
  where
    own : (o : Option ℕ) → IfSome o (λ time. is_before (time, p.0) first ≡ false) → is_due now o ≡ false
    own None k = refl
    own (Some time) k = grind (arith, tests, k, lt)

-- A moment that hasn't reached the earlier of two has reached neither.
pub late-parts : (now : ℕ) (a b : Option ℕ) → is_due now (earliest a b) ≡ false → (is_due now a ≡ false) × (is_due now b ≡ false)
late-parts now None b h = (refl, h)
late-parts now (Some x) None h = (h, refl)
late-parts now (Some x) (Some y) h = go (nat_lt y x) refl h
  where
    go : (b : Bool) → nat_lt y x ≡ b → nat_le (cond b y x) now ≡ false → (nat_le x now ≡ false) × (nat_le y now ≡ false)
    go true e h = (grind (arith, tests, e, h), h)
    go false e h = (h, grind (arith, tests, e, h))

rows-late : (now : ℕ) (d : Dialogue) → is_due now (timer_of d) ≡ false → is_due now (rows_timer d) ≡ false
rows-late now d h = (late-parts now (rows_timer d) (idle_end d) h).0

-- A dialogue is idle once its end is due.
pub idle-due : (now : ℕ) (d : Dialogue) → is_due now (idle_end d) ≡ is_idle_at now d
idle-due now d = go (is_live d.standing.state) (nat_lt 0 d.idle_ms)
  where
    go : (a b : Bool) → is_due now (if a && b then Some (d.touched + d.idle_ms) else None) ≡ (a && (b && nat_le (d.touched + d.idle_ms) now))
    go true true = refl
    go true false = refl
    go false b = refl

none-idle : (now : ℕ) (ps : List TableEntry) → AreLate now ps → filter (is_idle_at now) (dialogues_of ps) ≡ []
none-idle now [] h = refl
none-idle now (p ∷ ps) h =
    let awake : is_idle_at now p.1 ≡ false = sym (idle-due now p.1) ∙ (late-parts now (rows_timer p.1) (idle_end p.1) h.0).1 in
    ap (λ b. cond b (p.1 ∷ filter (is_idle_at now) (dialogues_of ps)) (filter (is_idle_at now) (dialogues_of ps))) awake ∙ none-idle now ps h.1

none-due-in : (now : ℕ) (d : Dialogue) → is_due now (timer_of d) ≡ false → due_in now d ≡ []
none-due-in now d h = ap (map (λ lapse. record { dialogue = d.standing.identifier; lapse = lapse })) (quiet-rows now d.invocations.rows (rows-late now d h)).0

none-due : (now : ℕ) (ps : List TableEntry) → AreLate now ps → all_due now (dialogues_of ps) ≡ []
none-due now [] h = refl
none-due now (p ∷ ps) h = ap (λ (l : List DueLapse). l ++ all_due now (dialogues_of ps)) (none-due-in now p.1 h.0) ∙ none-due now ps h.1

same-place : (now : ℕ) (p : TableEntry) → is_due now (timer_of p.1) ≡ false → entry_at now p ≡ p
same-place now p h = ap (λ rows. (p.0, with_invocations p.1 (with_rows p.1.invocations rows))) (quiet-rows now p.1.invocations.rows (rows-late now p.1 h)).1

same-places : (now : ℕ) (ps : List TableEntry) → AreLate now ps → map (entry_at now) ps ≡ ps
same-places now [] h = refl
same-places now (p ∷ ps) h = ap (λ (q : TableEntry). q ∷ map (entry_at now) ps) (same-place now p h.0) ∙ ap (λ (l : List TableEntry). p ∷ l) (same-places now ps h.1)

pub late-quiet : (now : ℕ) (ps : List TableEntry) → AreLate now ps → IsQuiet now ps
late-quiet now ps h = record {
  told = ap (λ (l : List DueLapse). map due_told (in_order due_key l)) (none-due now ps h);
  idle = ap (λ (l : List Dialogue). map (λ d. d.standing.identifier) (in_order table_idle_key l)) (none-idle now ps h);
  rest = same-places now ps h;
}
