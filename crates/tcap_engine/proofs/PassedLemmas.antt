-- The first timer of a dialogue runs out: what was due there, and what is left.
use Rattle.std.proofs.Common.{◌≡◌, ℕ, ◌+◌, ◌<◌, ◌≤◌, Bool, true, false, cond, nat_eq, nat_lt, nat_le, List, [], ◌∷◌, ◌++◌, length, Option, Some, None, refl, ap, sym, subst, ◌∙◌, append_assoc, length-append, arith, tests}
use Rattle.std.proofs.lemmas.List.{length-map}
use Rattle.std.specs.Map.{lookup, set_value}
use Rattle.std.specs.Prelude.{IfSome, unwrap_or}
use Rattle.tcap_dialogue.specs.Timers.{after_timer, earliest, expiry_by, first_by, idle_by, lapse_told, reached_by, timer_of as kind_of}
use Rattle.tcap_dialogue.specs.declared.dialogue.timers.Timer.{Timer}
use Rattle.tcap_dialogue.specs.declared.dialogue.timers.Timer.TheVariants as timer
use Rattle.tcap_engine.specs.DialogueEntries.{TableEntry, AreFrom, dialogues_of}
use Rattle.tcap_engine.specs.Lapsing.{IsExpired, IsFirstTimer, IsPutOff, IsRunOut, rows_timer}
use Rattle.tcap_engine.proofs.LeastLemmas.{length-all_told, put-off-set, put-off-tells, run-out-set, run-out-tells, same-first}
use Rattle.tcap_engine.proofs.TableLemmas.{found-own}
use Rattle.tcap_invocation.specs.declared.invocations.lapse.Expiry.{Expiry}
use Rattle.tcap_invocation.specs.declared.invocations.lapse.Expiry.TheVariants.{Lapse as Lapses, Wait}
use Rattle.tcap_invocation.specs.Expiries.{RunsOut, WasNext, after_expiry, lapse_in}
use Rattle.tcap_model.specs.Table.Dialogue.{Dialogue, idle_end, touched_at, with_invocations}
use Rattle.tcap_invocation.specs.Lapses.{due_at, told_at, is_before}
use Rattle.tcap_invocation.proofs.CallerLemmas.{length-in_order}
use Rattle.tcap_model.specs.Table.DueLapses.{all_due, all_told, due_in}
use Rattle.tcap_model.specs.Words.Output.{Output}

-- ---- the moment of the timer

until-late : (now : ℕ) (o : Option ℕ) → unwrap_or (reached_by now o) now ≤ now
until-late now None = omega arith
until-late now (Some y) = go (nat_le y now) refl
  where
    go : (b : Bool) → nat_le y now ≡ b → unwrap_or (cond b (Some y) None) now ≤ now
    go true e = grind (arith, tests, e)
    go false e = omega arith

-- what lapses before the idle limit is the first
lapse-first : (now t deadline : ℕ) (o : Option ℕ) → deadline ≤ unwrap_or (reached_by now o) now → earliest (Some deadline) o ≡ Some t → deadline ≡ t
lapse-first now t deadline None by e = cc
lapse-first now t deadline (Some y) by e = go (nat_lt y deadline) refl e
  where
    go : (b : Bool) → nat_lt y deadline ≡ b → Some (cond b y deadline) ≡ Some t → deadline ≡ t
    go false d e = cc
    go true d e = absurd (reach (nat_le y now) refl by)
      where
        reach : (b : Bool) → nat_le y now ≡ b → deadline ≤ unwrap_or (cond b (Some y) None) now → ⊥
        reach true k by = grind (arith, tests, d, by)
        reach false k by = grind (arith, tests, d, k, by)

-- where no timer of the invocations comes before the idle limit, that is the first
idle-first : (t y : ℕ) (next : Option ℕ) → IfSome next (λ time. y < time) → earliest next (Some y) ≡ Some t → y ≡ t
idle-first t y None behind e = cc
idle-first t y (Some x) behind e =
    let less : nat_lt y x ≡ true = grind (arith, tests, behind) in
    let first : Some (cond (nat_lt y x) y x) ≡ Some t = e in
    let is : Some y ≡ Some t = rw less at first in
    cc

-- where none is reached, none is first
none-first : (now t : ℕ) (next o : Option ℕ) → IfSome next (λ time. now < time) → reached_by now o ≡ None → t ≤ now → earliest next o ≡ Some t → ⊥
none-first now t None None behind late le e = cc
none-first now t (Some x) None behind late le e = let is : x ≡ t = cc in omega (arith, is, le, behind)
none-first now t next (Some y) behind late le e = go (nat_le y now) refl late
  where
    first : (next : Option ℕ) → IfSome next (λ time. now < time) → now < y → earliest next (Some y) ≡ Some t → ⊥
    first None behind after e = let is : y ≡ t = cc in omega (arith, is, le, after)
    first (Some x) behind after e = pick (nat_lt y x) e
      where
        pick : (b : Bool) → Some (cond b y x) ≡ Some t → ⊥
        pick true e = let is : y ≡ t = cc in omega (arith, is, le, after)
        pick false e = let is : x ≡ t = cc in omega (arith, is, le, behind)

    go : (b : Bool) → nat_le y now ≡ b → cond b (Some y) None ≡ None → ⊥
    go true k late = absurd cc
    go false k late = first next behind (grind (arith, tests, k)) e

reached-is : (now y : ℕ) (o : Option ℕ) → reached_by now o ≡ Some y → o ≡ Some y
reached-is now y None e = absurd cc
reached-is now y (Some z) e = go (nat_le z now) e
  where
    go : (b : Bool) → cond b (Some z) None ≡ Some y → Some z ≡ Some y
    go true e = e
    go false e = absurd cc

-- ---- in the table

module _ (now t d : ℕ) (ps : List TableEntry) (old : Dialogue) (from : AreFrom 0 ps) (first : IsFirstTimer ps (t, d)) (le : t ≤ now) (found : lookup (nat_eq d) ps ≡ Some old) where
  timely : earliest (rows_timer old) (idle_end old) ≡ Some t
  timely = same-first ps t d old first found

  -- invocations that ran out by the moment up to which they come first
  ran-out : (expiry : Expiry) → RunsOut (first_by now old) (Some expiry) old.invocations (after_expiry old.invocations (first_by now old) (Some expiry))
      → IsRunOut now t (lapse_in (Some expiry)) old (with_invocations old (after_expiry old.invocations (first_by now old) (Some expiry)))
  ran-out expiry rest = record {
    told = rest.told now (until-late now (idle_end old));
    first = deadline expiry rest;
    rest = ap (with_invocations old) (rest.rest now (until-late now (idle_end old)));
    alike = refl;
    fewer = rest.fewer refl;
  }
    where
      deadline : (expiry : Expiry) → RunsOut (first_by now old) (Some expiry) old.invocations (after_expiry old.invocations (first_by now old) (Some expiry)) → IfSome (lapse_in (Some expiry)) (λ l. l.deadline ≡ t)
      deadline (Lapses l) rest = lapse-first now t l.deadline (idle_end old) rest.deadline (ap (λ o. earliest o (idle_end old)) (sym rest.next) ∙ timely)
      deadline Wait rest = tt

  put-off : (y : ℕ) → idle_by now old ≡ Some y → RunsOut y None old.invocations (after_expiry old.invocations y None) → IsPutOff now t old (touched_at old now)
  put-off y idle rest =
      let ends : idle_end old ≡ Some y = reached-is now y (idle_end old) idle in
      let is : y ≡ t = idle-first t y (rows_timer old) rest.next (ap (earliest (rows_timer old)) (sym ends) ∙ timely) in
      record { ends = ends ∙ ap Some is; is_touched = refl }

  abbrev after : Option Expiry → Option ℕ → List TableEntry
  after expiry idle = set_value (nat_eq d) ps (after_timer now expiry idle old)

  -- What ran out, and what is told of it.
  pub record Ran (expiry : Option Expiry) (idle : Option ℕ) : Type 0 where
    pub expired : IfSome (kind_of expiry idle) (λ what. IsExpired now d what ps (after expiry idle))
    pub told : all_told now (dialogues_of ps) ≡ lapse_told d (lapse_in expiry) ++ all_told now (dialogues_of (after expiry idle))
    pub some : kind_of expiry idle ≡ None → ⊥

  pub ran : RunsOut (first_by now old) (expiry_by now old) old.invocations (after_expiry old.invocations (first_by now old) (expiry_by now old)) → Ran (expiry_by now old) (idle_by now old)
  ran rest = go (expiry_by now old) (idle_by now old) refl rest
    where
      go : (expiry : Option Expiry) (idle : Option ℕ) → idle_by now old ≡ idle → RunsOut (first_by now old) expiry old.invocations (after_expiry old.invocations (first_by now old) expiry) → Ran expiry idle
      go (Some (Lapses l)) idle is rest =
          let at : (o : Option ℕ) → idle_by now old ≡ o → IsRunOut now t (Some l) old (after_timer now (Some (Lapses l)) o old) =
          λ o e. subst (λ (o : Option ℕ). IsRunOut now t (Some l) old (after_timer now (Some (Lapses l)) o old)) e (ran-out (Lapses l) rest) in
          record {
            expired = run-out-set now t d ps old (after_timer now (Some (Lapses l)) idle old) from first found timer.Lapse (Some l) refl (at idle is);
            told = run-out-tells now t d ps old (after_timer now (Some (Lapses l)) idle old) from first found (Some l) (at idle is);
            some = λ none. absurd cc;
          }
      go (Some Wait) idle is rest =
          let at : (o : Option ℕ) → idle_by now old ≡ o → IsRunOut now t None old (after_timer now (Some Wait) o old) =
          λ o e. subst (λ (o : Option ℕ). IsRunOut now t None old (after_timer now (Some Wait) o old)) e (ran-out Wait rest) in
          record {
            expired = run-out-set now t d ps old (after_timer now (Some Wait) idle old) from first found timer.Wait None refl (at idle is);
            told = run-out-tells now t d ps old (after_timer now (Some Wait) idle old) from first found None (at idle is);
            some = λ none. absurd cc;
          }
      go None (Some y) is rest =
          let at = put-off y is (subst (λ (o : Option ℕ). RunsOut (unwrap_or o now) None old.invocations (after_expiry old.invocations (unwrap_or o now) None)) is rest) in
          record {
            expired = put-off-set now t d ps old (touched_at old now) from first found at le;
            told = put-off-tells now t d ps old (touched_at old now) from first found at;
            some = λ none. absurd cc;
          }
      go None None is rest =
          let bad : ⊥ = none-first now t (rows_timer old) (idle_end old) (subst (λ (o : Option ℕ). WasNext (unwrap_or o now) None (rows_timer old)) is rest.next) is le timely in
          absurd bad

  -- what is to be told at the moment is what was told, and the rest
  pub tells : (new : Dialogue) (before told : List Output) → Ran (expiry_by now old) (idle_by now old) → new ≡ after_timer now (expiry_by now old) (idle_by now old) old → told ≡ before ++ lapse_told old.standing.identifier (lapse_in (expiry_by now old))
      → told ++ all_told now (dialogues_of (set_value (nat_eq d) ps new)) ≡ before ++ all_told now (dialogues_of ps)
  tells new before told r is pushed =
      let rest : List Output = all_told now (dialogues_of (after (expiry_by now old) (idle_by now old))) in
      let own = found-own d 0 old ps from found in
      ap (λ (w : Dialogue). told ++ all_told now (dialogues_of (set_value (nat_eq d) ps w))) is
      ∙ ap (λ os. os ++ rest) pushed
      ∙ append_assoc before (lapse_told old.standing.identifier (lapse_in (expiry_by now old))) rest
      ∙ ap (λ i. before ++ (lapse_told i (lapse_in (expiry_by now old)) ++ rest)) own
      ∙ ap (λ os. before ++ os) (sym r.told)

  pub fits : (new : Dialogue) (places left : ℕ) → Ran (expiry_by now old) (idle_by now old) → new ≡ after_timer now (expiry_by now old) (idle_by now old) old → places ≤ left + length (lapse_told old.standing.identifier (lapse_in (expiry_by now old)))
      → places + length (all_told now (dialogues_of (set_value (nat_eq d) ps new))) ≤ left + length (all_told now (dialogues_of ps))
  fits new places left r is most =
      let rest : List Output = all_told now (dialogues_of (after (expiry_by now old) (idle_by now old))) in
      let own = ap (λ i. length (lapse_told i (lapse_in (expiry_by now old)))) (found-own d 0 old ps from found) in
      let same = ap (λ (w : Dialogue). length (all_told now (dialogues_of (set_value (nat_eq d) ps w)))) is in
      let long = ap length r.told ∙ length-append (lapse_told d (lapse_in (expiry_by now old))) rest in
      omega (arith, own, same, long, most)

  pub expires : (new : Dialogue) (what : Timer) → Ran (expiry_by now old) (idle_by now old) → new ≡ after_timer now (expiry_by now old) (idle_by now old) old → kind_of (expiry_by now old) (idle_by now old) ≡ Some what
      → IsExpired now d what ps (set_value (nat_eq d) ps new)
  expires new what r is kind =
      let so : IsExpired now d what ps (after (expiry_by now old) (idle_by now old)) =
      subst (λ o. IfSome o (λ what. IsExpired now d what ps (after (expiry_by now old) (idle_by now old)))) kind r.expired in
      subst (λ (w : Dialogue). IsExpired now d what ps (set_value (nat_eq d) ps w)) (sym is) so

-- ---- room

-- As much as is told of one dialogue is told of all.
due-within : (now d : ℕ) (ps : List TableEntry) (old : Dialogue) → lookup (nat_eq d) ps ≡ Some old → length (due_at now old.invocations.rows) ≤ length (all_due now (dialogues_of ps))
due-within now d [] old found = absurd cc
due-within now d (p ∷ ps) old found = go (nat_eq d p.0) found (due-within now d ps old)
  where
    parts : length (all_due now (dialogues_of (p ∷ ps))) ≡ length (due_in now p.1) + length (all_due now (dialogues_of ps))
    parts = length-append (due_in now p.1) (all_due now (dialogues_of ps))

    own : length (due_in now p.1) ≡ length (due_at now p.1.invocations.rows)
    own = length-map (due_at now p.1.invocations.rows) _

    go : (b : Bool) → cond b (Some p.1) (lookup (nat_eq d) ps) ≡ Some old → (lookup (nat_eq d) ps ≡ Some old → length (due_at now old.invocations.rows) ≤ length (all_due now (dialogues_of ps)))
        → length (due_at now old.invocations.rows) ≤ length (all_due now (dialogues_of (p ∷ ps)))
    go true f ih = let is : p.1 ≡ old = cc in let same = ap (λ (w : Dialogue). length (due_at now w.invocations.rows)) is in omega (arith, parts, own, same)
    go false f ih = let most = ih f in omega (arith, parts, most)

pub told-within : (now d : ℕ) (ps : List TableEntry) (old : Dialogue) → lookup (nat_eq d) ps ≡ Some old → length (told_at now old.invocations.rows) ≤ length (all_told now (dialogues_of ps))
told-within now d ps old found =
    let one = length-in_order is_before (due_at now old.invocations.rows) in
    let all = length-all_told now (dialogues_of ps) in
    let most = due-within now d ps old found in
    omega (arith, one, all, most)
