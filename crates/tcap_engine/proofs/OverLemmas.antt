-- Dialogues that are over, one after the other: what is told of those that follow, and what is left.
use Rattle.std.proofs.Common.{◌≡◌, ℕ, ◌+◌, ◌<◌, ◌≤◌, Bool, true, false, cond, not, ◌||◌, nat_eq, List, [], ◌∷◌, ◌++◌, drop, get_or, length, map, Some, refl, ap, sym, subst, ◌∙◌, arith, tests}
use Rattle.std.proofs.lemmas.Bool.{or_parts}
use Rattle.std.proofs.lemmas.List.{drop_more}
use Rattle.std.proofs.lemmas.List.Concat.{flat_map-cons}
use Rattle.std.specs.List.{flat_map}
use Rattle.std.specs.Map.{lookup, remove_entry}
use Rattle.tcap_dialogue.specs.RequestForm.{takes_memory}
use Rattle.tcap_engine.proofs.TableLemmas.{from-lower, from-removed}
use Rattle.tcap_engine.specs.IdleDialogues.{AreDistinct, ends_in, idle_ids, is_among, idle_end_in, idle_end, entry_at, idle_indications, without_all}
use Rattle.tcap_engine.specs.DialogueEntries.{TableEntry, AreFrom, AreDrawn, AreWithin, IsSound, dialogues_of}
use Rattle.tcap_engine.specs.declared.limits.Limits.{Limits}
use Rattle.tcap_model.specs.Table.Dialogue.{Dialogue}
use Rattle.tcap_model.specs.Table.DueLapses.{all_idle_told, at_moment, idle_at_moment, table_idle_told}
use Rattle.tcap_model.specs.Words.Answer.{Answer}
use Rattle.tcap_model.specs.Words.Output.{Output}

-- Another dialogue is found as before where one was taken out.
lookup-other : (d e : ℕ) (ps : List TableEntry) → nat_eq d e ≡ false → lookup (nat_eq e) (remove_entry (nat_eq d) ps) ≡ lookup (nat_eq e) ps
lookup-other d e [] other = refl
lookup-other d e (p ∷ ps) other = go (nat_eq d p.0) refl (lookup-other d e ps other)
  where
    go : (b : Bool) → nat_eq d p.0 ≡ b → lookup (nat_eq e) (remove_entry (nat_eq d) ps) ≡ lookup (nat_eq e) ps
        → lookup (nat_eq e) (cond b ps (p ∷ remove_entry (nat_eq d) ps)) ≡ cond (nat_eq e p.0) (Some p.1) (lookup (nat_eq e) ps)
    go true q ih =
        let apart : nat_eq e p.0 ≡ false = grind (arith, tests, q, other) in
        ap (λ b. cond b (Some p.1) (lookup (nat_eq e) ps)) (sym apart)
    go false q ih = ap (cond (nat_eq e p.0) (Some p.1)) ih

-- What is told of the others stays the same.
pub over-rest : (d : ℕ) (ids : List ℕ) (ps : List TableEntry) → is_among ids d ≡ false → flat_map (idle_end_in (remove_entry (nat_eq d) ps)) ids ≡ flat_map (idle_end_in ps) ids
over-rest d [] ps none = refl
over-rest d (e ∷ ids) ps none =
    let parts = or_parts (nat_eq d e) (is_among ids d) none in
    flat_map-cons (idle_end_in (remove_entry (nat_eq d) ps)) e ids
    ∙ ap (λ o. idle_end o ++ flat_map (idle_end_in (remove_entry (nat_eq d) ps)) ids) (lookup-other d e ps parts.0)
    ∙ ap (λ os. idle_end_in ps e ++ os) (over-rest d ids ps parts.1)
    ∙ sym (flat_map-cons (idle_end_in ps) e ids)

-- One that doesn't stand needn't be left out.
without-absent : (d low : ℕ) (ids : List ℕ) (ps : List TableEntry) → d < low → AreFrom low ps → without_all (d ∷ ids) ps ≡ without_all ids ps
without-absent d low ids [] lt from = refl
without-absent d low ids (p ∷ ps) lt from =
    let up = from.0 in
    let other : nat_eq p.0 d ≡ false = grind (arith, tests, lt, up) in
    ap (λ b. cond (not (b || is_among ids p.0)) (p ∷ without_all (d ∷ ids) ps) (without_all (d ∷ ids) ps)) other
    ∙ ap (λ (l : List TableEntry). cond (not (is_among ids p.0)) (p ∷ l) l) (without-absent d (p.0 + 1) ids ps (omega (arith, lt, up)) from.2)

-- One is taken out, and then the rest are.
pub without-step : (d low : ℕ) (ids : List ℕ) (ps : List TableEntry) → AreFrom low ps → without_all ids (remove_entry (nat_eq d) ps) ≡ without_all (d ∷ ids) ps
without-step d low ids [] from = refl
without-step d low ids (p ∷ ps) from = go (nat_eq d p.0) refl (without-step d (p.0 + 1) ids ps from.2)
  where
    go : (b : Bool) → nat_eq d p.0 ≡ b → without_all ids (remove_entry (nat_eq d) ps) ≡ without_all (d ∷ ids) ps
        → without_all ids (cond b ps (p ∷ remove_entry (nat_eq d) ps)) ≡ cond (not (nat_eq p.0 d || is_among ids p.0)) (p ∷ without_all (d ∷ ids) ps) (without_all (d ∷ ids) ps)
    go true q ih =
        let same : nat_eq p.0 d ≡ true = grind (arith, tests, q) in
        let below : d < p.0 + 1 = grind (arith, tests, q) in
        sym (without-absent d (p.0 + 1) ids ps below from.2)
        ∙ ap (λ b. cond (not (b || is_among ids p.0)) (p ∷ without_all (d ∷ ids) ps) (without_all (d ∷ ids) ps)) (sym same)
    go false q ih =
        let other : nat_eq p.0 d ≡ false = grind (arith, tests, q) in
        ap (λ (l : List TableEntry). cond (not (is_among ids p.0)) (p ∷ l) l) ih
        ∙ ap (λ b. cond (not (b || is_among ids p.0)) (p ∷ without_all (d ∷ ids) ps) (without_all (d ∷ ids) ps)) (sym other)

-- What one step does.
pub record OverStep (ids rest : List ℕ) (d : ℕ) (ps : List TableEntry) : Type 0 where
  pub told : flat_map (idle_end_in ps) ids ≡ idle_end_in ps d ++ flat_map (idle_end_in (remove_entry (nat_eq d) ps)) rest
  pub left : without_all rest (remove_entry (nat_eq d) ps) ≡ without_all ids ps
  pub from : AreFrom 0 (remove_entry (nat_eq d) ps)
  pub apart : AreDistinct rest

over-first : (d : ℕ) (rest : List ℕ) (ps : List TableEntry) → AreFrom 0 ps → AreDistinct (d ∷ rest) → OverStep (d ∷ rest) rest d ps
over-first d rest ps from apart = record {
  told = flat_map-cons (idle_end_in ps) d rest ∙ ap (λ os. idle_end_in ps d ++ os) (sym (over-rest d rest ps apart.0));
  left = without-step d 0 rest ps from;
  from = from-removed d 0 ps from;
  apart = apart.1;
}

pub over-step : (i : ℕ) (ids : List ℕ) (ps : List TableEntry) → i < length ids → AreFrom 0 ps → AreDistinct (drop i ids) → OverStep (drop i ids) (drop (i + 1) ids) (get_or ids i 0) ps
over-step i ids ps below from apart =
    let first = drop_more ids i 0 below in
    subst (λ (l : List ℕ). OverStep l (drop (i + 1) ids) (get_or ids i 0) ps) (sym first)
    (over-first (get_or ids i 0) (drop (i + 1) ids) ps from (subst AreDistinct first apart))

pub none-without : (ps : List TableEntry) → without_all [] ps ≡ ps
none-without [] = refl
none-without (p ∷ ps) = ap (λ (l : List TableEntry). p ∷ l) (none-without ps)

-- ---- after a quiet moment

-- What is told of a dialogue is what is told when the moment has done its work.
pub over-ends : (now : ℕ) (ps : List TableEntry) → map (entry_at now) ps ≡ ps → (d : ℕ) → idle_end_in ps d ≡ ends_in now ps d
over-ends now [] same d = refl
over-ends now (p ∷ ps) same d = go (nat_eq d p.0) (over-ends now ps tail d)
  where
    tail : map (entry_at now) ps ≡ ps
    tail = cc

    head : at_moment now p.1 ≡ p.1
    head = cc

    go : (b : Bool) → idle_end_in ps d ≡ ends_in now ps d → idle_end (cond b (Some p.1) (lookup (nat_eq d) ps)) ≡ idle_indications now (cond b (Some p.1) (lookup (nat_eq d) ps))
    go true ih = ap (λ (w : Dialogue). idle_end (Some w)) (sym head)
    go false ih = ih

pub over-all : (now : ℕ) (ids : List ℕ) (ps qs : List TableEntry) → map (entry_at now) ps ≡ ps → ((d : ℕ) → ends_in now ps d ≡ ends_in now qs d) → flat_map (idle_end_in ps) ids ≡ flat_map (ends_in now qs) ids
over-all now [] ps qs same ends = refl
over-all now (d ∷ ids) ps qs same ends =
    flat_map-cons (idle_end_in ps) d ids
    ∙ ap (λ os. os ++ flat_map (idle_end_in ps) ids) (over-ends now ps same d ∙ ends d)
    ∙ ap (λ os. ends_in now qs d ++ os) (over-all now ids ps qs same ends)
    ∙ sym (flat_map-cons (ends_in now qs) d ids)

-- Something is told of each.
pub ends-some : (now : ℕ) (ps : List TableEntry) → 0 < length (idle_ids now ps) → 0 < length (all_idle_told now (dialogues_of ps))
ends-some now ps some = go (idle_at_moment now (dialogues_of ps)) some
  where
    go : (xs : List Dialogue) → 0 < length (map (λ (d : Dialogue). d.standing.identifier) xs) → 0 < length (flat_map (table_idle_told now) xs)
    go [] some = absurd (omega (arith, some))
    go (x ∷ xs) some = let all = ap (λ (l : List Output). length l) (flat_map-cons (table_idle_told now) x xs) in omega (arith, all)

pub takes-some : (os : List Output) → (os ≡ [] → ⊥) → takes_memory (Answer.outputs os) ≡ true
takes-some [] h = absurd (h refl)
takes-some (o ∷ os) h = refl

-- ---- what an engine keeps

from-without : (ids : List ℕ) (low : ℕ) (ps : List TableEntry) → AreFrom low ps → AreFrom low (without_all ids ps)
from-without ids low [] h = tt
from-without ids low (p ∷ ps) h = go (not (is_among ids p.0)) (from-without ids (p.0 + 1) ps h.2)
  where
    go : (b : Bool) → AreFrom (p.0 + 1) (without_all ids ps) → AreFrom low (cond b (p ∷ without_all ids ps) (without_all ids ps))
    go true ih = (h.0, h.1, ih)
    go false ih = let up = h.0 in from-lower low (p.0 + 1) (without_all ids ps) (omega (arith, up)) ih

drawn-without : (ids : List ℕ) (next : ℕ) (ps : List TableEntry) → AreDrawn next ps → AreDrawn next (without_all ids ps)
drawn-without ids next [] h = tt
drawn-without ids next (p ∷ ps) h = go (not (is_among ids p.0)) (drawn-without ids next ps h.1)
  where
    go : (b : Bool) → AreDrawn next (without_all ids ps) → AreDrawn next (cond b (p ∷ without_all ids ps) (without_all ids ps))
    go true ih = (h.0, ih)
    go false ih = ih

within-without : (ids : List ℕ) (reject_ms next : ℕ) (ps : List TableEntry) → AreWithin reject_ms next ps → AreWithin reject_ms next (without_all ids ps)
within-without ids reject_ms next [] h = tt
within-without ids reject_ms next (p ∷ ps) h = go (not (is_among ids p.0)) (within-without ids reject_ms next ps h.1)
  where
    go : (b : Bool) → AreWithin reject_ms next (without_all ids ps) → AreWithin reject_ms next (cond b (p ∷ without_all ids ps) (without_all ids ps))
    go true ih = (h.0, ih)
    go false ih = ih

fewer-without : (ids : List ℕ) (ps : List TableEntry) → length (without_all ids ps) ≤ length ps
fewer-without ids [] = omega arith
fewer-without ids (p ∷ ps) = go (not (is_among ids p.0)) (fewer-without ids ps)
  where
    go : (b : Bool) → length (without_all ids ps) ≤ length ps → length (cond b (p ∷ without_all ids ps) (without_all ids ps)) ≤ length (p ∷ ps)
    go true le = omega (arith, le)
    go false le = omega (arith, le)

pub sound-without : (ids : List ℕ) (limits : Limits) (next_dialogue next_number clock : ℕ) (ps : List TableEntry) → IsSound limits next_dialogue next_number clock ps → IsSound limits next_dialogue next_number clock (without_all ids ps)
sound-without ids limits next_dialogue next_number clock ps h = record {
  limited = h.limited;
  time = h.time;
  from = from-without ids 0 ps h.from;
  drawn = drawn-without ids next_dialogue ps h.drawn;
  within = within-without ids limits.reject_ms next_number ps h.within;
  room = let fewer = fewer-without ids ps in let room = h.room in omega (arith, fewer, room);
}
