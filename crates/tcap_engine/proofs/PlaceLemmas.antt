-- The table and the engine after the dialogue of an identifier moved.
use Rattle.std.proofs.Common.{◌≡◌, ℕ, ◌≤◌, Bool, true, false, cond, nat_eq, List, [], ◌∷◌, length, Option, Some, None, refl, subst, arith}
use Rattle.std.specs.Map.{lookup, set_value, remove_entry}
use Rattle.tcap_engine.specs.DialogueEntries.{TableEntry, AreFrom, AreDrawn, AreWithin, IsWithin, IsSound, dialogues_of, entries_with}
use Rattle.tcap_engine.specs.declared.limits.Limits.{Limits}
use Rattle.tcap_engine.proofs.KeptLemmas.{IsKept}
use Rattle.tcap_engine.proofs.TableLemmas.{set-in, removed-in, from-set, from-removed}
use Rattle.tcap_invocation.proofs.CallerLemmas.{AllBelow-more}
use Rattle.tcap_model.specs.Table.Dialogue.{Dialogue}
use Rattle.tcap_model.specs.Table.EngineMove.{with_dialogue}

-- The dialogues are those of the model.
pub dialogues-with : (d : ℕ) (o : Option Dialogue) (ps : List TableEntry) → AreFrom 0 ps → dialogues_of (entries_with d o ps) ≡ with_dialogue d o (dialogues_of ps)
dialogues-with d None ps h = removed-in d 0 ps h
dialogues-with d (Some new) ps h = set-in d 0 new ps h

-- ---- what an engine keeps

drawn-set : (d next : ℕ) (new : Dialogue) (ps : List TableEntry) → AreDrawn next ps → AreDrawn next (set_value (nat_eq d) ps new)
drawn-set d next new [] h = tt
drawn-set d next new (p ∷ ps) h = go (nat_eq d p.0) (drawn-set d next new ps h.1)
  where
    go : (b : Bool) → AreDrawn next (set_value (nat_eq d) ps new) → AreDrawn next (cond b ((p.0, new) ∷ ps) (p ∷ set_value (nat_eq d) ps new))
    go true ih = h
    go false ih = (h.0, ih)

drawn-removed : (d next : ℕ) (ps : List TableEntry) → AreDrawn next ps → AreDrawn next (remove_entry (nat_eq d) ps)
drawn-removed d next [] h = tt
drawn-removed d next (p ∷ ps) h = go (nat_eq d p.0) (drawn-removed d next ps h.1)
  where
    go : (b : Bool) → AreDrawn next (remove_entry (nat_eq d) ps) → AreDrawn next (cond b ps (p ∷ remove_entry (nat_eq d) ps))
    go true ih = h.1
    go false ih = (h.0, ih)

within-set : (d reject_ms next : ℕ) (new : Dialogue) (ps : List TableEntry) → IsWithin reject_ms next new → AreWithin reject_ms next ps → AreWithin reject_ms next (set_value (nat_eq d) ps new)
within-set d reject_ms next new [] n h = tt
within-set d reject_ms next new (p ∷ ps) n h = go (nat_eq d p.0) (within-set d reject_ms next new ps n h.1)
  where
    go : (b : Bool) → AreWithin reject_ms next (set_value (nat_eq d) ps new) → AreWithin reject_ms next (cond b ((p.0, new) ∷ ps) (p ∷ set_value (nat_eq d) ps new))
    go true ih = (n, h.1)
    go false ih = (h.0, ih)

within-removed : (d reject_ms next : ℕ) (ps : List TableEntry) → AreWithin reject_ms next ps → AreWithin reject_ms next (remove_entry (nat_eq d) ps)
within-removed d reject_ms next [] h = tt
within-removed d reject_ms next (p ∷ ps) h = go (nat_eq d p.0) (within-removed d reject_ms next ps h.1)
  where
    go : (b : Bool) → AreWithin reject_ms next (remove_entry (nat_eq d) ps) → AreWithin reject_ms next (cond b ps (p ∷ remove_entry (nat_eq d) ps))
    go true ih = h.1
    go false ih = (h.0, ih)

within-more : (reject_ms next more : ℕ) (ps : List TableEntry) → next ≤ more → AreWithin reject_ms next ps → AreWithin reject_ms more ps
within-more reject_ms next more [] le h = tt
within-more reject_ms next more (p ∷ ps) le h = ((h.0.0, AllBelow-more next more p.1.invocations.rows le h.0.1), within-more reject_ms next more ps le h.1)

length-set : (d : ℕ) (new : Dialogue) (ps : List TableEntry) → length (set_value (nat_eq d) ps new) ≡ length ps
length-set d new [] = refl
length-set d new (p ∷ ps) = go (nat_eq d p.0) (length-set d new ps)
  where
    go : (b : Bool) → length (set_value (nat_eq d) ps new) ≡ length ps → length (cond b ((p.0, new) ∷ ps) (p ∷ set_value (nat_eq d) ps new)) ≡ length (p ∷ ps)
    go true ih = refl
    go false ih = omega (arith, ih)

length-gone : (d : ℕ) (ps : List TableEntry) → length (remove_entry (nat_eq d) ps) ≤ length ps
length-gone d [] = omega arith
length-gone d (p ∷ ps) = go (nat_eq d p.0) (length-gone d ps)
  where
    go : (b : Bool) → length (remove_entry (nat_eq d) ps) ≤ length ps → length (cond b ps (p ∷ remove_entry (nat_eq d) ps)) ≤ length (p ∷ ps)
    go true ih = omega arith
    go false ih = omega (arith, ih)

-- A dialogue that is kept, or none.
abbrev pub AreKept : ℕ → ℕ → ℕ → Option Dialogue → Type 0
AreKept identifier reject_ms next None = Unit {0}
AreKept identifier reject_ms next (Some new) = IsKept identifier reject_ms next new

pub sound-with : (limits : Limits) (next_dialogue next more clock d : ℕ) (o : Option Dialogue) (ps : List TableEntry) → next ≤ more → AreKept d limits.reject_ms more o → IsSound limits next_dialogue next clock ps → IsSound limits next_dialogue more clock (entries_with d o ps)
sound-with limits next_dialogue next more clock d None ps le k h = record {
  limited = h.limited;
  time = h.time;
  from = from-removed d 0 ps h.from;
  drawn = drawn-removed d next_dialogue ps h.drawn;
  within = within-removed d limits.reject_ms more ps (within-more limits.reject_ms next more ps le h.within);
  room = let less = length-gone d ps in let room = h.room in omega (arith, less, room);
}
sound-with limits next_dialogue next more clock d (Some new) ps le k h = record {
  limited = h.limited;
  time = h.time;
  from = from-set d 0 new ps k.0 h.from;
  drawn = drawn-set d next_dialogue new ps h.drawn;
  within = within-set d limits.reject_ms more new ps k.1 (within-more limits.reject_ms next more ps le h.within);
  room = let same = length-set d new ps in let room = h.room in omega (arith, same, room);
}

-- The dialogue that is found is one that the engine keeps.
pub found-within : (d reject_ms next : ℕ) (old : Dialogue) (ps : List TableEntry) → lookup (nat_eq d) ps ≡ Some old → AreWithin reject_ms next ps → IsWithin reject_ms next old
found-within d reject_ms next old [] f h = absurd cc
found-within d reject_ms next old (p ∷ ps) f h = go (nat_eq d p.0) f (λ q. found-within d reject_ms next old ps q h.1)
  where
    go : (b : Bool) → cond b (Some p.1) (lookup (nat_eq d) ps) ≡ Some old → (lookup (nat_eq d) ps ≡ Some old → IsWithin reject_ms next old) → IsWithin reject_ms next old
    go true q ih = let same : p.1 ≡ old = cc in subst (IsWithin reject_ms next) same h.0
    go false q ih = ih q
