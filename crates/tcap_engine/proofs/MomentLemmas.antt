-- What a moment leaves of the table.
use Rattle.std.proofs.Common.{◌≡◌, ℕ, zero, suc, ◌+◌, ◌<◌, ◌≤◌, Bool, true, false, cond, nat_eq, List, [], ◌∷◌, map, Some, refl, ap, sym, ◌∙◌, arith}
use Rattle.std.proofs.lemmas.List.{length-map}
use Rattle.std.specs.Map.{lookup, set_value}
use Rattle.tcap_engine.specs.IdleDialogues.{entry_at}
use Rattle.tcap_engine.specs.DialogueEntries.{TableEntry, AreFrom, AreDrawn, AreWithin, IsSound, dialogues_of}
use Rattle.tcap_engine.specs.declared.limits.Limits.{Limits}
use Rattle.tcap_invocation.specs.Stage.{moment_limit}
use Rattle.tcap_invocation.proofs.CallerLemmas.{AllBelow-after_lapse}
use Rattle.tcap_model.specs.Table.Dialogue.{Dialogue}
use Rattle.tcap_model.specs.Table.DueLapses.{at_moment}

-- ---- what a moment leaves

-- A write that a moment doesn't tell.
pub entry_at-set_value : (now d : ℕ) (old new : Dialogue) (ps : List TableEntry) → lookup (nat_eq d) ps ≡ Some old → at_moment now new ≡ at_moment now old → map (entry_at now) (set_value (nat_eq d) ps new) ≡ map (entry_at now) ps
entry_at-set_value now d old new [] found same = refl
entry_at-set_value now d old new (p ∷ ps) found same = go (nat_eq d p.0) found (λ f. entry_at-set_value now d old new ps f same)
  where
    go : (b : Bool) → cond b (Some p.1) (lookup (nat_eq d) ps) ≡ Some old → (lookup (nat_eq d) ps ≡ Some old → map (entry_at now) (set_value (nat_eq d) ps new) ≡ map (entry_at now) ps)
        → map (entry_at now) (cond b ((p.0, new) ∷ ps) (p ∷ set_value (nat_eq d) ps new)) ≡ map (entry_at now) (p ∷ ps)
    go true f ih =
        let is : p.1 ≡ old = cc in
        ap (λ (e : Dialogue). (p.0, e) ∷ map (entry_at now) ps) (same ∙ ap (at_moment now) (sym is))
    go false f ih = ap (λ (l : List TableEntry). entry_at now p ∷ l) (ih f)

-- ---- what an engine keeps

from-at : (now low : ℕ) (ps : List TableEntry) → AreFrom low ps → AreFrom low (map (entry_at now) ps)
from-at now low [] h = tt
from-at now low (p ∷ ps) h = (h.0, h.1, from-at now (p.0 + 1) ps h.2)

drawn-at : (now next : ℕ) (ps : List TableEntry) → AreDrawn next ps → AreDrawn next (map (entry_at now) ps)
drawn-at now next [] h = tt
drawn-at now next (p ∷ ps) h = (h.0, drawn-at now next ps h.1)

within-at : (now reject_ms next : ℕ) (ps : List TableEntry) → AreWithin reject_ms next ps → AreWithin reject_ms next (map (entry_at now) ps)
within-at now reject_ms next [] h = tt
within-at now reject_ms next (p ∷ ps) h = ((h.0.0, AllBelow-after_lapse next p.1.invocations h.0.1 now), within-at now reject_ms next ps h.1)

pub sound-at : (now : ℕ) (limits : Limits) (next_dialogue next_number clock : ℕ) (ps : List TableEntry) → now ≤ moment_limit → IsSound limits next_dialogue next_number clock ps → IsSound limits next_dialogue next_number now (map (entry_at now) ps)
sound-at now limits next_dialogue next_number clock ps late h = record {
  limited = h.limited;
  time = late;
  from = from-at now 0 ps h.from;
  drawn = drawn-at now next_dialogue ps h.drawn;
  within = within-at now limits.reject_ms next_number ps h.within;
  room = let same = length-map ps (entry_at now) in let room = h.room in omega (arith, same, room);
}

pub dialogues-at : (now : ℕ) (ps : List TableEntry) → dialogues_of (map (entry_at now) ps) ≡ map (at_moment now) (dialogues_of ps)
dialogues-at now [] = refl
dialogues-at now (p ∷ ps) = ap (λ (ds : List Dialogue). at_moment now p.1 ∷ ds) (dialogues-at now ps)

-- ---- the move

pub not-zero : (n : ℕ) → (n ≡ 0 → ⊥) → 0 < n
not-zero zero h = absurd (h refl)
not-zero (suc n) h = omega arith
