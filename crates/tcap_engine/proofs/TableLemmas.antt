-- What is written into the table, taken out of it and found in it.
use Rattle.std.proofs.Common.{◌≡◌, ℕ, ◌+◌, ◌<◌, ◌≤◌, Bool, true, false, cond, nat_eq, List, [], ◌∷◌, Option, Some, None, refl, sym, ap, ◌∙◌, arith}
use Rattle.std.proofs.lemmas.Bool.{eqb-true}
use Rattle.std.specs.List.{cons_option}
use Rattle.std.specs.Map.{lookup, set_value, remove_entry}
use Rattle.tcap_model.specs.Table.Dialogue.{Dialogue}
use Rattle.tcap_model.specs.Table.EngineMove.{dialogue_in, with_dialogue}
use Rattle.tcap_engine.specs.DialogueEntries.{TableEntry, AreFrom, dialogues_of}

pub apart : (d n : ℕ) → d < n → nat_eq d n ≡ false
apart d n lt = go (nat_eq d n) refl
  where
    go : (b : Bool) → nat_eq d n ≡ b → nat_eq d n ≡ false
    go true e = let same = eqb-true d n e in absurd (omega (arith, same))
    go false e = e

-- The dialogue under an identifier is the one that has it.
pub found-in : (d low : ℕ) (ps : List TableEntry) → AreFrom low ps → dialogue_in d (dialogues_of ps) ≡ lookup (nat_eq d) ps
found-in d low [] h = refl
found-in d low (p ∷ ps) h = ap (λ n. cond (nat_eq d n) (Some p.1) (dialogue_in d (dialogues_of ps))) h.1 ∙ ap (λ o. cond (nat_eq d p.0) (Some p.1) o) (found-in d (p.0 + 1) ps h.2)

-- None of the identifiers above another is that.
beyond : (d low : ℕ) (o : Option Dialogue) (ps : List TableEntry) → d < low → AreFrom low ps → with_dialogue d o (dialogues_of ps) ≡ dialogues_of ps
beyond d low o [] lt h = refl
beyond d low o (p ∷ ps) lt h =
    let other : nat_eq d p.1.standing.identifier ≡ false = ap (nat_eq d) h.1 ∙ apart d p.0 (omega (arith, lt, h.0)) in
    ap (λ b. cons_option (cond b o (Some p.1)) (with_dialogue d o (dialogues_of ps))) other ∙ ap (λ ds. p.1 ∷ ds) (beyond d (p.0 + 1) o ps (omega (arith, lt, h.0)) h.2)

-- What is written in the place of a dialogue.
pub set-in : (d low : ℕ) (w : Dialogue) (ps : List TableEntry) → AreFrom low ps → dialogues_of (set_value (nat_eq d) ps w) ≡ with_dialogue d (Some w) (dialogues_of ps)
set-in d low w [] h = refl
set-in d low w (p ∷ ps) h = go (nat_eq d p.0) refl (set-in d (p.0 + 1) w ps h.2)
  where
    go : (b : Bool) → nat_eq d p.0 ≡ b → dialogues_of (set_value (nat_eq d) ps w) ≡ with_dialogue d (Some w) (dialogues_of ps)
        → dialogues_of (cond (nat_eq d p.0) ((p.0, w) ∷ ps) (p ∷ set_value (nat_eq d) ps w)) ≡ cons_option (cond (nat_eq d p.1.standing.identifier) (Some w) (Some p.1)) (with_dialogue d (Some w) (dialogues_of ps))
    go true e ih =
        let at = eqb-true d p.0 e in
        let own : nat_eq d p.1.standing.identifier ≡ true = ap (nat_eq d) h.1 ∙ e in
        rw (e, own) (ap (λ ds. w ∷ ds) (sym (beyond d (p.0 + 1) (Some w) ps (omega (arith, at)) h.2)))
    go false e ih =
        let own : nat_eq d p.1.standing.identifier ≡ false = ap (nat_eq d) h.1 ∙ e in
        rw (e, own) (ap (λ ds. p.1 ∷ ds) ih)

-- A dialogue that is taken out.
pub removed-in : (d low : ℕ) (ps : List TableEntry) → AreFrom low ps → dialogues_of (remove_entry (nat_eq d) ps) ≡ with_dialogue d None (dialogues_of ps)
removed-in d low [] h = refl
removed-in d low (p ∷ ps) h = go (nat_eq d p.0) refl (removed-in d (p.0 + 1) ps h.2)
  where
    go : (b : Bool) → nat_eq d p.0 ≡ b → dialogues_of (remove_entry (nat_eq d) ps) ≡ with_dialogue d None (dialogues_of ps)
        → dialogues_of (cond (nat_eq d p.0) ps (p ∷ remove_entry (nat_eq d) ps)) ≡ cons_option (cond (nat_eq d p.1.standing.identifier) None (Some p.1)) (with_dialogue d None (dialogues_of ps))
    go true e ih =
        let at = eqb-true d p.0 e in
        let own : nat_eq d p.1.standing.identifier ≡ true = ap (nat_eq d) h.1 ∙ e in
        rw (e, own) (sym (beyond d (p.0 + 1) None ps (omega (arith, at)) h.2))
    go false e ih =
        let own : nat_eq d p.1.standing.identifier ≡ false = ap (nat_eq d) h.1 ∙ e in
        rw (e, own) (ap (λ ds. p.1 ∷ ds) ih)

-- The identifiers rise after a write.
pub from-set : (d low : ℕ) (w : Dialogue) (ps : List TableEntry) → w.standing.identifier ≡ d → AreFrom low ps → AreFrom low (set_value (nat_eq d) ps w)
from-set d low w [] is h = h
from-set d low w (p ∷ ps) is h = go (nat_eq d p.0) refl (from-set d (p.0 + 1) w ps is h.2)
  where
    go : (b : Bool) → nat_eq d p.0 ≡ b → AreFrom (p.0 + 1) (set_value (nat_eq d) ps w) → AreFrom low (cond (nat_eq d p.0) ((p.0, w) ∷ ps) (p ∷ set_value (nat_eq d) ps w))
    go true e ih = rw e (h.0, is ∙ eqb-true d p.0 e, h.2)
    go false e ih = rw e (h.0, h.1, ih)

-- The identifiers from a later one on are those from an earlier one on.
pub from-lower : (low high : ℕ) (ps : List TableEntry) → low ≤ high → AreFrom high ps → AreFrom low ps
from-lower low high [] le h = h
from-lower low high (p ∷ ps) le h = (omega (arith, le, h.0), h.1, h.2)

-- The identifiers rise after one was taken out.
pub from-removed : (d low : ℕ) (ps : List TableEntry) → AreFrom low ps → AreFrom low (remove_entry (nat_eq d) ps)
from-removed d low [] h = h
from-removed d low (p ∷ ps) h = go (nat_eq d p.0) refl (from-removed d (p.0 + 1) ps h.2)
  where
    go : (b : Bool) → nat_eq d p.0 ≡ b → AreFrom (p.0 + 1) (remove_entry (nat_eq d) ps) → AreFrom low (cond (nat_eq d p.0) ps (p ∷ remove_entry (nat_eq d) ps))
    go true e ih = rw e (from-lower low (p.0 + 1) ps (omega (arith, h.0)) h.2)
    go false e ih = rw e (h.0, h.1, ih)

-- What is taken out may have been written before.
pub removed-set : (d : ℕ) (w : Dialogue) (ps : List TableEntry) → remove_entry (nat_eq d) (set_value (nat_eq d) ps w) ≡ remove_entry (nat_eq d) ps
removed-set d w [] = refl
removed-set d w (p ∷ ps) = go (nat_eq d p.0) refl (removed-set d w ps)
  where
    go : (b : Bool) → nat_eq d p.0 ≡ b → remove_entry (nat_eq d) (set_value (nat_eq d) ps w) ≡ remove_entry (nat_eq d) ps
        → remove_entry (nat_eq d) (cond (nat_eq d p.0) ((p.0, w) ∷ ps) (p ∷ set_value (nat_eq d) ps w)) ≡ cond (nat_eq d p.0) ps (p ∷ remove_entry (nat_eq d) ps)
    go true e ih = rw e (rw e refl)
    go false e ih = rw e (rw e (ap (λ (l : List TableEntry). p ∷ l) ih))

-- The dialogue that is found has the identifier.
pub found-own : (d low : ℕ) (w : Dialogue) (ps : List TableEntry) → AreFrom low ps → lookup (nat_eq d) ps ≡ Some w → w.standing.identifier ≡ d
found-own d low w [] h is = absurd (cc)
found-own d low w (p ∷ ps) h is = go (nat_eq d p.0) refl is (λ q. found-own d (p.0 + 1) w ps h.2 q)
  where
    go : (b : Bool) → nat_eq d p.0 ≡ b → cond (nat_eq d p.0) (Some p.1) (lookup (nat_eq d) ps) ≡ Some w → (lookup (nat_eq d) ps ≡ Some w → w.standing.identifier ≡ d) → w.standing.identifier ≡ d
    go true e q ih =
        let same : Some p.1 ≡ Some w = rw e at q in
        let own : p.1 ≡ w = cc in
        ap (λ (x : Dialogue). x.standing.identifier) (sym own) ∙ h.1 ∙ sym (eqb-true d p.0 e)
    go false e q ih = ih (rw e at q)
