-- What is told of the dialogues that have been idle too long, and what is left without them.
use Rattle.std.proofs.Common.{◌≡◌, ℕ, ◌+◌, ◌<◌, ◌≤◌, Bool, true, false, cond, not, ◌||◌, nat_eq, List, [], ◌∷◌, ◌++◌, filter, filter_map, Some, None, refl, ap, sym, ◌∙◌, arith, tests}
use Rattle.std.proofs.lemmas.Bool.{eqb-true}
use Rattle.std.proofs.lemmas.List.Concat.{flat_map-cons}
use Rattle.std.specs.List.{AllByRecursion, flat_map, cons_option}
use Rattle.std.specs.Map.{lookup, set_value}
use Rattle.tcap_engine.specs.IdleDialogues.{ends_in, idle_ids, is_among, left_by, entry_at, idle_indications}
use Rattle.tcap_engine.specs.DialogueEntries.{TableEntry, AreFrom, dialogues_of}
use Rattle.tcap_engine.proofs.IdleLemmas.{among-below, among-in_order, idle_in, ids_of, is_older, stood}
use Rattle.tcap_invocation.proofs.CallerLemmas.{all_in_order}
use Rattle.tcap_model.specs.Table.Dialogue.{Dialogue, is_idle_at}
use Rattle.tcap_model.specs.Table.DueLapses.{all_idle_told, at_moment, table_idle_told, left_at}
use Rattle.tcap_model.specs.Words.Output.{Output}

-- ---- after a write

-- What is told of each dialogue stays the same where it does of the one that is written.
pub ends-set : (now d : ℕ) (old new : Dialogue) (ps : List TableEntry) → lookup (nat_eq d) ps ≡ Some old → table_idle_told now new ≡ table_idle_told now old → (id : ℕ) → ends_in now (set_value (nat_eq d) ps new) id ≡ ends_in now ps id
ends-set now d old new [] found same id = refl
ends-set now d old new (p ∷ ps) found same id = go (nat_eq d p.0) found (λ f. ends-set now d old new ps f same id)
  where
    others : List TableEntry
    others = set_value (nat_eq d) ps new

    here : (b : Bool) → table_idle_told now new ≡ table_idle_told now p.1 → idle_indications now (cond b (Some new) (lookup (nat_eq id) ps)) ≡ idle_indications now (cond b (Some p.1) (lookup (nat_eq id) ps))
    here true e = e
    here false e = refl

    there : (b : Bool) → idle_indications now (lookup (nat_eq id) others) ≡ idle_indications now (lookup (nat_eq id) ps) → idle_indications now (cond b (Some p.1) (lookup (nat_eq id) others)) ≡ idle_indications now (cond b (Some p.1) (lookup (nat_eq id) ps))
    there true e = refl
    there false e = e

    go : (b : Bool) → cond b (Some p.1) (lookup (nat_eq d) ps) ≡ Some old → (lookup (nat_eq d) ps ≡ Some old → ends_in now others id ≡ ends_in now ps id)
        → ends_in now (cond b ((p.0, new) ∷ ps) (p ∷ others)) id ≡ ends_in now (p ∷ ps) id
    go true f ih = let is : p.1 ≡ old = cc in here (nat_eq id p.0) (same ∙ ap (table_idle_told now) (sym is))
    go false f ih = there (nat_eq id p.0) (ih f)

-- What is left stays the same where the dialogue that is written isn't left, or is left as before.
pub left-set : (now d : ℕ) (old new : Dialogue) (ids : List ℕ) (ps : List TableEntry) → AreFrom 0 ps → lookup (nat_eq d) ps ≡ Some old → (is_among ids d ≡ false → at_moment now new ≡ at_moment now old)
    → left_by now ids (set_value (nat_eq d) ps new) ≡ left_by now ids ps
left-set now d old new ids ps from found same = any ps found
  where
    kept : Bool → TableEntry → List TableEntry → List TableEntry
    kept b p ps = cond (not b) (p ∷ ps) ps

    any : (ps : List TableEntry) → lookup (nat_eq d) ps ≡ Some old → left_by now ids (set_value (nat_eq d) ps new) ≡ left_by now ids ps
    any [] found = refl
    any (p ∷ ps) found = go (nat_eq d p.0) refl found (any ps)
      where
        here : (b : Bool) → is_among ids p.0 ≡ b → (b ≡ false → at_moment now new ≡ at_moment now p.1) → kept b (p.0, at_moment now new) (left_by now ids ps) ≡ kept b (p.0, at_moment now p.1) (left_by now ids ps)
        here true e h = refl
        here false e h = ap (λ (w : Dialogue). (p.0, w) ∷ left_by now ids ps) (h refl)

        go : (b : Bool) → nat_eq d p.0 ≡ b → cond b (Some p.1) (lookup (nat_eq d) ps) ≡ Some old → (lookup (nat_eq d) ps ≡ Some old → left_by now ids (set_value (nat_eq d) ps new) ≡ left_by now ids ps)
            → left_by now ids (cond b ((p.0, new) ∷ ps) (p ∷ set_value (nat_eq d) ps new)) ≡ left_by now ids (p ∷ ps)
        go true e f ih =
            let is : p.1 ≡ old = cc in
            here (is_among ids p.0) refl (λ out. same (ap (is_among ids) (eqb-true d p.0 e) ∙ out) ∙ ap (at_moment now) (sym is))
        go false e f ih = ap (kept (is_among ids p.0) (entry_at now p)) (ih f)

-- ---- all that is told

-- A dialogue has an identifier from some moment on, and stands under it.
abbrev StandsIn : ℕ → List TableEntry → Dialogue → Type 0
StandsIn low ps d = (low ≤ d.standing.identifier) × (lookup (nat_eq d.standing.identifier) ps ≡ Some d)

all-past : (low : ℕ) (p : TableEntry) (qs : List TableEntry) (ds : List Dialogue) → low ≤ p.0 → AllByRecursion (StandsIn (p.0 + 1) qs) ds → AllByRecursion (StandsIn low (p ∷ qs)) ds
all-past low p qs [] le h = tt
all-past low p qs (d ∷ ds) le h =
    let above = h.0.0 in
    let other : nat_eq d.standing.identifier p.0 ≡ false = grind (arith, tests, above) in
    ((omega (arith, le, above), ap (λ b. cond b (Some p.1) (lookup (nat_eq d.standing.identifier) qs)) other ∙ h.0.1), all-past low p qs ds le h.1)

all-stand : (low : ℕ) (ps : List TableEntry) → AreFrom low ps → AllByRecursion (StandsIn low ps) (dialogues_of ps)
all-stand low [] from = tt
all-stand low (p ∷ ps) from =
    let same : nat_eq p.1.standing.identifier p.0 ≡ true = let own = from.1 in grind (arith, tests, own) in
    let le : low ≤ p.1.standing.identifier = let own = from.1 in let up = from.0 in omega (arith, own, up) in
    ((le, ap (λ b. cond b (Some p.1) (lookup (nat_eq p.1.standing.identifier) ps)) same), all-past low p ps (dialogues_of ps) from.0 (all-stand (p.0 + 1) ps from.2))

module _ (P : Dialogue → Type 0) where
  all-some : (test : Dialogue → Bool) (ds : List Dialogue) → AllByRecursion P ds → AllByRecursion P (filter test ds)
  all-some test [] h = tt
  all-some test (d ∷ ds) h = go (test d) (all-some test ds h.1)
    where
      go : (b : Bool) → AllByRecursion P (filter test ds) → AllByRecursion P (cond b (d ∷ filter test ds) (filter test ds))
      go true ih = (h.0, ih)
      go false ih = ih

ends-each : (now : ℕ) (ps : List TableEntry) (ds : List Dialogue) → AllByRecursion (StandsIn 0 ps) ds → flat_map (ends_in now ps) (ids_of ds) ≡ flat_map (table_idle_told now) ds
ends-each now ps [] h = refl
ends-each now ps (d ∷ ds) h =
    flat_map-cons (ends_in now ps) d.standing.identifier (ids_of ds)
    ∙ ap (λ (l : List Output). l ++ flat_map (ends_in now ps) (ids_of ds)) (ap (idle_indications now) h.0.1)
    ∙ ap (λ (l : List Output). table_idle_told now d ++ l) (ends-each now ps ds h.1)
    ∙ sym (flat_map-cons (table_idle_told now) d ds)

-- What is told of each is what is told of all.
pub ends-all : (now : ℕ) (ps : List TableEntry) → AreFrom 0 ps → flat_map (ends_in now ps) (idle_ids now ps) ≡ all_idle_told now (dialogues_of ps)
ends-all now ps from =
    ends-each now ps (stood now ps) (all_in_order is_older (StandsIn 0 ps) (idle_in now ps) (all-some (StandsIn 0 ps) (is_idle_at now) (dialogues_of ps) (all-stand 0 ps from)))

-- ---- all that is left

-- One of the identifiers is that of a dialogue if it has been idle too long.
abbrev IsTold : ℕ → List ℕ → TableEntry → Type 0
IsTold now ids p = is_among ids p.0 ≡ is_idle_at now p.1

told-past : (now low n : ℕ) (b : Bool) (ids : List ℕ) (d : Dialogue) (qs : List TableEntry) → d.standing.identifier ≡ n → n < low → AreFrom low qs → AllByRecursion (IsTold now ids) qs → AllByRecursion (IsTold now (cond b (d.standing.identifier ∷ ids) ids)) qs
told-past now low n b ids d [] own lt from h = tt
told-past now low n b ids d (q ∷ qs) own lt from h =
    (go b, told-past now (q.0 + 1) n b ids d qs own (let le = from.0 in omega (arith, lt, le)) from.2 h.1)
  where
    other : nat_eq q.0 d.standing.identifier ≡ false
    other = let le = from.0 in grind (arith, tests, lt, le, own)

    go : (c : Bool) → is_among (cond c (d.standing.identifier ∷ ids) ids) q.0 ≡ is_idle_at now q.1
    go true = ap (λ b. b || is_among ids q.0) other ∙ h.0
    go false = h.0

all-told : (now low : ℕ) (ps : List TableEntry) → AreFrom low ps → AllByRecursion (IsTold now (ids_of (idle_in now ps))) ps
all-told now low [] from = tt
all-told now low (p ∷ ps) from = go (is_idle_at now p.1) refl (all-told now (p.0 + 1) ps from.2)
  where
    rest : List Dialogue
    rest = idle_in now ps

    same : nat_eq p.0 p.1.standing.identifier ≡ true
    same = let own = from.1 in grind (arith, tests, own)

    past : (b : Bool) → AllByRecursion (IsTold now (ids_of rest)) ps → AllByRecursion (IsTold now (cond b (p.1.standing.identifier ∷ ids_of rest) (ids_of rest))) ps
    past b ih = told-past now (p.0 + 1) p.0 b (ids_of rest) p.1 ps from.1 (omega arith) from.2 ih

    go : (b : Bool) → is_idle_at now p.1 ≡ b → AllByRecursion (IsTold now (ids_of rest)) ps → AllByRecursion (IsTold now (ids_of (cond b (p.1 ∷ rest) rest))) (p ∷ ps)
    go true e ih = (ap (λ b. b || is_among (ids_of rest) p.0) same ∙ sym e, past true ih)
    go false e ih = (among-below now p.0 (p.0 + 1) ps (omega arith) from.2 ∙ sym e, past false ih)

left-each : (now : ℕ) (ids : List ℕ) (ps : List TableEntry) → AllByRecursion (λ p. is_among ids p.0 ≡ is_idle_at now p.1) ps → dialogues_of (left_by now ids ps) ≡ filter_map (left_at now) (dialogues_of ps)
left-each now ids [] h = refl
left-each now ids (p ∷ ps) h = ap one h.0 ∙ go (is_idle_at now p.1) (left-each now ids ps h.1)
  where
    one : Bool → List Dialogue
    one b = dialogues_of (cond (not b) (entry_at now p ∷ left_by now ids ps) (left_by now ids ps))

    go : (b : Bool) → dialogues_of (left_by now ids ps) ≡ filter_map (left_at now) (dialogues_of ps) → one b ≡ cons_option (cond b None (Some (at_moment now p.1))) (filter_map (left_at now) (dialogues_of ps))
    go true ih = ih
    go false ih = ap (λ (l : List Dialogue). at_moment now p.1 ∷ l) ih

-- The order of the identifiers doesn't matter.
told-order : (now : ℕ) (qs ps : List TableEntry) → AllByRecursion (IsTold now (ids_of (idle_in now qs))) ps → AllByRecursion (IsTold now (idle_ids now qs)) ps
told-order now qs [] h = tt
told-order now qs (p ∷ ps) h = (among-in_order p.0 (idle_in now qs) ∙ h.0, told-order now qs ps h.1)

-- Without those that are told, the moment leaves what it does.
pub left-all : (now : ℕ) (ps : List TableEntry) → AreFrom 0 ps → dialogues_of (left_by now (idle_ids now ps) ps) ≡ filter_map (left_at now) (dialogues_of ps)
left-all now ps from = left-each now (idle_ids now ps) ps (told-order now ps ps (all-told now 0 ps from))
