-- Dialogues that have been idle too long at a moment: which is told first, and that each is told once.
use Rattle.std.proofs.Common.{◌≡◌, ◌⊎◌, inl, inr, ℕ, ◌+◌, ◌<◌, ◌≤◌, Bool, true, false, cond, ◌&&◌, ◌||◌, nat_eq, nat_lt, nat_le, List, [], ◌∷◌, ◌++◌, map, filter, Some, None, refl, ap, sym, subst, ◌∙◌, arith, tests}
use Rattle.std.proofs.lemmas.Bool.{cases_Bool}
use Rattle.std.specs.List.{AllByRecursion}
use Rattle.std.specs.Prelude.{IfSome}
use Rattle.std.specs.Map.{lookup, set_value}
use Rattle.tcap_engine.specs.IdleDialogues.{AreDistinct, idle_ids, is_among}
use Rattle.tcap_engine.specs.DialogueEntries.{TableEntry, AreFrom, dialogues_of}
use Rattle.tcap_engine.proofs.OrderLemmas.{put-put}
use Rattle.tcap_engine.proofs.TableLemmas.{apart, found-own}
use Rattle.tcap_invocation.specs.Order.{put_by, in_order_by}
use Rattle.tcap_invocation.proofs.CallerLemmas.{all_in_order}
use Rattle.tcap_model.specs.Table.Dialogue.{Dialogue, idle_end, is_idle_at, touched_at, with_invocations}
use Rattle.tcap_model.specs.Table.DueLapses.{idle_at_moment, table_idle_key}
use Rattle.tcap_model.specs.Words.KeyOrder.{comes_before, key_before}
use Rattle.tcap_model.specs.Words.State.{is_live}
use Rattle.timed_table.specs.Row.{is_before}

-- ---- the order

abbrev pub is_older : Dialogue → Dialogue → Bool
is_older a b = key_before table_idle_key a b

older-once : (a b : Dialogue) → is_older a b ≡ true → is_older b a ≡ false
older-once a b h = grind (arith, tests, h)

older-behind : (a b c : Dialogue) → is_older b a ≡ false → is_older c b ≡ false → is_older c a ≡ false
older-behind a b c h k = grind (arith, tests, h, k)

older-through : (a b c : Dialogue) → is_older a b ≡ true → is_older b c ≡ true → is_older a c ≡ true
older-through a b c h k = grind (arith, tests, h, k)

-- Of two dialogues one comes before the other.
older-either : (a b : Dialogue) → nat_eq a.standing.identifier b.standing.identifier ≡ false → is_older b a ≡ false → is_older a b ≡ true
older-either a b other h = grind (arith, tests, other, h)

-- Two dialogues may be put in either way.
older-put : (a b : Dialogue) (zs : List Dialogue) → nat_eq a.standing.identifier b.standing.identifier ≡ false → put_by is_older b (put_by is_older a zs) ≡ put_by is_older a (put_by is_older b zs)
older-put a b zs other = go (is_older b a) refl
  where
    go : (c : Bool) → is_older b a ≡ c → put_by is_older b (put_by is_older a zs) ≡ put_by is_older a (put_by is_older b zs)
    go true e = put-put is_older older-once older-behind older-through a b zs e
    go false e = sym (put-put is_older older-once older-behind older-through b a zs (older-either a b other e))

-- It comes first where none comes before it.
put-front : (x : Dialogue) (zs : List Dialogue) → AllByRecursion (λ y. is_older y x ≡ false) (put_by is_older x zs) → put_by is_older x zs ≡ x ∷ zs
put-front x [] h = refl
put-front x (z ∷ zs) h = go (is_older z x) refl h
  where
    go : (b : Bool) → is_older z x ≡ b → AllByRecursion (λ y. is_older y x ≡ false) (cond b (z ∷ put_by is_older x zs) (x ∷ z ∷ zs)) → cond b (z ∷ put_by is_older x zs) (x ∷ z ∷ zs) ≡ x ∷ z ∷ zs
    go true e h = let not = h.0 in absurd cc
    go false e h = refl

-- ---- the dialogues in it

abbrev pub idle_in : ℕ → List TableEntry → List Dialogue
idle_in now ps = filter (is_idle_at now) (dialogues_of ps)

abbrev pub stood : ℕ → List TableEntry → List Dialogue
stood now ps = idle_at_moment now (dialogues_of ps)

stood-idle : (now : ℕ) (p : TableEntry) (ps : List TableEntry) → is_idle_at now p.1 ≡ true → stood now (p ∷ ps) ≡ put_by is_older p.1 (stood now ps)
stood-idle now p ps e = ap (λ b. in_order_by is_older (cond b (p.1 ∷ idle_in now ps) (idle_in now ps))) e

stood-still : (now : ℕ) (p : TableEntry) (ps : List TableEntry) → is_idle_at now p.1 ≡ false → stood now (p ∷ ps) ≡ stood now ps
stood-still now p ps e = ap (λ b. in_order_by is_older (cond b (p.1 ∷ idle_in now ps) (idle_in now ps))) e

-- Where an idle timer starts anew, the dialogue is put among the others.
idle-put : (now low d : ℕ) (old new : Dialogue) (ps : List TableEntry) → AreFrom low ps → lookup (nat_eq d) ps ≡ Some old → old.standing.identifier ≡ d → is_idle_at now old ≡ true → is_idle_at now new ≡ false
    → stood now ps ≡ put_by is_older old (stood now (set_value (nat_eq d) ps new))
idle-put now low d old new [] from found own idle still = absurd cc
idle-put now low d old new (p ∷ ps) from found own idle still = go (nat_eq d p.0) refl found (λ f. idle-put now (p.0 + 1) d old new ps from.2 f own idle still)
  where
    others : List TableEntry
    others = set_value (nat_eq d) ps new

    past : nat_eq p.0 d ≡ false → (b : Bool) → is_idle_at now p.1 ≡ b → stood now ps ≡ put_by is_older old (stood now others) → stood now (p ∷ ps) ≡ put_by is_older old (stood now (p ∷ others))
    past other true e ih =
        let ids : nat_eq p.1.standing.identifier old.standing.identifier ≡ false = ap (λ i. nat_eq i old.standing.identifier) from.1 ∙ ap (nat_eq p.0) own ∙ other in
        stood-idle now p ps e ∙ ap (put_by is_older p.1) ih ∙ sym (older-put p.1 old (stood now others) ids) ∙ ap (put_by is_older old) (sym (stood-idle now p others e))
    past other false e ih = stood-still now p ps e ∙ ih ∙ ap (put_by is_older old) (sym (stood-still now p others e))

    go : (b : Bool) → nat_eq d p.0 ≡ b → cond b (Some p.1) (lookup (nat_eq d) ps) ≡ Some old → (lookup (nat_eq d) ps ≡ Some old → stood now ps ≡ put_by is_older old (stood now others))
        → stood now (p ∷ ps) ≡ put_by is_older old (stood now (cond b ((p.0, new) ∷ ps) (p ∷ others)))
    go true e f ih =
        let same : p.1 ≡ old = cc in
        stood-idle now p ps (ap (is_idle_at now) same ∙ idle) ∙ ap (λ (x : Dialogue). put_by is_older x (stood now ps)) same ∙ ap (put_by is_older old) (sym (stood-still now (p.0, new) ps still))
    go false e f ih = let other : nat_eq p.0 d ≡ false = grind (arith, tests, e) in past other (is_idle_at now p.1) refl (ih f)

-- ---- the first

-- Each dialogue has been idle too long behind this moment and identifier, or is the one of both.
abbrev pub AreIdleBehind : ℕ × ℕ → List TableEntry → Type 0
AreIdleBehind first [] = Unit {0}
AreIdleBehind first (p ∷ ps) = IfSome (idle_end p.1) (λ time. is_before (time, p.0) first ≡ false) × AreIdleBehind first ps

-- A moment has reached the end.
pub end-idle : (now t : ℕ) (w : Dialogue) → idle_end w ≡ Some t → t ≤ now → is_idle_at now w ≡ true
end-idle now t w ends le = go (is_live w.standing.state) (nat_lt 0 w.idle_ms) ends
  where
    go : (a b : Bool) → cond (a && b) (Some (w.touched + w.idle_ms)) None ≡ Some t → (a && (b && nat_le (w.touched + w.idle_ms) now)) ≡ true
    go true true e = let same : w.touched + w.idle_ms ≡ t = cc in grind (arith, tests, same, le)
    go true false e = absurd cc
    go false b e = absurd cc

end-is : (t : ℕ) (w : Dialogue) → idle_end w ≡ Some t → w.touched + w.idle_ms ≡ t
end-is t w ends = go (is_live w.standing.state && nat_lt 0 w.idle_ms) ends
  where
    go : (b : Bool) → cond b (Some (w.touched + w.idle_ms)) None ≡ Some t → w.touched + w.idle_ms ≡ t
    go true e = cc
    go false e = absurd cc

pub idle-ends : (now : ℕ) (w : Dialogue) → is_idle_at now w ≡ true → idle_end w ≡ Some (w.touched + w.idle_ms)
idle-ends now w idle = go (is_live w.standing.state) (nat_lt 0 w.idle_ms) idle
  where
    go : (a b : Bool) → (a && (b && nat_le (w.touched + w.idle_ms) now)) ≡ true → cond (a && b) (Some (w.touched + w.idle_ms)) None ≡ Some (w.touched + w.idle_ms)
    go true true e = refl
    go true false e = absurd cc
    go false b e = absurd cc

-- One whose idle timer starts anew then doesn't stay idle.
touched-still : (now : ℕ) (w : Dialogue) → is_idle_at now (touched_at w now) ≡ false
touched-still now w = go (is_live w.standing.state) (cases_Bool (nat_lt 0 w.idle_ms))
  where
    go : (a : Bool) → (nat_lt 0 w.idle_ms ≡ true) ⊎ (nat_lt 0 w.idle_ms ≡ false) → (a && (nat_lt 0 w.idle_ms && nat_le (now + w.idle_ms) now)) ≡ false
    go true (inl e) = grind (arith, tests, e)
    go true (inr e) = rw e refl
    go false c = refl

key-behind : (x w : Dialogue) → is_before (x.touched + x.idle_ms, x.standing.identifier) (w.touched + w.idle_ms, w.standing.identifier) ≡ false → is_older x w ≡ false
key-behind x w h = grind (arith, tests, h)

none-older : (now low t d : ℕ) (w : Dialogue) (ps : List TableEntry) → AreFrom low ps → w.touched + w.idle_ms ≡ t → w.standing.identifier ≡ d → AreIdleBehind (t, d) ps → AllByRecursion (λ y. is_older y w ≡ false) (idle_in now ps)
none-older now low t d w [] from at own behind = tt
none-older now low t d w (p ∷ ps) from at own behind = go (is_idle_at now p.1) refl (none-older now (p.0 + 1) t d w ps from.2 at own behind.1)
  where
    go : (b : Bool) → is_idle_at now p.1 ≡ b → AllByRecursion (λ y. is_older y w ≡ false) (idle_in now ps) → AllByRecursion (λ y. is_older y w ≡ false) (cond b (p.1 ∷ idle_in now ps) (idle_in now ps))
    go true e ih =
        let here : is_before (p.1.touched + p.1.idle_ms, p.0) (t, d) ≡ false = subst (λ o. IfSome o (λ time. is_before (time, p.0) (t, d) ≡ false)) (idle-ends now p.1 e) behind.0 in
        let named = ap (λ i. is_before (p.1.touched + p.1.idle_ms, i) (t, d)) from.1 ∙ here in
        let both = ap (λ s. is_before (p.1.touched + p.1.idle_ms, p.1.standing.identifier) (s, w.standing.identifier)) at ∙ ap (λ i. is_before (p.1.touched + p.1.idle_ms, p.1.standing.identifier) (t, i)) own ∙ named in
        (key-behind p.1 w both, ih)
    go false e ih = ih

-- The dialogue whose limit is reached first is told, and then the rest.
pub idle-first : (now t d : ℕ) (w : Dialogue) (ps : List TableEntry) → AreFrom 0 ps → lookup (nat_eq d) ps ≡ Some w → idle_end w ≡ Some t → t ≤ now → AreIdleBehind (t, d) ps
    → idle_ids now ps ≡ d ∷ idle_ids now (set_value (nat_eq d) ps (touched_at w now))
idle-first now t d w ps from found ends le behind =
    let own : w.standing.identifier ≡ d = found-own d 0 w ps from found in
    let put = idle-put now 0 d w (touched_at w now) ps from found own (end-idle now t w ends le) (touched-still now w) in
    let none : AllByRecursion (λ y. is_older y w ≡ false) (stood now ps) = all_in_order is_older (λ y. is_older y w ≡ false) (idle_in now ps) (none-older now 0 t d w ps from (end-is t w ends) own behind) in
    let front = put-front w (stood now (set_value (nat_eq d) ps (touched_at w now))) (subst (AllByRecursion (λ y. is_older y w ≡ false)) put none) in
    ap (map (λ x. x.standing.identifier)) (put ∙ front) ∙ ap (λ i. i ∷ idle_ids now (set_value (nat_eq d) ps (touched_at w now))) own

-- ---- a write that isn't told

-- The key of a dialogue, by its moment and its identifier.
abbrev key_of : Dialogue → ℕ × ℕ
key_of d = (d.touched + d.idle_ms, d.standing.identifier)

abbrev by_key : ℕ × ℕ → ℕ × ℕ → Bool
by_key a b = comes_before (a.0 ∷ a.1 ∷ []) (b.0 ∷ b.1 ∷ [])

keys-put : (x : Dialogue) (ys : List Dialogue) → map key_of (put_by is_older x ys) ≡ put_by by_key (key_of x) (map key_of ys)
keys-put x [] = refl
keys-put x (y ∷ ys) = go (is_older y x) refl (keys-put x ys)
  where
    go : (b : Bool) → is_older y x ≡ b → map key_of (put_by is_older x ys) ≡ put_by by_key (key_of x) (map key_of ys)
        → map key_of (cond b (y ∷ put_by is_older x ys) (x ∷ y ∷ ys)) ≡ put_by by_key (key_of x) (key_of y ∷ map key_of ys)
    go true e ih = rw e (ap (λ (l : List (ℕ × ℕ)). key_of y ∷ l) ih)
    go false e ih = rw e refl

keys-in_order : (xs : List Dialogue) → map key_of (in_order_by is_older xs) ≡ in_order_by by_key (map key_of xs)
keys-in_order [] = refl
keys-in_order (x ∷ xs) = keys-put x (in_order_by is_older xs) ∙ ap (put_by by_key (key_of x)) (keys-in_order xs)

ids-keys : (xs : List Dialogue) → map (λ d. d.standing.identifier) xs ≡ map (λ (k : ℕ × ℕ). k.1) (map key_of xs)
ids-keys [] = refl
ids-keys (x ∷ xs) = ap (λ (l : List ℕ). x.standing.identifier ∷ l) (ids-keys xs)

keys-same : (now d : ℕ) (old new : Dialogue) (ps : List TableEntry) → lookup (nat_eq d) ps ≡ Some old → new ≡ with_invocations old new.invocations → map key_of (idle_in now (set_value (nat_eq d) ps new)) ≡ map key_of (idle_in now ps)
keys-same now d old new [] found is = refl
keys-same now d old new (p ∷ ps) found is = go (nat_eq d p.0) found (λ f. keys-same now d old new ps f is)
  where
    one : Bool → ℕ × ℕ → List (ℕ × ℕ) → List (ℕ × ℕ)
    one b k ks = cond b (k ∷ ks) ks

    split : (w : Dialogue) (xs : List Dialogue) → map key_of (filter (is_idle_at now) (w ∷ xs)) ≡ one (is_idle_at now w) (key_of w) (map key_of (filter (is_idle_at now) xs))
    split w xs = cut (is_idle_at now w)
      where
        cut : (b : Bool) → map key_of (cond b (w ∷ filter (is_idle_at now) xs) (filter (is_idle_at now) xs)) ≡ one b (key_of w) (map key_of (filter (is_idle_at now) xs))
        cut true = refl
        cut false = refl

    go : (b : Bool) → cond b (Some p.1) (lookup (nat_eq d) ps) ≡ Some old → (lookup (nat_eq d) ps ≡ Some old → map key_of (idle_in now (set_value (nat_eq d) ps new)) ≡ map key_of (idle_in now ps))
        → map key_of (idle_in now (cond b ((p.0, new) ∷ ps) (p ∷ set_value (nat_eq d) ps new))) ≡ map key_of (idle_in now (p ∷ ps))
    go true f ih =
        let same : p.1 ≡ old = cc in
        split new (dialogues_of ps)
        ∙ ap (λ (w : Dialogue). one (is_idle_at now w) (key_of w) (map key_of (idle_in now ps))) is
        ∙ ap (λ (w : Dialogue). one (is_idle_at now w) (key_of w) (map key_of (idle_in now ps))) (sym same)
        ∙ sym (split p.1 (dialogues_of ps))
    go false f ih = split p.1 (dialogues_of (set_value (nat_eq d) ps new)) ∙ ap (one (is_idle_at now p.1) (key_of p.1)) (ih f) ∙ sym (split p.1 (dialogues_of ps))

-- Other invocations in a dialogue leave them as they are.
pub idle-same : (now d : ℕ) (old new : Dialogue) (ps : List TableEntry) → lookup (nat_eq d) ps ≡ Some old → new ≡ with_invocations old new.invocations → idle_ids now (set_value (nat_eq d) ps new) ≡ idle_ids now ps
idle-same now d old new ps found is =
    by-keys (set_value (nat_eq d) ps new) ∙ ap (λ (l : List (ℕ × ℕ)). map (λ (k : ℕ × ℕ). k.1) (in_order_by by_key l)) (keys-same now d old new ps found is) ∙ sym (by-keys ps)
  where
    by-keys : (qs : List TableEntry) → idle_ids now qs ≡ map (λ (k : ℕ × ℕ). k.1) (in_order_by by_key (map key_of (idle_in now qs)))
    by-keys qs = ids-keys (stood now qs) ∙ ap (map (λ (k : ℕ × ℕ). k.1)) (keys-in_order (idle_in now qs))

-- ---- each once

-- An identifier is among others, wherever it stands.
pub among-here : (earlier later : List ℕ) (d : ℕ) → is_among (earlier ++ d ∷ later) d ≡ true
among-here [] later d = let same : nat_eq d d ≡ true = grind (arith, tests) in rw same refl
among-here (e ∷ earlier) later d = go (nat_eq d e) (among-here earlier later d)
  where
    go : (b : Bool) → is_among (earlier ++ d ∷ later) d ≡ true → (b || is_among (earlier ++ d ∷ later) d) ≡ true
    go true ih = refl
    go false ih = ih

-- The identifiers of some dialogues.
abbrev pub ids_of : List Dialogue → List ℕ
ids_of xs = map (λ d. d.standing.identifier) xs

among-put : (n : ℕ) (x : Dialogue) (ys : List Dialogue) → is_among (ids_of (put_by is_older x ys)) n ≡ is_among (ids_of (x ∷ ys)) n
among-put n x [] = refl
among-put n x (y ∷ ys) = go (is_older y x) (among-put n x ys)
  where
    swap : (a b c : Bool) → (a || (b || c)) ≡ (b || (a || c))
    swap true true c = refl
    swap true false c = refl
    swap false b c = refl

    go : (b : Bool) → is_among (ids_of (put_by is_older x ys)) n ≡ is_among (ids_of (x ∷ ys)) n → is_among (ids_of (cond b (y ∷ put_by is_older x ys) (x ∷ y ∷ ys))) n ≡ is_among (ids_of (x ∷ y ∷ ys)) n
    go true ih = ap (λ b. nat_eq n y.standing.identifier || b) ih ∙ swap (nat_eq n y.standing.identifier) (nat_eq n x.standing.identifier) (is_among (ids_of ys) n)
    go false ih = refl

-- The order doesn't matter.
pub among-in_order : (n : ℕ) (xs : List Dialogue) → is_among (ids_of (in_order_by is_older xs)) n ≡ is_among (ids_of xs) n
among-in_order n [] = refl
among-in_order n (x ∷ xs) = among-put n x (in_order_by is_older xs) ∙ ap (λ b. nat_eq n x.standing.identifier || b) (among-in_order n xs)

-- None that is lower is among them.
pub among-below : (now n low : ℕ) (ps : List TableEntry) → n < low → AreFrom low ps → is_among (ids_of (idle_in now ps)) n ≡ false
among-below now n low [] lt from = refl
among-below now n low (p ∷ ps) lt from = go (is_idle_at now p.1) (let le = from.0 in among-below now n (p.0 + 1) ps (omega (arith, lt, le)) from.2)
  where
    other : nat_eq n p.1.standing.identifier ≡ false
    other = ap (nat_eq n) from.1 ∙ apart n p.0 (let le = from.0 in omega (arith, lt, le))

    go : (b : Bool) → is_among (ids_of (idle_in now ps)) n ≡ false → is_among (ids_of (cond b (p.1 ∷ idle_in now ps) (idle_in now ps))) n ≡ false
    go true ih = ap (λ b. b || is_among (ids_of (idle_in now ps)) n) other ∙ ih
    go false ih = ih

apart-put : (x : Dialogue) (ys : List Dialogue) → is_among (ids_of ys) x.standing.identifier ≡ false → AreDistinct (ids_of ys) → AreDistinct (ids_of (put_by is_older x ys))
apart-put x [] none h = (refl, tt)
apart-put x (y ∷ ys) none h = go (is_older y x) (nat_eq x.standing.identifier y.standing.identifier) refl none (λ k. apart-put x ys k h.1)
  where
    i : ℕ
    i = x.standing.identifier

    j : ℕ
    j = y.standing.identifier

    go : (b c : Bool) → nat_eq i j ≡ c → (c || is_among (ids_of ys) i) ≡ false → (is_among (ids_of ys) i ≡ false → AreDistinct (ids_of (put_by is_older x ys))) → AreDistinct (ids_of (cond b (y ∷ put_by is_older x ys) (x ∷ y ∷ ys)))
    go b true e k ih = absurd cc
    go true false e k ih =
        let back : nat_eq j i ≡ false = grind (arith, tests, e) in
        (among-put j x ys ∙ ap (λ b. b || is_among (ids_of ys) j) back ∙ h.0, ih k)
    go false false e k ih = (ap (λ b. b || is_among (ids_of ys) i) e ∙ k, h)

apart-from : (now low : ℕ) (ps : List TableEntry) → AreFrom low ps → AreDistinct (ids_of (stood now ps))
apart-from now low [] from = tt
apart-from now low (p ∷ ps) from = go (is_idle_at now p.1) refl (apart-from now (p.0 + 1) ps from.2)
  where
    go : (b : Bool) → is_idle_at now p.1 ≡ b → AreDistinct (ids_of (stood now ps)) → AreDistinct (ids_of (in_order_by is_older (cond b (p.1 ∷ idle_in now ps) (idle_in now ps))))
    go true e ih =
        let none : is_among (ids_of (stood now ps)) p.1.standing.identifier ≡ false =
        ap (is_among (ids_of (stood now ps))) from.1 ∙ among-in_order p.0 (idle_in now ps) ∙ among-below now p.0 (p.0 + 1) ps (omega arith) from.2 in
        apart-put p.1 (stood now ps) none ih
    go false e ih = ih

-- Each dialogue that has been idle too long is told once.
pub idle-distinct : (now : ℕ) (ps : List TableEntry) → AreFrom 0 ps → AreDistinct (idle_ids now ps)
idle-distinct now ps from = apart-from now 0 ps from
