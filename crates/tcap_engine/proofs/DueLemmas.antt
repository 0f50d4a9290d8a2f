-- What is due in all dialogues, in its order.
use Rattle.std.proofs.Common.{◌≡◌, ℕ, Bool, true, false, cond, List, [], ◌∷◌, map, Option, refl, ap, sym, subst, ◌∙◌, arith, tests}
use Rattle.std.specs.Option.{option_map}
use Rattle.tcap_invocation.specs.declared.invocations.lapse.Lapse.{Lapse}
use Rattle.tcap_invocation.specs.Lapses.{due_at, told_at, first_due_at, is_before}
use Rattle.tcap_invocation.specs.Order.{put_by, in_order_by, first_of}
use Rattle.tcap_invocation.proofs.CallerLemmas.{Ordered, ordered_in_order}
use Rattle.tcap_model.specs.Table.Dialogue.{Dialogue}
use Rattle.tcap_model.specs.Table.DueLapses.{DueLapse, due_key, due_in, all_due}
use Rattle.tcap_model.specs.Words.KeyOrder.{key_before, in_order}
use Rattle.tcap_engine.proofs.OrderLemmas.{put_all, in_order-append, front_of, put_all-in_order, first-put_all}

-- ---- the order

abbrev pub is_sooner : DueLapse → DueLapse → Bool
is_sooner a b = key_before due_key a b

pub sooner-never : (a : DueLapse) → is_sooner a a ≡ false
sooner-never a = grind (arith, tests)

pub sooner-once : (a b : DueLapse) → is_sooner a b ≡ true → is_sooner b a ≡ false
sooner-once a b h = grind (arith, tests, h)

pub sooner-behind : (a b c : DueLapse) → is_sooner b a ≡ false → is_sooner c b ≡ false → is_sooner c a ≡ false
sooner-behind a b c h k = grind (arith, tests, h, k)

pub sooner-through : (a b c : DueLapse) → is_sooner a b ≡ true → is_sooner b c ≡ true → is_sooner a c ≡ true
sooner-through a b c h k = grind (arith, tests, h, k)

-- ---- the lapses of one dialogue

abbrev pub named : ℕ → Lapse → DueLapse
named identifier lapse = record { dialogue = identifier; lapse = lapse }

same-order : (i : ℕ) (a b : Lapse) → is_sooner (named i a) (named i b) ≡ is_before a b
same-order i a b = grind (arith, tests)

named-put : (i : ℕ) (l : Lapse) (ls : List Lapse) → map (named i) (put_by is_before l ls) ≡ put_by is_sooner (named i l) (map (named i) ls)
named-put i l [] = refl
named-put i l (x ∷ xs) = go (is_before x l) refl (named-put i l xs)
  where
    go : (b : Bool) → is_before x l ≡ b → map (named i) (put_by is_before l xs) ≡ put_by is_sooner (named i l) (map (named i) xs)
        → map (named i) (cond b (x ∷ put_by is_before l xs) (l ∷ x ∷ xs)) ≡ put_by is_sooner (named i l) (map (named i) (x ∷ xs))
    go true e ih = rw (same-order i x l ∙ e) (ap (λ (ds : List DueLapse). named i x ∷ ds) ih)
    go false e ih = rw (same-order i x l ∙ e) refl

named-in_order : (i : ℕ) (ls : List Lapse) → map (named i) (in_order_by is_before ls) ≡ in_order_by is_sooner (map (named i) ls)
named-in_order i [] = refl
named-in_order i (l ∷ ls) = named-put i l (in_order_by is_before ls) ∙ ap (put_by is_sooner (named i l)) (named-in_order i ls)

-- what is told of a dialogue, in order
abbrev pub told_in : ℕ → Dialogue → List DueLapse
told_in now d = map (named d.standing.identifier) (told_at now d.invocations.rows)

told_in-ordered : (now : ℕ) (d : Dialogue) → Ordered is_sooner (told_in now d)
told_in-ordered now d =
    subst (Ordered is_sooner) (sym (named-in_order d.standing.identifier (due_at now d.invocations.rows)))
    (ordered_in_order is_sooner sooner-once sooner-behind (due_in now d))

-- ---- all dialogues

abbrev pub order : ℕ → List Dialogue → List DueLapse
order now ds = in_order due_key (all_due now ds)

pub order-cons : (now : ℕ) (d : Dialogue) (ds : List Dialogue) → order now (d ∷ ds) ≡ put_all is_sooner (told_in now d) (order now ds)
order-cons now d ds =
    in_order-append is_sooner (due_in now d) (all_due now ds)
    ∙ sym (put_all-in_order is_sooner sooner-once sooner-behind sooner-through (due_in now d) (order now ds))
    ∙ ap (λ (xs : List DueLapse). put_all is_sooner xs (order now ds)) (sym (named-in_order d.standing.identifier (due_at now d.invocations.rows)))

-- what is due first in a dialogue
abbrev pub first_in : ℕ → Dialogue → Option DueLapse
first_in now d = option_map (named d.standing.identifier) (first_due_at now d.invocations.rows)

first_of-map : {X Y : Type 0} (f : X → Y) (xs : List X) → first_of (map f xs) ≡ option_map f (first_of xs)
first_of-map f [] = refl
first_of-map f (x ∷ xs) = refl

pub first-cons : (now : ℕ) (d : Dialogue) (ds : List Dialogue) → first_of (order now (d ∷ ds)) ≡ front_of is_sooner (first_in now d) (first_of (order now ds))
first-cons now d ds =
    ap first_of (order-cons now d ds)
    ∙ first-put_all is_sooner sooner-once sooner-behind sooner-through (told_in now d) (order now ds) (told_in-ordered now d)
    ∙ ap (λ (o : Option DueLapse). front_of is_sooner o (first_of (order now ds))) (first_of-map (named d.standing.identifier) (told_at now d.invocations.rows))
