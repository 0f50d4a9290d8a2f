-- What is first of all dialogues is what is first in the dialogue whose timer runs out first.
use Rattle.std.proofs.Common.{◌≡◌, ◌⊎◌, inl, inr, ℕ, ◌+◌, ◌<◌, ◌≤◌, Bool, true, false, cond, nat_eq, nat_lt, List, [], ◌∷◌, ◌++◌, Option, Some, None, option_to_list, refl, ap, sym, subst, ◌∙◌, arith, tests}
use Rattle.std.proofs.lemmas.Bool.{cases_Bool, eqb-true}
use Rattle.std.specs.Prelude.{IfSome}
use Rattle.std.specs.Map.{lookup}
use Rattle.std.specs.Option.{option_map}
use Rattle.tcap_engine.specs.Lapsing.{AreBehind, IsFirstTimer, due_from, rows_timer, timer_of}
use Rattle.tcap_dialogue.specs.Timers.{earliest}
use Rattle.tcap_engine.specs.NextTimer.{times_in, timers_in}
use Rattle.tcap_engine.specs.DialogueEntries.{TableEntry, AreFrom, dialogues_of}
use Rattle.tcap_engine.proofs.DueLemmas.{is_sooner, first_in, first-cons, named, order}
use Rattle.tcap_engine.proofs.OrderLemmas.{in_order-append, front_of, put_all-in_order, first-put_all}
use Rattle.tcap_engine.proofs.TableLemmas.{apart, found-own}
use Rattle.tcap_engine.proofs.TimerLemmas.{least, least-from, none-least, first-from}
use Rattle.tcap_invocation.specs.declared.invocations.lapse.Lapse.{Lapse}
use Rattle.tcap_invocation.specs.Lapses.{first_due_at}
use Rattle.tcap_invocation.specs.Order.{in_order_by, first_of}
use Rattle.tcap_invocation.specs.Timers.{times_of}
use Rattle.tcap_invocation.proofs.CallerLemmas.{ordered_in_order}
use Rattle.tcap_model.specs.Table.Dialogue.{Dialogue, idle_end}
use Rattle.timed_table.specs.Row.{is_before}

-- ---- the first of all, where each dialogue has at most one

module _ {X : Type 0} (before : X → X → Bool) (f : Dialogue → Option X) where
  abbrev pub first_all : List TableEntry → Option X
  first_all [] = None
  first_all (p ∷ ps) = front_of before (f p.1) (first_all ps)

  module _ (x : X) where
    -- another does not come before, and comes behind or is the same
    abbrev pub IsAhead : X → Type 0
    IsAhead y = (before y x ≡ false) × ((before x y ≡ true) ⊎ (y ≡ x))

    -- the same of each dialogue but that of an identifier
    abbrev pub AllAhead : ℕ → List TableEntry → Type 0
    AllAhead d [] = Unit {0}
    AllAhead d (p ∷ ps) = (nat_eq d p.0 ≡ false → IfSome (f p.1) IsAhead) × AllAhead d ps

    either : (a b : Option X) → IfSome a IsAhead → IfSome b IsAhead → IfSome (front_of before a b) IsAhead
    either None b k l = l
    either (Some y) None k l = k
    either (Some y) (Some z) k l = elim (before z y) as (λ c. IsAhead (cond c z y)) [ true ↦ l | false ↦ k ]

    ahead-beyond : (d low : ℕ) (ps : List TableEntry) → d < low → AreFrom low ps → AllAhead d ps → IfSome (first_all ps) IsAhead
    ahead-beyond d low [] lt from h = tt
    ahead-beyond d low (p ∷ ps) lt from h =
        let le = from.0 in
        either (f p.1) (first_all ps) (h.0 (apart d p.0 (omega (arith, lt, le)))) (ahead-beyond d (p.0 + 1) ps (omega (arith, lt, le)) from.2 h.1)

    here : (a b : Option X) → a ≡ Some x → IfSome b IsAhead → front_of before a b ≡ Some x
    here None b e k = absurd cc
    here (Some y) None e k = e
    here (Some y) (Some z) e k =
        let same : y ≡ x = cc in
        ap (λ v. Some (cond (before z v) z v)) same ∙ ap (λ b. Some (cond b z x)) k.0

    there : (a b : Option X) → b ≡ Some x → IfSome a IsAhead → front_of before a b ≡ Some x
    there None b e k = e
    there (Some y) None e k = absurd cc
    there (Some y) (Some z) e k =
        let same : z ≡ x = cc in
        ap (λ v. Some (cond (before v y) v y)) same ∙ go k.1
      where
        go : (before x y ≡ true) ⊎ (y ≡ x) → Some (cond (before x y) x y) ≡ Some x
        go (inl t) = ap (λ b. Some (cond b x y)) t
        go (inr s) = ap Some (ap (cond (before x y) x) s ∙ alike (before x y))
          where
            alike : (b : Bool) → cond b x x ≡ x
            alike true = refl
            alike false = refl

    -- it is the first of all
    pub first-at : (d low : ℕ) (w : Dialogue) (ps : List TableEntry) → AreFrom low ps → lookup (nat_eq d) ps ≡ Some w → f w ≡ Some x → AllAhead d ps → first_all ps ≡ Some x
    first-at d low w [] from found is h = absurd cc
    first-at d low w (p ∷ ps) from found is h = go (nat_eq d p.0) refl found (λ k. first-at d (p.0 + 1) w ps from.2 k is h.1)
      where
        go : (b : Bool) → nat_eq d p.0 ≡ b → cond b (Some p.1) (lookup (nat_eq d) ps) ≡ Some w → (lookup (nat_eq d) ps ≡ Some w → first_all ps ≡ Some x) → front_of before (f p.1) (first_all ps) ≡ Some x
        go true e k ih =
            let same : p.1 ≡ w = cc in
            let at = eqb-true d p.0 e in
            here (f p.1) (first_all ps) (ap f same ∙ is) (ahead-beyond d (p.0 + 1) ps (omega (arith, at)) from.2 h.1)
        go false e k ih = there (f p.1) (first_all ps) (ih k) (h.0 e)

-- ---- the lapse that is told first

all-first : (now : ℕ) (ps : List TableEntry) → first_of (order now (dialogues_of ps)) ≡ first_all is_sooner (first_in now) ps
all-first now [] = refl
all-first now (p ∷ ps) = first-cons now p.1 (dialogues_of ps) ∙ ap (front_of is_sooner (first_in now p.1)) (all-first now ps)

module _ (now t d : ℕ) (l : Lapse) (at : l.deadline ≡ t) where
  -- a lapse of another dialogue, whose timer runs out behind
  behind-lapse : (p : TableEntry) (time : ℕ) (z : Lapse) → p.1.standing.identifier ≡ p.0 → nat_eq d p.0 ≡ false → is_before (time, p.0) (t, d) ≡ false → time ≤ z.deadline
      → IsAhead is_sooner (first_in now) (due_from d l) (named p.1.standing.identifier z)
  behind-lapse p time z own other behind le =
      let sooner : is_sooner (due_from d l) (named p.1.standing.identifier z) ≡ true = grind (arith, tests, own, other, behind, le, at) in
      let later : is_sooner (named p.1.standing.identifier z) (due_from d l) ≡ false = grind (arith, tests, own, other, behind, le, at) in
      (later, inl sooner)

  -- the timer of its invocations runs out behind too
  rows-behind : (i : ℕ) (a b : Option ℕ) → IfSome (earliest a b) (λ time. is_before (time, i) (t, d) ≡ false) → IfSome a (λ time. is_before (time, i) (t, d) ≡ false)
  rows-behind i None b h = tt
  rows-behind i (Some x) None h = h
  rows-behind i (Some x) (Some y) h = go (nat_lt y x) refl h
    where
      go : (b : Bool) → nat_lt y x ≡ b → is_before (cond b y x, i) (t, d) ≡ false → is_before (x, i) (t, d) ≡ false
      go true e h = grind (arith, tests, e, h)
      go false e h = h

  ahead-lapse : (p : TableEntry) → p.1.standing.identifier ≡ p.0 → IfSome (timer_of p.1) (λ time. is_before (time, p.0) (t, d) ≡ false) → nat_eq d p.0 ≡ false → IfSome (first_in now p.1) (IsAhead is_sooner (first_in now) (due_from d l))
  ahead-lapse p own behind other = go (rows_timer p.1) refl (rows-behind p.0 (rows_timer p.1) (idle_end p.1) behind) (first_due_at now p.1.invocations.rows) refl
    where
      go : (o : Option ℕ) → rows_timer p.1 ≡ o → IfSome o (λ time. is_before (time, p.0) (t, d) ≡ false) → (z : Option Lapse) → first_due_at now p.1.invocations.rows ≡ z
          → IfSome (option_map (named p.1.standing.identifier) z) (IsAhead is_sooner (first_in now) (due_from d l))
      go o e b None k = tt
      go None e b (Some z) k = idle-due p.1 e z k
        where
          idle-due : (w : Dialogue) → rows_timer w ≡ None → (z : Lapse) → first_due_at now w.invocations.rows ≡ Some z → IsAhead is_sooner (first_in now) (due_from d l) (named p.1.standing.identifier z)
          idle-due w e z k = absurd (let q = first-from now (z.deadline + 1) w.invocations.rows (none-least (z.deadline + 1) (times_of w.invocations.rows) e) in let late : z.deadline + 1 ≤ z.deadline = subst (λ o. IfSome o (λ y. z.deadline + 1 ≤ y.deadline)) k q in omega (arith, late))
      go (Some time) e b (Some z) k =
          let from = subst (λ o. IfSome o (λ y. time ≤ y.deadline)) k (first-from now time p.1.invocations.rows (least-from time (times_of p.1.invocations.rows) e)) in
          behind-lapse p time z own other b from

  all-ahead-lapse : (low : ℕ) (ps : List TableEntry) → AreFrom low ps → AreBehind (t, d) ps → AllAhead is_sooner (first_in now) (due_from d l) d ps
  all-ahead-lapse low [] from h = tt
  all-ahead-lapse low (p ∷ ps) from h = (ahead-lapse p from.1 h.0, all-ahead-lapse (p.0 + 1) ps from.2 h.1)

  -- The first lapse of the dialogue with the first timer is told first, if it lapses then.
  pub first-told : (ps : List TableEntry) (w : Dialogue) → AreFrom 0 ps → lookup (nat_eq d) ps ≡ Some w → AreBehind (t, d) ps → first_due_at now w.invocations.rows ≡ Some l
      → first_of (order now (dialogues_of ps)) ≡ Some (due_from d l)
  first-told ps w from found behind first =
      let own : w.standing.identifier ≡ d = found-own d 0 w ps from found in
      let is : first_in now w ≡ Some (due_from d l) = ap (option_map (named w.standing.identifier)) first ∙ ap (λ i. Some (named i l)) own in
      all-first now ps ∙ first-at is_sooner (first_in now) (due_from d l) d 0 w ps from found is (all-ahead-lapse 0 ps from behind)

-- ---- the least timer

first-append : (xs ys : List ℕ) → least (xs ++ ys) ≡ front_of nat_lt (least xs) (least ys)
first-append xs ys =
    ap first_of (in_order-append nat_lt xs ys ∙ sym (put_all-in_order nat_lt once behind through xs (in_order_by nat_lt ys)))
    ∙ first-put_all nat_lt once behind through (in_order_by nat_lt xs) (in_order_by nat_lt ys) (ordered_in_order nat_lt once behind xs)
  where
    once : (a b : ℕ) → nat_lt a b ≡ true → nat_lt b a ≡ false
    once a b h = grind (arith, tests, h)

    behind : (a b c : ℕ) → nat_lt b a ≡ false → nat_lt c b ≡ false → nat_lt c a ≡ false
    behind a b c h k = grind (arith, tests, h, k)

    through : (a b c : ℕ) → nat_lt a b ≡ true → nat_lt b c ≡ true → nat_lt a c ≡ true
    through a b c h k = grind (arith, tests, h, k)

least-one : (o : Option ℕ) → least (option_to_list o) ≡ o
least-one None = refl
least-one (Some x) = refl

front-earliest : (a b : Option ℕ) → front_of nat_lt a b ≡ earliest a b
front-earliest None b = refl
front-earliest (Some x) None = refl
front-earliest (Some x) (Some y) = refl

pub least-times : (d : Dialogue) → least (times_in d) ≡ timer_of d
least-times d =
    first-append (times_of d.invocations.rows) (option_to_list (idle_end d))
    ∙ ap (front_of nat_lt (rows_timer d)) (least-one (idle_end d))
    ∙ front-earliest (rows_timer d) (idle_end d)

least-all : (ps : List TableEntry) → least (timers_in (dialogues_of ps)) ≡ first_all nat_lt timer_of ps
least-all [] = refl
least-all (p ∷ ps) =
    first-append (times_in p.1) (timers_in (dialogues_of ps))
    ∙ ap (λ o. front_of nat_lt o (least (timers_in (dialogues_of ps)))) (least-times p.1)
    ∙ ap (front_of nat_lt (timer_of p.1)) (least-all ps)

ahead-timer : (t d : ℕ) (p : TableEntry) (o : Option ℕ) → IfSome o (λ time. is_before (time, p.0) (t, d) ≡ false) → IfSome o (IsAhead nat_lt timer_of t)
ahead-timer t d p None h = tt
ahead-timer t d p (Some time) h =
    let later : nat_lt time t ≡ false = grind (arith, tests, h) in
    (later, go (cases_Bool (nat_lt t time)))
  where
    go : (nat_lt t time ≡ true) ⊎ (nat_lt t time ≡ false) → (nat_lt t time ≡ true) ⊎ (time ≡ t)
    go (inl e) = inl e
    go (inr e) = inr (grind (arith, tests, e, h))

all-ahead-timer : (t d : ℕ) (ps : List TableEntry) → AreBehind (t, d) ps → AllAhead nat_lt timer_of t d ps
all-ahead-timer t d [] h = tt
all-ahead-timer t d (p ∷ ps) h = (λ other. ahead-timer t d p (timer_of p.1) h.0, all-ahead-timer t d ps h.1)

-- The first timer is the least of all.
pub least-timer : (ps : List TableEntry) (first : ℕ × ℕ) → AreFrom 0 ps → IsFirstTimer ps first → least (timers_in (dialogues_of ps)) ≡ Some first.0
least-timer ps first from h = least-all ps ∙ first-at nat_lt timer_of first.0 first.1 0 h.dialogue ps from h.stands h.timer (all-ahead-timer first.0 first.1 ps h.least)
