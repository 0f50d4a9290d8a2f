-- What a list tells next: the first that is due, the first at the end of the dialogue, and the rest.
use Rattle.std.proofs.Common.{◌≡◌, ℕ, ℤ, ◌+◌, Bool, true, false, cond, List, [], ◌∷◌, Option, Some, None, filter, refl, ap, sym, subst, ◌∙◌, arith, tests, nat_lt, nat_le}
use Rattle.std.specs.Prelude.{is_some, IfSome}
use Rattle.std.specs.List.{AllByRecursion, IsDistinct, cons_option}
use Rattle.std.specs.Map.{keys_of, lookup}
use Rattle.std.specs.Ordering.{int_eq}
use Rattle.tcap_invocation.specs.declared.invocations.Invocation.{Invocation}
use Rattle.tcap_invocation.specs.declared.invocations.lapse.Lapse.{Lapse}
use Rattle.tcap_invocation.specs.declared.stage.Stage.{Stage}
use Rattle.tcap_invocation.specs.declared.stage.Stage.TheVariants.{Queued, Sent, Waiting}
use Rattle.tcap_invocation.specs.Order.{first_of}
use Rattle.tcap_invocation.specs.Stage.{is_pending}
use Rattle.tcap_invocation.specs.Invocations.{Row, InvocationList, IsSound, entry_at, without, freed}
use Rattle.tcap_invocation.specs.Lapses.{due_deadline, lapse_with, lapse_of, lapse_for, lapse_at, due_at, is_before, in_order, told_at, first_due_at, after_lapse_one, is_held, after_free_due, stays, after_lapse}
use Rattle.tcap_invocation.specs.Closing.{ended_of, ended_at, first_ended_at, after_close_one}
use Rattle.tcap_invocation.proofs.InsertionLemmas.{Ordered, total, total_in_order, all_in_order}
use Rattle.tcap_invocation.proofs.LapseLemmas.{in_order-ordered, IsNumbered, numbered_due, one_told}
use Rattle.tcap_invocation.proofs.RemovalLemmas.{told_of, told-own, removed-all, removed-total, removed-first}

-- ---- the first that is due

lapse-named : (clock : ℕ) (r : Row) (l : Lapse) → lapse_of clock r ≡ Some l → l.id ≡ r.0
lapse-named clock r l = go (due_deadline clock r.1.stage)
  where
    go : (o : Option ℕ) → lapse_with r.0 r.1.number o ≡ Some l → l.id ≡ r.0
    go None e = absurd cc
    go (Some deadline) e = let same : Some (record { deadline = deadline; number = r.1.number; id = r.0 }) ≡ Some l = e in sym (ap (λ (o : Option Lapse). named o) same)
      where
        named : Option Lapse → ℤ
        named None = r.0
        named (Some l) = l.id

lapse-told : (clock : ℕ) (id : ℤ) (o : Option Invocation) → told_of (lapse_of clock) (λ l. l.id) (lapse-named clock) id o ≡ lapse_for clock id o
lapse-told clock id None = refl
lapse-told clock id (Some entry) = refl

list-head : (ls : List Lapse) (l : Lapse) → first_of ls ≡ Some l → (rest : List Lapse) × (ls ≡ l ∷ rest)
list-head [] l e = absurd cc
list-head (x ∷ xs) l e = (xs, ap (λ (y : Lapse). y ∷ xs) (let same : Some x ≡ Some l = e in cc))

-- the invocation that is first due lapses, and what is told is the rest
module _ (clock : ℕ) (rows : List Row) (l : Lapse) (sound : AllByRecursion (IsNumbered clock rows) (due_at clock rows)) (distinct : IsDistinct int_eq (keys_of rows)) (first : first_due_at clock rows ≡ Some l) where
  pub lapse_at-first : lapse_at clock rows l.id ≡ Some l
  lapse_at-first =
      let t = list-head (told_at clock rows) l first in
      let all = all_in_order is_before (λ x. told_of (lapse_of clock) (λ y. y.id) (lapse-named clock) x.id (lookup (int_eq x.id) rows) ≡ Some x) (due_at clock rows)
      (told-own (lapse_of clock) (λ y. y.id) (lapse-named clock) rows distinct) in
      sym (lapse-told clock l.id (entry_at rows l.id)) ∙ (subst (AllByRecursion (λ x. told_of (lapse_of clock) (λ y. y.id) (lapse-named clock) x.id (lookup (int_eq x.id) rows) ≡ Some x)) t.1 all).0

  pub told_at-without : told_at clock rows ≡ l ∷ told_at clock (without rows l.id)
  told_at-without =
      let t = list-head (told_at clock rows) l first in
      let less : List Lapse = due_at clock (without rows l.id) in
      let known : AllByRecursion (IsNumbered clock rows) (l ∷ t.0) = subst (AllByRecursion (IsNumbered clock rows)) t.1 (all_in_order is_before (IsNumbered clock rows) (due_at clock rows) sound) in
      let left : AllByRecursion (IsNumbered clock rows) less = removed-all (lapse_of clock) (λ y. y.id) (lapse-named clock) (IsNumbered clock rows) (int_eq l.id) rows sound in
      let ordered : Ordered is_before (l ∷ t.0) = subst (Ordered is_before) t.1 (in_order-ordered (due_at clock rows)) in
      let found = lapse-told clock l.id (entry_at rows l.id) ∙ lapse_at-first in
      let same : t.0 ≡ in_order less = one_told clock rows t.0 (in_order less) known.1 (all_in_order is_before (IsNumbered clock rows) less left) ordered.1 (in_order-ordered less)
      (λ f.
      let whole : total f (l ∷ t.0) ≡ total f (due_at clock rows) = ap (total f) (sym t.1) ∙ total_in_order is_before f (due_at clock rows) in
      let parts : total f (due_at clock rows) ≡ f l + total f less = removed-total (lapse_of clock) (λ y. y.id) (lapse-named clock) f l.id l rows found in
      let sorted : total f (in_order less) ≡ total f less = total_in_order is_before f less in
      omega (arith, whole, parts, sorted)) in
      t.1 ∙ ap (λ (ls : List Lapse). l ∷ ls) same

pub told_at-after_lapse_one : (list : InvocationList) (clock : ℕ) (l : Lapse) → IsSound list → first_due_at clock list.rows ≡ Some l → told_at clock list.rows ≡ l ∷ told_at clock (after_lapse_one list l.id clock).rows
told_at-after_lapse_one list clock l sound first =
    let known = numbered_due clock list.rows sound.in_order in
    let found = lapse_at-first clock list.rows l known sound.distinct first in
    told_at-without clock list.rows l known sound.distinct first
    ∙ ap (λ b. l ∷ told_at clock (freed list l.id b).rows) (sym (ap is_some found))

-- the same of any identifier
pub told_at-first : (list : InvocationList) (id : ℤ) (clock : ℕ) → IsSound list → IfSome (first_due_at clock list.rows) (λ l. l.id ≡ id → told_at clock list.rows ≡ l ∷ told_at clock (after_lapse_one list id clock).rows)
told_at-first list id clock sound = go (first_due_at clock list.rows) refl
  where
    go : (o : Option Lapse) → first_due_at clock list.rows ≡ o → IfSome o (λ l. l.id ≡ id → told_at clock list.rows ≡ l ∷ told_at clock (after_lapse_one list id clock).rows)
    go None e = tt
    go (Some l) e = λ same. told_at-after_lapse_one list clock l sound e ∙ ap (λ (i : ℤ). l ∷ told_at clock (after_lapse_one list i clock).rows) same

-- an identifier that lapses is that of an invocation
pub lapse-entry : (clock : ℕ) (rows : List Row) (id : ℤ) (l : Lapse) → lapse_at clock rows id ≡ Some l → (e : Invocation) × (entry_at rows id ≡ Some e)
lapse-entry clock rows id l = go (entry_at rows id)
  where
    go : (o : Option Invocation) → lapse_for clock id o ≡ Some l → (e : Invocation) × (o ≡ Some e)
    go None h = absurd cc
    go (Some entry) h = (entry, refl)

-- ---- what stays at a clock

stays-due : (clock : ℕ) (id : ℤ) (entry : Invocation) (l : Lapse) → lapse_of clock (id, entry) ≡ Some l → stays clock entry.stage ≡ false
stays-due clock id entry l = go entry.stage
  where
    go : (s : Stage) → lapse_with id entry.number (due_deadline clock s) ≡ Some l → stays clock s ≡ false
    go (Queued timeout) e = absurd cc
    go (Waiting until) e = absurd cc
    go (Sent deadline) e = come (nat_le deadline clock) refl e
      where
        come : (b : Bool) → nat_le deadline clock ≡ b → lapse_with id entry.number (cond b (Some deadline) None) ≡ Some l → nat_lt clock deadline ≡ false
        come true p h = grind (arith, tests, p)
        come false p h = absurd cc

pub filter-without : (clock : ℕ) (id : ℤ) (l : Lapse) (rows : List Row) → lapse_at clock rows id ≡ Some l → filter (λ r. stays clock r.1.stage) (without rows id) ≡ filter (λ r. stays clock r.1.stage) rows
filter-without clock id l [] h = absurd cc
filter-without clock id l (r ∷ rs) h = go (int_eq id r.0) h (filter-without clock id l rs)
  where
    go : (b : Bool) → lapse_for clock id (cond b (Some r.1) (lookup (int_eq id) rs)) ≡ Some l
        → (lapse_at clock rs id ≡ Some l → filter (λ r. stays clock r.1.stage) (without rs id) ≡ filter (λ r. stays clock r.1.stage) rs)
        → filter (λ r. stays clock r.1.stage) (cond b rs (r ∷ without rs id)) ≡ filter (λ r. stays clock r.1.stage) (r ∷ rs)
    go true h rest = rw (stays-due clock id r.1 l h) refl
    go false h rest = ap (λ (rs : List Row). cond (stays clock r.1.stage) (r ∷ rs) rs) (rest h)

pub after_lapse-after_lapse_one : (list : InvocationList) (id : ℤ) (clock : ℕ) → after_lapse (after_lapse_one list id clock) clock ≡ after_lapse list clock
after_lapse-after_lapse_one list id clock = go (lapse_at clock list.rows id) refl
  where
    go : (o : Option Lapse) → lapse_at clock list.rows id ≡ o → after_lapse (freed list id (is_some o)) clock ≡ after_lapse list clock
    go None e = refl
    go (Some l) e = ap (λ (rows : List Row). record list { rows = rows }) (filter-without clock id l list.rows e)

held-stays : (clock : ℕ) (r : Row) → lapse_of clock r ≡ None → stays clock r.1.stage ≡ is_held clock r.1.stage
held-stays clock r = go r.1.stage
  where
    go : (s : Stage) → lapse_with r.0 r.1.number (due_deadline clock s) ≡ None → stays clock s ≡ is_held clock s
    go (Queued timeout) e = refl
    go (Waiting until) e = refl
    go (Sent deadline) e = come (nat_le deadline clock) refl e
      where
        come : (b : Bool) → nat_le deadline clock ≡ b → lapse_with r.0 r.1.number (cond b (Some deadline) None) ≡ None → nat_lt clock deadline ≡ true
        come true p h = absurd cc
        come false p h = grind (arith, tests, p)

-- where nothing is due, only waits end
pub after_lapse-none : (list : InvocationList) (clock : ℕ) → due_at clock list.rows ≡ [] → after_lapse list clock ≡ after_free_due list clock
after_lapse-none list clock none = ap (λ (rows : List Row). record list { rows = rows }) (same list.rows none)
  where
    same : (rows : List Row) → due_at clock rows ≡ [] → filter (λ r. stays clock r.1.stage) rows ≡ filter (λ r. is_held clock r.1.stage) rows
    same [] n = refl
    same (r ∷ rs) n = go (lapse_of clock r) refl (same rs) n
      where
        go : (o : Option Lapse) → lapse_of clock r ≡ o → (due_at clock rs ≡ [] → filter (λ r. stays clock r.1.stage) rs ≡ filter (λ r. is_held clock r.1.stage) rs)
            → cons_option o (due_at clock rs) ≡ [] → filter (λ r. stays clock r.1.stage) (r ∷ rs) ≡ filter (λ r. is_held clock r.1.stage) (r ∷ rs)
        go None e rest n = rw (held-stays clock r e) (ap (λ (rs : List Row). cond (is_held clock r.1.stage) (r ∷ rs) rs) (rest n))
        go (Some l) e rest n = absurd cc

-- ---- the first that is told at the end of the dialogue

ended-named : (r : Row) (e : ℕ × ℤ) → ended_of r ≡ Some e → e.1 ≡ r.0
ended-named r e = go (is_pending r.1.stage)
  where
    identifier : Option (ℕ × ℤ) → ℤ
    identifier None = r.0
    identifier (Some e) = e.1

    go : (b : Bool) → cond b (Some (r.1.number, r.0)) None ≡ Some e → e.1 ≡ r.0
    go true h = sym (ap identifier h)
    go false h = absurd cc

pub ended_at-after_close_one : (list : InvocationList) (e : ℕ × ℤ) → IsDistinct int_eq (keys_of list.rows) → first_ended_at list.rows ≡ Some e → ended_at list.rows ≡ e ∷ ended_at (after_close_one list).rows
ended_at-after_close_one list e distinct first =
    let t = head (ended_at list.rows) first in
    let left = removed-first ended_of (λ (p : ℕ × ℤ). p.1) ended-named e t.0 list.rows distinct t.1 in
    t.1 ∙ rw first (ap (λ (es : List (ℕ × ℤ)). e ∷ es) (sym left))
  where
    head : (es : List (ℕ × ℤ)) → first_of es ≡ Some e → (rest : List (ℕ × ℤ)) × (es ≡ e ∷ rest)
    head [] h = absurd cc
    head (x ∷ xs) h = (xs, ap (λ (y : ℕ × ℤ). y ∷ xs) (let same : Some x ≡ Some e = h in cc))

pub ended_at-first : (list : InvocationList) → IsSound list → IfSome (first_ended_at list.rows) (λ e. ended_at list.rows ≡ e ∷ ended_at (after_close_one list).rows)
ended_at-first list sound = go (first_ended_at list.rows) refl
  where
    go : (o : Option (ℕ × ℤ)) → first_ended_at list.rows ≡ o → IfSome o (λ e. ended_at list.rows ≡ e ∷ ended_at (after_close_one list).rows)
    go None e = tt
    go (Some one) e = ended_at-after_close_one list one sound.distinct e

-- what is told first is told of an invocation
pub first_ended-entry : (rows : List Row) (e : ℕ × ℤ) → IsDistinct int_eq (keys_of rows) → first_ended_at rows ≡ Some e → entry_at rows e.1 ≡ None → ⊥
first_ended-entry rows e distinct first none = go (ended_at rows) (told-own ended_of (λ (p : ℕ × ℤ). p.1) ended-named rows distinct) first
  where
    go : (es : List (ℕ × ℤ)) → AllByRecursion (λ (p : ℕ × ℤ). told_of ended_of (λ (p : ℕ × ℤ). p.1) ended-named p.1 (lookup (int_eq p.1) rows) ≡ Some p) es → first_of es ≡ Some e → ⊥
    go [] own h = absurd cc
    go (x ∷ xs) own h =
        let same : x ≡ e = cc in
        let mine = subst (λ (p : ℕ × ℤ). told_of ended_of (λ (p : ℕ × ℤ). p.1) ended-named p.1 (lookup (int_eq p.1) rows) ≡ Some p) same own.0 in
        let bad : None ≡ Some e = rw none at mine in
        absurd cc

pub ruleset lapse_rules = (after_lapse-after_lapse_one)
