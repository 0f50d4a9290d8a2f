-- The row of an identifier, and the latest invocation with it.
use Rattle.std.proofs.Common.{◌≡◌, ℕ, ℤ, ◌==◌, ◌&&◌, Bool, true, false, cond, List, [], ◌∷◌, ◌++◌, Option, Some, None, refl, sym, ◌∙◌, subst, arith}
use Rattle.std.proofs.lemmas.Bool.Decides.{nat_tests}
use Rattle.std.specs.Prelude.{filter_map, option_to_list, if◌then◌else◌}
use Rattle.std.specs.List.{AllByRecursion, cons_option}
use Rattle.std.specs.Option.{option_or}
use Rattle.std.specs.Ordering.{int_eq}
use Rattle.tcap_invocation.specs.declared.invocations.Invocation.{Invocation as Entry}
use Rattle.tcap_invocation.specs.Invocations.{Row, entry_at}
use Rattle.tcap_model.specs.Invocations.Invocation.{Invocation, invoked_by, invocations, latest, has_id, with_id}
use Rattle.tcap_model.specs.Histories.Pair.{Past}

-- ---- the row of an identifier

-- the entry of a row, if it is that of the identifier
abbrev pub entry_of : ℤ → Option Row → Option Entry
entry_of id None = None
entry_of id (Some r) = if int_eq id r.0 then Some r.1 else None

entry_at-cons : (id : ℤ) (o : Option Row) (rows : List Row)
    → entry_at (cons_option o rows) id ≡ option_or (entry_of id o) (entry_at rows id)
entry_at-cons id None rows = refl
entry_at-cons id (Some r) rows = go (int_eq id r.0)
  where
    go : (b : Bool) → cond b (Some r.1) (entry_at rows id) ≡ option_or (cond b (Some r.1) None) (entry_at rows id)
    go true = refl
    go false = refl

-- an item that passes and whose row is the one that is found, or that none has such a row
abbrev pub Found : {X : Type 0} → (X → Type 0) → ℤ → (X → Option Row) → List X → Option Entry → Type 0
Found P id h xs None = AllByRecursion (λ x. entry_of id (h x) ≡ None) xs
Found {X} P id h xs (Some e) = (x : X) × P x × (entry_of id (h x) ≡ Some e)

pub found : {X : Type 0} (P : X → Type 0) (id : ℤ) (h : X → Option Row) (xs : List X) → AllByRecursion P xs
    → Found P id h xs (entry_at (filter_map h xs) id)
found P id h [] a = tt
found {X = X} P id h (x ∷ xs) a =
    subst (Found P id h (x ∷ xs)) (sym (entry_at-cons id (h x) (filter_map h xs)))
    (go (entry_of id (h x)) refl (entry_at (filter_map h xs) id) (found P id h xs a.1))
  where
    go : (o : Option Entry) → entry_of id (h x) ≡ o → (p : Option Entry) → Found P id h xs p
        → Found P id h (x ∷ xs) (option_or o p)
    go None e None f = (e, f)
    go None e (Some y) f = f
    go (Some y) e p f = (x, a.0, e)

pub each_passes : {X : Type 0} (xs : List X) → AllByRecursion (λ x. Unit {0}) xs
each_passes [] = tt
each_passes (x ∷ xs) = (tt, each_passes xs)

-- ---- the latest invocation with an identifier

pub both : (a b : Bool) → (a && b) ≡ true → (a ≡ true) × (b ≡ true)
both true true e = (refl, refl)
both true false e = absurd cc
both false b e = absurd cc

pub same_number : (m n : ℕ) → (m == n) ≡ true → m ≡ n
same_number m n e = grind (arith, nat_tests)

pub number_itself : (n : ℕ) → (n == n) ≡ true
number_itself n = grind (arith, nat_tests)

with_id-some : (dialogue : ℕ) (id : ℤ) (o : Option Invocation) (j : Invocation) → with_id dialogue id o ≡ Some j
    → (o ≡ Some j) × (has_id dialogue id j ≡ true)
with_id-some dialogue id None j e = absurd cc
with_id-some dialogue id (Some i) j e = go (has_id dialogue id i) refl e
  where
    go : (b : Bool) → has_id dialogue id i ≡ b → cond b (Some i) None ≡ Some j
        → (Some i ≡ Some j) × (has_id dialogue id j ≡ true)
    go true q w = (w, let same : i ≡ j = cc in subst (λ (k : Invocation). has_id dialogue id k ≡ true) same q)
    go false q w = absurd cc

pub latest_has : (dialogue : ℕ) (id : ℤ) (past : Past) (j : Invocation) → latest dialogue id past ≡ Some j
    → has_id dialogue id j ≡ true
latest_has dialogue id [] j e = absurd cc
latest_has dialogue id (pair ∷ past) j e =
    go (with_id dialogue id (invoked_by pair)) refl e (latest_has dialogue id past j)
  where
    go : (o : Option Invocation) → with_id dialogue id (invoked_by pair) ≡ o
        → option_or o (latest dialogue id past) ≡ Some j
        → (latest dialogue id past ≡ Some j → has_id dialogue id j ≡ true) → has_id dialogue id j ≡ true
    go None q w before = before w
    go (Some i) q w before = (with_id-some dialogue id (invoked_by pair) j (q ∙ w)).1

all_before : {X : Type 0} (P : X → Type 0) (xs ys : List X) → AllByRecursion P (xs ++ ys) → AllByRecursion P xs
all_before P [] ys a = tt
all_before P (x ∷ xs) ys a = (a.0, all_before P xs ys a.1)

all_after : {X : Type 0} (P : X → Type 0) (xs ys : List X) → AllByRecursion P (xs ++ ys) → AllByRecursion P ys
all_after P [] ys a = a
all_after P (x ∷ xs) ys a = all_after P xs ys a.1

-- what holds of all invocations holds of the latest
pub latest_among : (P : Invocation → Type 0) (dialogue : ℕ) (id : ℤ) (past : Past) (j : Invocation)
    → latest dialogue id past ≡ Some j → AllByRecursion P (invocations past) → P j
latest_among P dialogue id [] j e a = absurd cc
latest_among P dialogue id (pair ∷ past) j e a =
    go (with_id dialogue id (invoked_by pair)) refl e
    (λ w. latest_among P dialogue id past j w (all_before P (invocations past) (option_to_list (invoked_by pair))
    a))
  where
    made : (o : Option Invocation) → o ≡ Some j → AllByRecursion P (option_to_list o) → P j
    made None q w = absurd cc
    made (Some i) q w = let same : i ≡ j = cc in subst P same w.0

    go : (o : Option Invocation) → with_id dialogue id (invoked_by pair) ≡ o
        → option_or o (latest dialogue id past) ≡ Some j → (latest dialogue id past ≡ Some j → P j) → P j
    go None q w before = before w
    go (Some i) q w before =
        made (invoked_by pair) (with_id-some dialogue id (invoked_by pair) j (q ∙ w)).0
        (all_after P (invocations past) (option_to_list (invoked_by pair)) a)
