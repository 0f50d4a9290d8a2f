-- Rows whose stages an operation moves on or frees, each by itself.
use Rattle.std.proofs.Common.{◌≡◌, ℤ, Bool, true, false, cond, List, [], ◌∷◌, Option, Some, None, refl, ap, sym, ◌∙◌, subst}
use Rattle.std.proofs.lemmas.Bool.Decides.{Decides-int_eq}
use Rattle.std.specs.Prelude.{filter, filter_map}
use Rattle.std.specs.List.{AllByRecursion, IsDistinct, cons_option}
use Rattle.std.specs.Map.{keys_of}
use Rattle.std.specs.Ordering.{int_eq}
use Rattle.tcap_invocation.specs.declared.class.Class.{Class}
use Rattle.tcap_invocation.specs.declared.invocations.Invocation.{Invocation as Entry}
use Rattle.tcap_invocation.specs.declared.stage.Stage.{Stage}
use Rattle.tcap_invocation.specs.Invocations.{Row, entry_at, without, at_stage}

-- what an operation makes of the stage of an identifier's invocation of a class
abbrev pub Operation : Type 0
Operation = ℤ → Class → Stage → Option Stage

-- a row at another stage, or none
abbrev pub row_at : Row → Option Stage → Option Row
row_at r None = None
row_at r (Some s) = Some (r.0, record r.1 { stage = s })

abbrev pub restaged_row : Operation → Row → Option Row
restaged_row op r = row_at r (op r.0 r.1.class r.1.stage)

-- the rows after the operation
abbrev pub restaged : Operation → List Row → List Row
restaged op rows = filter_map (restaged_row op) rows

-- the operation on the row of one identifier
abbrev pub on_id : ℤ → (Class → Stage → Option Stage) → Operation
on_id id f k class s = cond (int_eq id k) (f class s) (Some s)

-- ---- where nothing changes

pub same_rows : (op : Operation) (rows : List Row)
    → AllByRecursion (λ r. op r.0 r.1.class r.1.stage ≡ Some r.1.stage) rows → restaged op rows ≡ rows
same_rows op [] a = refl
same_rows op (r ∷ rows) a =
    ap (λ o. cons_option (row_at r o) (restaged op rows)) a.0 ∙ ap (λ z. r ∷ z) (same_rows op rows a.1)

missing_rows : (id : ℤ) (f : Class → Stage → Option Stage) (rows : List Row)
    → AllByRecursion (λ k. int_eq id k ≡ false) (keys_of rows) → restaged (on_id id f) rows ≡ rows
missing_rows id f [] a = refl
missing_rows id f (r ∷ rows) a =
    ap (λ b. cons_option (row_at r (cond b (f r.1.class r.1.stage) (Some r.1.stage))) (restaged (on_id id f) rows)) a.0
    ∙ ap (λ z. r ∷ z) (missing_rows id f rows a.1)

-- the identifier has no row, or one that the operation leaves
abbrev pub LeavesStage : (Class → Stage → Option Stage) → Option Entry → Type 0
LeavesStage f None = Unit {0}
LeavesStage f (Some e) = f e.class e.stage ≡ Some e.stage

other_keys : (id k : ℤ) (ks : List ℤ) → int_eq id k ≡ true → AllByRecursion (λ n. int_eq k n ≡ false) ks
    → AllByRecursion (λ n. int_eq id n ≡ false) ks
other_keys id k ks e a =
    subst (λ (x : ℤ). AllByRecursion (λ n. int_eq x n ≡ false) ks) (sym ((Decides-int_eq id k).0 e)) a

module _ (id : ℤ) (f : Class → Stage → Option Stage) where
  -- one row before the others
  abbrev step : Row → Bool → List Row → List Row
  step r b rest = cons_option (row_at r (cond b (f r.1.class r.1.stage) (Some r.1.stage))) rest

  pub left_rows : (rows : List Row) → IsDistinct int_eq (keys_of rows) → LeavesStage f (entry_at rows id)
      → restaged (on_id id f) rows ≡ rows
  unfolding IsDistinct
  left_rows [] d l = refl
  left_rows (r ∷ rows) d l = go (int_eq id r.0) refl l (left_rows rows d.1)
    where
      go : (b : Bool) → int_eq id r.0 ≡ b → LeavesStage f (cond b (Some r.1) (entry_at rows id))
          → (LeavesStage f (entry_at rows id) → restaged (on_id id f) rows ≡ rows)
          → step r b (restaged (on_id id f) rows) ≡ r ∷ rows
      go true e l more = ap (λ o. cons_option (row_at r o) (restaged (on_id id f) rows)) l
          ∙ ap (λ z. r ∷ z) (missing_rows id f rows (other_keys id r.0 (keys_of rows) e d.0))
      go false e l more = ap (λ z. r ∷ z) (more l)

  pub freed_rows : (rows : List Row) (e : Entry) → IsDistinct int_eq (keys_of rows) → entry_at rows id ≡ Some e
      → f e.class e.stage ≡ None → restaged (on_id id f) rows ≡ without rows id
  unfolding IsDistinct
  freed_rows [] e d at none = absurd cc
  freed_rows (r ∷ rows) e d at none = go (int_eq id r.0) refl at (λ w. freed_rows rows e d.1 w none)
    where
      go : (b : Bool) → int_eq id r.0 ≡ b → cond b (Some r.1) (entry_at rows id) ≡ Some e
          → (entry_at rows id ≡ Some e → restaged (on_id id f) rows ≡ without rows id)
          → step r b (restaged (on_id id f) rows) ≡ cond b rows (r ∷ without rows id)
      go true q w more =
          let same : e ≡ r.1 = cc in
          ap (λ o. cons_option (row_at r o) (restaged (on_id id f) rows))
          (subst (λ (x : Entry). f x.class x.stage ≡ None) same none)
          ∙ missing_rows id f rows (other_keys id r.0 (keys_of rows) q d.0)
      go false q w more = ap (λ z. r ∷ z) (more w)

  pub moved_rows : (rows : List Row) (e : Entry) (s : Stage) → IsDistinct int_eq (keys_of rows)
      → entry_at rows id ≡ Some e → f e.class e.stage ≡ Some s → restaged (on_id id f) rows ≡ at_stage rows id e s
  unfolding IsDistinct
  moved_rows [] e s d at moved = absurd cc
  moved_rows (r ∷ rows) e s d at moved = go (int_eq id r.0) refl at (λ w. moved_rows rows e s d.1 w moved)
    where
      go : (b : Bool) → int_eq id r.0 ≡ b → cond b (Some r.1) (entry_at rows id) ≡ Some e
          → (entry_at rows id ≡ Some e → restaged (on_id id f) rows ≡ at_stage rows id e s)
          → step r b (restaged (on_id id f) rows) ≡ cond b ((r.0, record e { stage = s }) ∷ rows)
          (r ∷ at_stage rows id e s)
      go true q w more =
          let same : e ≡ r.1 = cc in
          ap (λ o. cons_option (row_at r o) (restaged (on_id id f) rows))
          (subst (λ (x : Entry). f x.class x.stage ≡ Some s) same moved)
          ∙ (ap (λ z. (r.0, record r.1 { stage = s }) ∷ z)
          (missing_rows id f rows (other_keys id r.0 (keys_of rows) q d.0))
          ∙ ap (λ (x : Entry). (r.0, record x { stage = s }) ∷ rows) (sym same))
      go false q w more = ap (λ z. r ∷ z) (more w)

-- ---- an operation after another listing

-- what an operation makes of a row, if there is one
abbrev pub then_restaged : Operation → Option Row → Option Row
then_restaged op None = None
then_restaged op (Some r) = restaged_row op r

pub restaged_listed : {X : Type 0} (op : Operation) (g : X → Option Row) (xs : List X)
    → restaged op (filter_map g xs) ≡ filter_map (λ x. then_restaged op (g x)) xs
restaged_listed op g [] = refl
restaged_listed op g (x ∷ xs) = go (g x) (restaged_listed op g xs)
  where
    rest : List Row
    rest = filter_map g xs

    go : (o : Option Row) → restaged op rest ≡ filter_map (λ x. then_restaged op (g x)) xs
        → restaged op (cons_option o rest) ≡ cons_option (then_restaged op o)
        (filter_map (λ x. then_restaged op (g x)) xs)
    go None e = e
    go (Some r) e = ap (cons_option (restaged_row op r)) e

-- the rows that pass a test of their stages
abbrev pub if_passing : (Stage → Bool) → Operation
if_passing test k class s = cond (test s) (Some s) None

pub passing_rows : (test : Stage → Bool) (rows : List Row)
    → filter (λ r. test r.1.stage) rows ≡ restaged (if_passing test) rows
passing_rows test [] = refl
passing_rows test (r ∷ rows) = go (test r.1.stage) (passing_rows test rows)
  where
    kept : List Row
    kept = filter (λ r. test r.1.stage) rows

    go : (b : Bool) → kept ≡ restaged (if_passing test) rows
        → cond b (r ∷ kept) kept ≡ cons_option (row_at r (cond b (Some r.1.stage) None))
        (restaged (if_passing test) rows)
    go true e = ap (λ z. r ∷ z) e
    go false e = e

-- ---- what an operation leaves distinct

all_restaged : (P : ℤ → Type 0) (op : Operation) (rows : List Row) → AllByRecursion P (keys_of rows)
    → AllByRecursion P (keys_of (restaged op rows))
all_restaged P op [] a = tt
all_restaged P op (r ∷ rows) a = go (op r.0 r.1.class r.1.stage) (all_restaged P op rows a.1)
  where
    go : (o : Option Stage) → AllByRecursion P (keys_of (restaged op rows))
        → AllByRecursion P (keys_of (cons_option (row_at r o) (restaged op rows)))
    go None ih = ih
    go (Some s) ih = (a.0, ih)

pub distinct_restaged : (op : Operation) (rows : List Row) → IsDistinct int_eq (keys_of rows)
    → IsDistinct int_eq (keys_of (restaged op rows))
unfolding IsDistinct
distinct_restaged op [] d = tt
distinct_restaged op (r ∷ rows) d = go (op r.0 r.1.class r.1.stage) (distinct_restaged op rows d.1)
  where
    go : (o : Option Stage) → IsDistinct int_eq (keys_of (restaged op rows))
        → IsDistinct int_eq (keys_of (cons_option (row_at r o) (restaged op rows)))
    go None ih = ih
    go (Some s) ih = (all_restaged (λ k. int_eq r.0 k ≡ false) op rows d.0, ih)
