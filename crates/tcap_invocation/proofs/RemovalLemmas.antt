-- One row is taken out: what is told of the others stays as it is.
use Rattle.std.proofs.Common.{◌≡◌, ℕ, ℤ, ◌+◌, ◌≤◌, Bool, true, false, cond, List, [], ◌∷◌, length, Option, Some, None, refl, ap, sym, subst, ◌∙◌, arith}
use Rattle.std.specs.Prelude.{filter_map}
use Rattle.std.specs.List.{AllByRecursion, IsDistinct, cons_option}
use Rattle.std.specs.Map.{keys_of, lookup, remove_entry}
use Rattle.std.specs.Ordering.{int_eq}
use Rattle.std.proofs.lemmas.Bool.Decides.{Decides-int_eq}
use Rattle.std.proofs.lemmas.Cmp.{int_eq_equiv}
use Rattle.std.proofs.lemmas.Map.Keys.{IsDistinct-head, IsDistinct-tail}
use Rattle.tcap_invocation.specs.declared.invocations.Invocation.{Invocation}
use Rattle.tcap_invocation.specs.Invocations.{Row, without}
use Rattle.tcap_invocation.proofs.InsertionLemmas.{total}

-- a test of identifiers that are one
own : (a b : ℤ) → a ≡ b → int_eq a b ≡ true
own a b same = (Decides-int_eq a b).1 same

some-same : {Y : Type 0} (x y : Y) → Some x ≡ Some y → x ≡ y
some-same x y e = cc

-- what is told of a row, if anything, names the row's identifier
module _ {Y : Type 0} (f : Row → Option Y) (name : Y → ℤ) (named : (r : Row) (y : Y) → f r ≡ Some y → name y ≡ r.0) where
  -- what is told of the invocation that an identifier has
  abbrev pub told_of : ℤ → Option Invocation → Option Y
  told_of id None = None
  told_of id (Some e) = f (id, e)

  -- an identifier that no row has is not told
  apart : (id : ℤ) (rows : List Row) → AllByRecursion (λ k. int_eq id k ≡ false) (keys_of rows) → AllByRecursion (λ y. int_eq (name y) id ≡ false) (filter_map f rows)
  apart id [] h = tt
  apart id (r ∷ rs) h = go (f r) refl (apart id rs h.1)
    where
      go : (o : Option Y) → f r ≡ o → AllByRecursion (λ y. int_eq (name y) id ≡ false) (filter_map f rs) → AllByRecursion (λ y. int_eq (name y) id ≡ false) (cons_option o (filter_map f rs))
      go None e rest = rest
      go (Some y) e rest = (ap (λ n. int_eq n id) (named r y e) ∙ int_eq_equiv.symm r.0 id ∙ h.0, rest)

  -- what is told is told of the invocation that has its identifier
  abbrev IsOwn : List Row → Y → Type 0
  IsOwn rows y = told_of (name y) (lookup (int_eq (name y)) rows) ≡ Some y

  own-more : (r : Row) (rs : List Row) (ys : List Y) → AllByRecursion (λ y. int_eq (name y) r.0 ≡ false) ys → AllByRecursion (IsOwn rs) ys → AllByRecursion (IsOwn (r ∷ rs)) ys
  own-more r rs [] a h = tt
  own-more r rs (y ∷ ys) a h = (ap (λ b. told_of (name y) (cond b (Some r.1) (lookup (int_eq (name y)) rs))) a.0 ∙ h.0, own-more r rs ys a.1 h.1)

  pub told-own : (rows : List Row) → IsDistinct int_eq (keys_of rows) → AllByRecursion (IsOwn rows) (filter_map f rows)
  told-own [] d = tt
  told-own (r ∷ rs) d =
      go (f r) refl (own-more r rs (filter_map f rs) (apart r.0 rs (IsDistinct-head int_eq r.0 (keys_of rs) d)) (told-own rs (IsDistinct-tail int_eq r.0 (keys_of rs) d)))
    where
      go : (o : Option Y) → f r ≡ o → AllByRecursion (IsOwn (r ∷ rs)) (filter_map f rs) → AllByRecursion (IsOwn (r ∷ rs)) (cons_option o (filter_map f rs))
      go None e rest = rest
      go (Some y) e rest =
          let is : name y ≡ r.0 = named r y e in
          (ap (λ b. told_of (name y) (cond b (Some r.1) (lookup (int_eq (name y)) rs))) (own (name y) r.0 is) ∙ ap (λ n. f (n, r.1)) is ∙ e, rest)

  -- ---- without an identifier

  pub removed-all : (P : Y → Type 0) (test : ℤ → Bool) (rows : List Row) → AllByRecursion P (filter_map f rows) → AllByRecursion P (filter_map f (remove_entry test rows))
  removed-all P test [] h = tt
  removed-all P test (r ∷ rs) h = go (test r.0) (f r) refl (removed-all P test rs) h
    where
      go : (b : Bool) (o : Option Y) → f r ≡ o → (AllByRecursion P (filter_map f rs) → AllByRecursion P (filter_map f (remove_entry test rs)))
          → AllByRecursion P (cons_option o (filter_map f rs)) → AllByRecursion P (filter_map f (cond b rs (r ∷ remove_entry test rs)))
      go true None e rest h = h
      go true (Some y) e rest h = h.1
      go false None e rest h = rw e (rest h)
      go false (Some y) e rest h = rw e (h.0, rest h.1)

  -- what is told of the others, counted
  pub removed-total : (t : Y → ℕ) (id : ℤ) (y : Y) (rows : List Row) → told_of id (lookup (int_eq id) rows) ≡ Some y → total t (filter_map f rows) ≡ t y + total t (filter_map f (without rows id))
  removed-total t id y [] h = absurd cc
  removed-total t id y (r ∷ rs) h = go (int_eq id r.0) refl h (removed-total t id y rs)
    where
      here : (o : Option Y) → o ≡ Some y → total t (cons_option o (filter_map f rs)) ≡ t y + total t (filter_map f rs)
      here None e = absurd cc
      here (Some x) e = ap (λ (z : Y). t z + total t (filter_map f rs)) (some-same x y e)

      there : (o : Option Y) → total t (filter_map f rs) ≡ t y + total t (filter_map f (without rs id)) → total t (cons_option o (filter_map f rs)) ≡ t y + total t (cons_option o (filter_map f (without rs id)))
      there None e = e
      there (Some x) e = omega (arith, e)

      go : (b : Bool) → int_eq id r.0 ≡ b → told_of id (cond b (Some r.1) (lookup (int_eq id) rs)) ≡ Some y
          → (told_of id (lookup (int_eq id) rs) ≡ Some y → total t (filter_map f rs) ≡ t y + total t (filter_map f (without rs id)))
          → total t (filter_map f (r ∷ rs)) ≡ t y + total t (filter_map f (cond b rs (r ∷ without rs id)))
      go true e h rest = here (f r) (ap (λ n. f (n, r.1)) (sym ((Decides-int_eq id r.0).0 e)) ∙ h)
      go false e h rest = there (f r) (rest h)

  -- without the identifier of the first that is told, the others are told
  pub removed-first : (y : Y) (ys : List Y) (rows : List Row) → IsDistinct int_eq (keys_of rows) → filter_map f rows ≡ y ∷ ys → filter_map f (without rows (name y)) ≡ ys
  removed-first y ys [] d h = absurd cc
  removed-first y ys (r ∷ rs) d h =
      go (f r) refl (apart r.0 rs (IsDistinct-head int_eq r.0 (keys_of rs) d)) (removed-first y ys rs (IsDistinct-tail int_eq r.0 (keys_of rs) d)) h
    where
      head-is : (x : Y) (xs : List Y) → x ∷ xs ≡ y ∷ ys → x ≡ y
      head-is x xs e = cc

      tail-is : (x : Y) (xs : List Y) → x ∷ xs ≡ y ∷ ys → xs ≡ ys
      tail-is x xs e = cc

      here : (b : Bool) → b ≡ true → filter_map f rs ≡ ys → filter_map f (cond b rs (r ∷ without rs (name y))) ≡ ys
      here true e h = h
      here false e h = absurd cc

      there : (b : Bool) → b ≡ false → f r ≡ None → filter_map f (without rs (name y)) ≡ ys → filter_map f (cond b rs (r ∷ without rs (name y))) ≡ ys
      there true e n h = absurd cc
      there false e n h = ap (λ o. cons_option o (filter_map f (without rs (name y)))) n ∙ h

      go : (o : Option Y) → f r ≡ o → AllByRecursion (λ z. int_eq (name z) r.0 ≡ false) (filter_map f rs) → (filter_map f rs ≡ y ∷ ys → filter_map f (without rs (name y)) ≡ ys)
          → cons_option o (filter_map f rs) ≡ y ∷ ys → filter_map f (without (r ∷ rs) (name y)) ≡ ys
      go None e a rest h =
          let other : int_eq (name y) r.0 ≡ false = (subst (AllByRecursion (λ z. int_eq (name z) r.0 ≡ false)) h a).0 in
          there (int_eq (name y) r.0) other e (rest h)
      go (Some x) e a rest h =
          let same : name y ≡ r.0 = ap name (sym (head-is x (filter_map f rs) h)) ∙ named r x e in
          here (int_eq (name y) r.0) (own (name y) r.0 same) (tail-is x (filter_map f rs) h)

-- taking out a row lengthens nothing
module _ {Y : Type 0} (f : Row → Option Y) (test : ℤ → Bool) where
  pub length-removed : (rows : List Row) → length (filter_map f (remove_entry test rows)) ≤ length (filter_map f rows)
  length-removed [] = omega arith
  length-removed (r ∷ rs) = go (test r.0) (f r) refl (length-removed rs)
    where
      go : (b : Bool) (o : Option Y) → f r ≡ o → length (filter_map f (remove_entry test rs)) ≤ length (filter_map f rs)
          → length (filter_map f (cond b rs (r ∷ remove_entry test rs))) ≤ length (filter_map f (r ∷ rs))
      go true None e h = rw e (omega arith)
      go true (Some y) e h = rw e (omega arith)
      go false None e h = rw e h
      go false (Some y) e h = rw e (omega (arith, h))
