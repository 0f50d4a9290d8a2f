-- The sort by insertion of a list that is put together, and what is first in it.
use Rattle.std.proofs.Common.{◌≡◌, Bool, true, false, cond, List, [], ◌∷◌, ◌++◌, Option, Some, None, refl, ap, sym, ◌∙◌}
use Rattle.tcap_invocation.specs.Order.{put_by, in_order_by, first_of}
use Rattle.tcap_invocation.proofs.CallerLemmas.{Ordered, front, first_of-put}

module _ {X : Type 0} (before : X → X → Bool) where
  -- the elements of a list in their places, one by one
  abbrev pub put_all : List X → List X → List X
  put_all [] zs = zs
  put_all (x ∷ xs) zs = put_by before x (put_all xs zs)

  pub in_order-append : (xs ys : List X) → in_order_by before (xs ++ ys) ≡ put_all xs (in_order_by before ys)
  in_order-append [] ys = refl
  in_order-append (x ∷ xs) ys = ap (put_by before x) (in_order-append xs ys)

  -- of two elements, where there are any, the one that comes first
  abbrev pub front_of : Option X → Option X → Option X
  front_of None o = o
  front_of (Some x) o = Some (front before x o)

  -- what is put in and comes out first is put before all
  pub put-first : ((a : X) → before a a ≡ false) → (x : X) (zs : List X) → first_of (put_by before x zs) ≡ Some x → put_by before x zs ≡ x ∷ zs
  put-first never x [] e = refl
  put-first never x (z ∷ zs) e = go (before z x) refl e
    where
      go : (b : Bool) → before z x ≡ b → first_of (cond b (z ∷ put_by before x zs) (x ∷ z ∷ zs)) ≡ Some x → cond b (z ∷ put_by before x zs) (x ∷ z ∷ zs) ≡ x ∷ z ∷ zs
      go false p e = refl
      go true p e =
          let same : z ≡ x = cc in
          let not : before z x ≡ false = ap (λ y. before y x) same ∙ never x in
          absurd cc

  module _ (once : (a b : X) → before a b ≡ true → before b a ≡ false) (behind : (a b c : X) → before b a ≡ false → before c b ≡ false → before c a ≡ false) (through : (a b c : X) → before a b ≡ true → before b c ≡ true → before a c ≡ true) where
    -- two elements of which one comes before the other may be put in either way
    pub put-put : (x y : X) (zs : List X) → before y x ≡ true → put_by before y (put_by before x zs) ≡ put_by before x (put_by before y zs)
    put-put x y [] h = rw (once y x h, h) refl
    put-put x y (z ∷ zs) h = go (before z x) (before z y) refl refl (put-put x y zs h)
      where
        go : (p q : Bool) → before z x ≡ p → before z y ≡ q → put_by before y (put_by before x zs) ≡ put_by before x (put_by before y zs)
            → put_by before y (cond p (z ∷ put_by before x zs) (x ∷ z ∷ zs)) ≡ put_by before x (cond q (z ∷ put_by before y zs) (y ∷ z ∷ zs))
        go true true d e ih = rw (d, e) (ap (λ (l : List X). z ∷ l) ih)
        go true false d e ih = rw (e, h, d) refl
        go false true d e ih = let t = through z y x e h in absurd cc
        go false false d e ih = rw (once y x h, h, d) refl

    pub put_all-put : (x : X) (ys zs : List X) → put_all (put_by before x ys) zs ≡ put_by before x (put_all ys zs)
    put_all-put x [] zs = refl
    put_all-put x (y ∷ ys) zs = go (before y x) refl (put_all-put x ys zs)
      where
        go : (b : Bool) → before y x ≡ b → put_all (put_by before x ys) zs ≡ put_by before x (put_all ys zs)
            → put_all (cond b (y ∷ put_by before x ys) (x ∷ y ∷ ys)) zs ≡ put_by before x (put_by before y (put_all ys zs))
        go true h ih = ap (put_by before y) ih ∙ put-put x y (put_all ys zs) h
        go false h ih = refl

    -- what is in order already is put in as before
    pub put_all-in_order : (xs zs : List X) → put_all (in_order_by before xs) zs ≡ put_all xs zs
    put_all-in_order [] zs = refl
    put_all-in_order (x ∷ xs) zs = put_all-put x (in_order_by before xs) zs ∙ ap (put_by before x) (put_all-in_order xs zs)

    -- the first of three is found in either way
    pub front_of-assoc : (a b c : Option X) → front_of (front_of a b) c ≡ front_of a (front_of b c)
    front_of-assoc None b c = refl
    front_of-assoc (Some x) None c = refl
    front_of-assoc (Some x) (Some y) None = refl
    front_of-assoc (Some x) (Some y) (Some z) = ap Some (go (before z y) (before y x) (before z x) refl refl refl)
      where
        go : (p q r : Bool) → before z y ≡ p → before y x ≡ q → before z x ≡ r → front before (cond q y x) (Some z) ≡ front before x (Some (cond p z y))
        go true true true d e f = rw (d, f) refl
        go true true false d e f = let t = through z y x d e in absurd cc
        go true false r d e f = refl
        go false true r d e f = rw (d, e) refl
        go false false true d e f = let t = behind x y z e d in absurd cc
        go false false false d e f = rw (f, e) refl

    -- what is first of a list in order and another one
    pub first-put_all : (xs zs : List X) → Ordered before xs → first_of (put_all xs zs) ≡ front_of (first_of xs) (first_of zs)
    first-put_all [] zs o = refl
    first-put_all (x ∷ []) zs o = first_of-put before x zs
    first-put_all (x ∷ y ∷ ys) zs o =
        let rest : first_of (put_all (y ∷ ys) zs) ≡ front_of (Some y) (first_of zs) = first-put_all (y ∷ ys) zs o.1 in
        first_of-put before x (put_all (y ∷ ys) zs) ∙ ap (front_of (Some x)) rest ∙ sym (front_of-assoc (Some x) (Some y) (first_of zs)) ∙ ap (λ b. front_of (Some (cond b y x)) (first_of zs)) o.0.0
