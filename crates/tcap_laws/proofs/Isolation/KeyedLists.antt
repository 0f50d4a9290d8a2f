-- Values in the order of their keys, of which some are left out, are those that are left, in order.
use Rattle.std.proofs.Common.{◌≡◌, ◌==◌, ℕ, Bool, true, false, cond, ◌&&◌, ◌||◌, nat_lt}
use Rattle.std.proofs.Common.{List, [], ◌∷◌, refl, sym, ap, ◌∙◌, inl, inr, arith}
use Rattle.std.proofs.lemmas.Bool.{or_cases, or_parts, eq-eqb, eqb-true, ltb-false, ltb-true, le-ltb, true≢false}
use Rattle.std.specs.Prelude.{filter}
use Rattle.tcap_invocation.specs.Order.{put_by, in_order_by}
use Rattle.tcap_invocation.proofs.CallerLemmas.{Ahead, Ordered, ahead_later, ordered_in_order}
use Rattle.tcap_model.specs.Words.KeyOrder.{comes_before, key_before, in_order}

-- ---- the order of keys

and_parts : (a b : Bool) → (a && b) ≡ true → (a ≡ true) × (b ≡ true)
and_parts true b e = (refl, e)
and_parts false b e = absurd (true≢false (sym e))

pub and_not : (a b : Bool) → (a && b) ≡ false → a ≡ true → b ≡ false
and_not true b e q = e
and_not false b e q = absurd (true≢false (sym q))

not_and : (a b : Bool) → (a ≡ true → b ≡ false) → (a && b) ≡ false
not_and true b h = h refl
not_and false b h = refl

neither : (a b : Bool) → a ≡ false → b ≡ false → (a || b) ≡ false
neither a b p q = rw (p, q) refl

pub asym : (a b : List ℕ) → comes_before b a ≡ true → comes_before a b ≡ false
asym [] [] e = refl
asym [] (n ∷ ns) e = absurd (true≢false (sym e))
asym (m ∷ ms) [] e = refl
asym (m ∷ ms) (n ∷ ns) e = elim (or_cases (nat_lt n m) ((n == m) && comes_before ns ms) e) [
  | inl less ↦
      let lt = ltb-true n m less in
      neither (nat_lt m n) ((m == n) && comes_before ms ns) (le-ltb m n (omega (arith, lt)))
      (not_and (m == n) (comes_before ms ns) (λ same. let is = eqb-true m n same in absurd (omega (arith, lt, is))))
  | inr more ↦
      let both = and_parts (n == m) (comes_before ns ms) more in
      let is = eqb-true n m both.0 in
      neither (nat_lt m n) ((m == n) && comes_before ms ns) (le-ltb m n (omega (arith, is)))
      (not_and (m == n) (comes_before ms ns) (λ same. asym ms ns both.1))
]

-- what isn't before, and the first number of it
pub trans : (a b c : List ℕ) → comes_before b a ≡ false → comes_before c b ≡ false → comes_before c a ≡ false
trans [] b [] p q = refl
trans [] b (l ∷ ls) p q = refl
trans (m ∷ ms) [] c p q = absurd (true≢false p)
trans (m ∷ ms) (n ∷ ns) [] p q = absurd (true≢false q)
trans (m ∷ ms) (n ∷ ns) (l ∷ ls) p q =
    let first = or_parts (nat_lt n m) ((n == m) && comes_before ns ms) p in
    let second = or_parts (nat_lt l n) ((l == n) && comes_before ls ns) q in
    let low = ltb-false n m first.0 in
    let high = ltb-false l n second.0 in
    neither (nat_lt l m) ((l == m) && comes_before ls ms) (le-ltb l m (omega (arith, low, high)))
    (not_and (l == m) (comes_before ls ms) (λ same.
    let is = eqb-true l m same in
    trans ms ns ls
    (and_not (n == m) (comes_before ns ms) first.1 (eq-eqb n m (omega (arith, low, high, is))))
    (and_not (l == n) (comes_before ls ns) second.1 (eq-eqb l n (omega (arith, low, high, is))))))

-- ---- some left out

module _ {A : Type 0} (before : A → A → Bool) (once : (a b : A) → before a b ≡ true → before b a ≡ false)
    (behind : (a b c : A) → before b a ≡ false → before c b ≡ false → before c a ≡ false) (own : A → Bool) where
  put-first : (x : A) (ys : List A) → Ahead before x ys → put_by before x ys ≡ x ∷ ys
  put-first x [] ahead = refl
  put-first x (y ∷ ys) ahead = ap (λ b. cond b (y ∷ put_by before x ys) (x ∷ y ∷ ys)) ahead.0

  filter-ahead : (x : A) (ys : List A) → Ahead before x ys → Ahead before x (filter own ys)
  filter-ahead x [] ahead = tt
  filter-ahead x (y ∷ ys) ahead = go (own y) (filter-ahead x ys ahead.1)
    where
      go : (b : Bool) → Ahead before x (filter own ys) → Ahead before x (cond b (y ∷ filter own ys) (filter own ys))
      go true ih = (ahead.0, ih)
      go false ih = ih

  put-kept : (x : A) (ys : List A) → own x ≡ true → Ordered before ys
      → filter own (put_by before x ys) ≡ put_by before x (filter own ys)
  put-kept x [] e ordered = ap (λ b. cond b (x ∷ []) []) e
  put-kept x (y ∷ ys) e ordered = go (before y x) refl (put-kept x ys e ordered.1)
    where
      kept : (b : Bool) → before y x ≡ true → filter own (put_by before x ys) ≡ put_by before x (filter own ys)
          → cond b (y ∷ filter own (put_by before x ys)) (filter own (put_by before x ys))
          ≡ put_by before x (cond b (y ∷ filter own ys) (filter own ys))
      kept true q ih =
          ap (λ (l : List A). y ∷ l) ih
          ∙ sym (ap (λ b. cond b (y ∷ put_by before x (filter own ys)) (x ∷ y ∷ filter own ys)) q)
      kept false q ih = ih

      go : (b : Bool) → before y x ≡ b → filter own (put_by before x ys) ≡ put_by before x (filter own ys)
          → filter own (cond b (y ∷ put_by before x ys) (x ∷ y ∷ ys)) ≡ put_by before x (filter own (y ∷ ys))
      go true q ih = kept (own y) q ih
      go false q ih =
          ap (λ b. cond b (x ∷ filter own (y ∷ ys)) (filter own (y ∷ ys))) e
          ∙ sym (put-first x (filter own (y ∷ ys))
          (filter-ahead x (y ∷ ys) (q, ahead_later before once behind x y ys q ordered.0)))

  put-left : (x : A) (ys : List A) → own x ≡ false → filter own (put_by before x ys) ≡ filter own ys
  put-left x [] e = ap (λ b. cond b (x ∷ []) []) e
  put-left x (y ∷ ys) e = go (before y x) (put-left x ys e)
    where
      go : (b : Bool) → filter own (put_by before x ys) ≡ filter own ys
          → filter own (cond b (y ∷ put_by before x ys) (x ∷ y ∷ ys)) ≡ filter own (y ∷ ys)
      go true ih = ap (λ (l : List A). cond (own y) (y ∷ l) l) ih
      go false ih = ap (λ b. cond b (x ∷ filter own (y ∷ ys)) (filter own (y ∷ ys))) e

  filter-in_order_by : (xs : List A) → filter own (in_order_by before xs) ≡ in_order_by before (filter own xs)
  filter-in_order_by [] = refl
  filter-in_order_by (x ∷ xs) = go (own x) refl (filter-in_order_by xs)
    where
      go : (b : Bool) → own x ≡ b → filter own (in_order_by before xs) ≡ in_order_by before (filter own xs)
          → filter own (put_by before x (in_order_by before xs))
          ≡ in_order_by before (cond b (x ∷ filter own xs) (filter own xs))
      go true e ih =
          put-kept x (in_order_by before xs) e (ordered_in_order before once behind xs) ∙ ap (put_by before x) ih
      go false e ih = put-left x (in_order_by before xs) e ∙ ih

pub filter-in_order : {X : Type 0} (key : X → List ℕ) (own : X → Bool) (xs : List X)
    → filter own (in_order key xs) ≡ in_order key (filter own xs)
filter-in_order key own xs =
    filter-in_order_by (key_before key) (λ a b e. asym (key b) (key a) e)
    (λ a b c p q. trans (key a) (key b) (key c) p q) own xs
