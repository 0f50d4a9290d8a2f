-- The walk over the places of the heap: what is left at each step.
use Rattle.std.proofs.Common.{◌≡◌, ◌≢◌, ℕ, zero, suc, ◌+◌, ◌-◌, ◌*◌, ◌/◌, ◌%◌, ◌<◌, ◌≤◌, ◌⊎◌, inl, inr, List, [], ◌∷◌, ◌++◌, length, Bool, true, false, cond, nat_eq, nat_lt, ◌&&◌, Option, refl, sym, ap, ◌∙◌, arith, rules, tests}
use Rattle.std.proofs.lemmas.Bool.{cases_eq, cases_Bool}
use Rattle.std.proofs.lemmas.List.{append_assoc, append-nil}
use Rattle.timer_queue.specs.declared.timer.Timer.{Timer}
use Rattle.timer_queue.specs.Heap.{key_at}
use Rattle.timer_queue.specs.Order.{is_due}
use Rattle.timer_queue.specs.Due.{is_due_place, downwards, below_place, upwards, after_place, from_place}

-- Of an odd place the one above is that of the place to its right, which isn't odd.
right-above : (c : ℕ) → c % 2 ≡ 1 → (c + 1 - 1) / 2 ≡ (c - 1) / 2
right-above c e = omega (arith, e)

right-even : (c : ℕ) → c % 2 ≡ 1 → nat_eq ((c + 1) % 2) 1 ≡ false
right-even c e = go (cases_Bool (nat_eq ((c + 1) % 2) 1))
  where
    go : (nat_eq ((c + 1) % 2) 1 ≡ true) ⊎ (nat_eq ((c + 1) % 2) 1 ≡ false) → nat_eq ((c + 1) % 2) 1 ≡ false
    go (inl h) = let k : (c + 1) % 2 ≡ 1 = grind (arith, tests, h) in absurd (omega (arith, e, k))
    go (inr h) = h

above-lower : (c : ℕ) → c ≢ 0 → (c - 1) / 2 < c
above-lower c n = omega (arith, n)

module _ (passes : ℕ → Bool) (len : ℕ) (within : (p : ℕ) → passes p ≡ true → p < len) where
  past : (p : ℕ) → len ≤ p → passes p ≡ false
  past p le = go (cases_Bool (passes p))
    where
      go : (passes p ≡ true) ⊎ (passes p ≡ false) → passes p ≡ false
      go (inl h) = let lt = within p h in absurd (omega (arith, le, lt))
      go (inr h) = h

  downwards-past : (depth p : ℕ) → len ≤ p → downwards passes depth p ≡ []
  downwards-past zero p le = refl
  downwards-past (suc depth) p le = rw (past p le) refl

  -- Deeper than the heap is nothing more.
  deeper : (depth p : ℕ) → len ≤ depth + p → downwards passes depth p ≡ downwards passes (suc depth) p
  deeper zero p le = sym (downwards-past 1 p (omega (arith, le)))
  deeper (suc depth) p le =
      let left = deeper depth (2 * p + 1) (omega (arith, le)) in
      let right = deeper depth (2 * p + 2) (omega (arith, le)) in
      ap (λ (l : List ℕ). cond (passes p) (p ∷ (l ++ downwards passes depth (2 * p + 2))) []) left
      ∙ ap (λ (l : List ℕ). cond (passes p) (p ∷ (downwards passes (suc depth) (2 * p + 1) ++ l)) []) right

  pub here-true : (p : ℕ) → passes p ≡ true → downwards passes len p ≡ p ∷ below_place passes len p
  here-true p e = deeper len p (omega arith) ∙ ap (λ b. cond b (p ∷ below_place passes len p) []) e

  pub here-false : (p : ℕ) → passes p ≡ false → downwards passes len p ≡ []
  here-false p e = deeper len p (omega arith) ∙ ap (λ b. cond b (p ∷ below_place passes len p) []) e

  -- Higher than the first place is nothing more.
  higher : (height p : ℕ) → p < height → upwards passes len height p ≡ upwards passes len (suc height) p
  higher zero p lt = absurd (omega (arith, lt))
  higher (suc height) p lt = go (cases_eq p 0) (higher height ((p - 1) / 2))
    where
      go : (p ≡ 0) ⊎ (p ≢ 0) → ((p - 1) / 2 < height → upwards passes len height ((p - 1) / 2) ≡ upwards passes len (suc height) ((p - 1) / 2))
          → upwards passes len (suc height) p ≡ upwards passes len (suc (suc height)) p
      go (inl e) ih = rw e refl
      go (inr n) ih =
          let lower = above-lower p n in
          ap (λ (l : List ℕ). cond (nat_eq p 0) [] (cond (nat_eq (p % 2) 1) (downwards passes len (p + 1)) [] ++ l)) (ih (omega (arith, lower, lt)))

  level : (height p : ℕ) → p < height → upwards passes len height p ≡ after_place passes len p
  level zero p lt = absurd (omega (arith, lt))
  level (suc height) p lt = go (cases_eq p height) (level height p)
    where
      go : (p ≡ height) ⊎ (p ≢ height) → (p < height → upwards passes len height p ≡ after_place passes len p) → upwards passes len (suc height) p ≡ after_place passes len p
      go (inl e) ih = ap (λ h. upwards passes len (suc h) p) (sym e)
      go (inr n) ih = let low : p < height = omega (arith, lt, n) in sym (higher height p low) ∙ ih low

  pub after-odd : (c : ℕ) → nat_eq c 0 ≡ false → nat_eq (c % 2) 1 ≡ true → after_place passes len c ≡ downwards passes len (c + 1) ++ after_place passes len ((c - 1) / 2)
  after-odd c e odd =
      let n : c ≢ 0 = λ z. grind (arith, tests, e, z) in
      ap (λ b. cond b [] (cond (nat_eq (c % 2) 1) (downwards passes len (c + 1)) [] ++ upwards passes len c ((c - 1) / 2))) e
      ∙ ap (λ b. cond b (downwards passes len (c + 1)) [] ++ upwards passes len c ((c - 1) / 2)) odd
      ∙ ap (λ (l : List ℕ). downwards passes len (c + 1) ++ l) (level c ((c - 1) / 2) (above-lower c n))

  pub after-even : (c : ℕ) → nat_eq c 0 ≡ false → nat_eq (c % 2) 1 ≡ false → after_place passes len c ≡ after_place passes len ((c - 1) / 2)
  after-even c e even =
      let n : c ≢ 0 = λ z. grind (arith, tests, e, z) in
      ap (λ b. cond b [] (cond (nat_eq (c % 2) 1) (downwards passes len (c + 1)) [] ++ upwards passes len c ((c - 1) / 2))) e
      ∙ ap (λ b. cond b (downwards passes len (c + 1)) [] ++ upwards passes len c ((c - 1) / 2)) even
      ∙ level c ((c - 1) / 2) (above-lower c n)

  pub after-right : (c : ℕ) → nat_eq (c % 2) 1 ≡ true → after_place passes len (c + 1) ≡ after_place passes len ((c - 1) / 2)
  after-right c odd =
      let one : c % 2 ≡ 1 = grind (arith, tests, odd) in
      let some : nat_eq (c + 1) 0 ≡ false = grind (arith, tests) in
      after-even (c + 1) some (right-even c one) ∙ ap (after_place passes len) (right-above c one)

  pub from-true : (p : ℕ) → passes p ≡ true → from_place passes len p ≡ downwards passes len p ++ after_place passes len p
  from-true p e =
      let lt = within p e in
      let there : nat_lt p len ≡ true = grind (arith, tests, lt) in
      ap (λ b. cond b (p ∷ (below_place passes len p ++ after_place passes len p)) []) there ∙ ap (λ (l : List ℕ). l ++ after_place passes len p) (sym (here-true p e))

  pub from-end : from_place passes len len ≡ []
  from-end = let past : nat_lt len len ≡ false = grind (arith, tests) in rw past refl

  pub from-first : passes 0 ≡ true → from_place passes len 0 ≡ downwards passes len 0
  from-first e = from-true 0 e ∙ append-nil (downwards passes len 0)

  -- What comes after a place, if it is not that to its right.
  pub later-right : (c : ℕ) → nat_eq c 0 ≡ false → nat_eq (c % 2) 1 ≡ true → passes (c + 1) ≡ true → from_place passes len (c + 1) ≡ after_place passes len c
  later-right c some odd e =
      from-true (c + 1) e ∙ ap (λ (l : List ℕ). downwards passes len (c + 1) ++ l) (after-right c odd) ∙ sym (after-odd c some odd)

  pub later-above : (c : ℕ) → nat_eq c 0 ≡ false → nat_eq (c % 2) 1 ≡ true → passes (c + 1) ≡ false → after_place passes len ((c - 1) / 2) ≡ after_place passes len c
  later-above c some odd e = sym (after-odd c some odd ∙ ap (λ (l : List ℕ). l ++ after_place passes len ((c - 1) / 2)) (here-false (c + 1) e))

  -- What is left after a place with one below, and after one with none.
  pub below-left : (p : ℕ) → downwards passes len (2 * p + 1) ++ after_place passes len (2 * p + 1) ≡ below_place passes len p ++ after_place passes len p
  below-left p =
      let some : nat_eq (2 * p + 1) 0 ≡ false = grind (arith, tests) in
      let rest : (2 * p + 1) % 2 ≡ 1 = omega arith in
      let odd : nat_eq ((2 * p + 1) % 2) 1 ≡ true = grind (arith, tests, rest) in
      let above : (2 * p + 1 - 1) / 2 ≡ p = omega arith in
      let right : 2 * p + 1 + 1 ≡ 2 * p + 2 = omega arith in
      let after : after_place passes len (2 * p + 1) ≡ downwards passes len (2 * p + 2) ++ after_place passes len p =
      after-odd (2 * p + 1) some odd ∙ ap (λ c. downwards passes len c ++ after_place passes len ((2 * p + 1 - 1) / 2)) right ∙ ap (λ c. downwards passes len (2 * p + 2) ++ after_place passes len c) above in
      ap (λ (l : List ℕ). downwards passes len (2 * p + 1) ++ l) after
      ∙ sym (append_assoc (downwards passes len (2 * p + 1)) (downwards passes len (2 * p + 2)) (after_place passes len p))

  pub below-none : (p : ℕ) → len ≤ 2 * p + 1 → after_place passes len p ≡ below_place passes len p ++ after_place passes len p
  below-none p le =
      let left = downwards-past len (2 * p + 1) le in
      let right = downwards-past len (2 * p + 2) (omega (arith, le)) in
      sym (ap (λ (l : List ℕ). (l ++ downwards passes len (2 * p + 2)) ++ after_place passes len p) left ∙ ap (λ (l : List ℕ). l ++ after_place passes len p) right)

-- A place that is due is in the heap.
pub due-within : (moment : ℕ) (heap : List ℕ) (timers : List (Option Timer)) (p : ℕ) → is_due_place moment heap timers p ≡ true → p < length heap
due-within moment heap timers p h = grind (arith, tests, and_cases_true (nat_lt p (length heap)) (is_due moment (key_at timers heap p)) h)
  where
    and_cases_true : (x y : Bool) → (x && y) ≡ true → x ≡ true
    and_cases_true true y e = refl
    and_cases_true false y e = absurd (search (e, rules))
