-- What a caller cites of the timers.
use Rattle.std.proofs.Common.{◌≡◌, ◌⊎◌, inl, inr, ℕ, zero, suc, ◌+◌, Bool, true, false, cond, List, [], ◌∷◌, ◌++◌, map, filter, Option, None, refl, sym, ap, ◌∙◌, zero-add}
use Rattle.std.proofs.lemmas.Bool.{cases_Bool}
use Rattle.std.proofs.lemmas.List.Sums.{sum_by-cons}
use Rattle.std.specs.List.{sum_by}
use Rattle.timer_queue.specs.declared.timer.Timer.{Timer}
use Rattle.timer_queue.specs.Order.{timer_at}

-- An item that was added has no timer, and the others have theirs.
pub timer-push : (timers : List (Option Timer)) (i : ℕ) → timer_at (timers ++ None ∷ []) i ≡ timer_at timers i
timer-push [] zero = refl
timer-push [] (suc i) = refl
timer-push (t ∷ ts) zero = refl
timer-push (t ∷ ts) (suc i) = timer-push ts i

-- What a weight sums to over a list that was mapped, and over one that was filtered.
pub sum_by-map : {X Y : Type 0} (f : Y → ℕ) (g : X → Y) (xs : List X) → sum_by f (map g xs) ≡ sum_by (λ x. f (g x)) xs
sum_by-map f g [] = refl
sum_by-map f g (x ∷ xs) = sum_by-cons f (g x) (map g xs) ∙ ap (λ n. f (g x) + n) (sum_by-map f g xs) ∙ sym (sum_by-cons (λ y. f (g y)) x xs)

pub sum_by-filter : {X : Type 0} (f : X → ℕ) (p : X → Bool) (xs : List X) → sum_by f (filter p xs) ≡ sum_by (λ x. cond (p x) (f x) 0) xs
sum_by-filter f p [] = refl
sum_by-filter f p (x ∷ xs) = go (cases_Bool (p x)) (sum_by-filter f p xs)
  where
    go : (p x ≡ true) ⊎ (p x ≡ false) → sum_by f (filter p xs) ≡ sum_by (λ y. cond (p y) (f y) 0) xs → sum_by f (filter p (x ∷ xs)) ≡ sum_by (λ y. cond (p y) (f y) 0) (x ∷ xs)
    go (inl e) ih =
        ap (λ b. sum_by f (cond b (x ∷ filter p xs) (filter p xs))) e
        ∙ sum_by-cons f x (filter p xs)
        ∙ ap (λ n. f x + n) ih
        ∙ sym (sum_by-cons (λ y. cond (p y) (f y) 0) x xs ∙ ap (λ b. cond b (f x) 0 + sum_by (λ y. cond (p y) (f y) 0) xs) e)
    go (inr e) ih =
        ap (λ b. sum_by f (cond b (x ∷ filter p xs) (filter p xs))) e
        ∙ ih
        ∙ sym (sum_by-cons (λ y. cond (p y) (f y) 0) x xs ∙ ap (λ b. cond b (f x) 0 + sum_by (λ y. cond (p y) (f y) 0) xs) e ∙ zero-add (sum_by (λ y. cond (p y) (f y) 0) xs))
