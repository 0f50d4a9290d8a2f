-- The texts of rejects, part by part.
use Rattle.std.proofs.Common.{◌≡◌, ℕ, List, ◌++◌, Result, OnOk, ap, ◌∙◌, append_assoc}
use Rattle.std.proofs.lemmas.Result.{on_ok_weaker}

-- five parts were added, and one behind them
five_then : (old n s p i d t : List ℕ) → (old ++ (n ++ (s ++ (p ++ (i ++ d))))) ++ t ≡ old ++ (n ++ (s ++ (p ++ (i ++ (d ++ t)))))
five_then old n s p i d t =
    append_assoc old (n ++ (s ++ (p ++ (i ++ d)))) t
    ∙ ap (λ (w : List ℕ). old ++ w) (append_assoc n (s ++ (p ++ (i ++ d))) t
    ∙ ap (λ (w : List ℕ). n ++ w) (append_assoc s (p ++ (i ++ d)) t
    ∙ ap (λ (w : List ℕ). s ++ w) (append_assoc p (i ++ d) t
    ∙ ap (λ (w : List ℕ). p ++ w) (append_assoc i d t))))

-- and two behind them
pub after_five : {T E : Type 0} (r : Result T E) (old first second new n s p i d t q : List ℕ) → first ≡ old ++ (n ++ (s ++ (p ++ (i ++ d))))
    → second ≡ first ++ t → OnOk r (new ≡ second ++ q) → OnOk r (new ≡ old ++ (n ++ (s ++ (p ++ (i ++ (d ++ (t ++ q)))))))
after_five r old first second new n s p i d t q e1 e2 h =
    on_ok_weaker r (λ e. e ∙ (ap (λ (w : List ℕ). w ++ q) e2 ∙ (append_assoc first t q ∙ (ap (λ (w : List ℕ). w ++ (t ++ q)) e1 ∙ five_then old n s p i d (t ++ q))))) h
