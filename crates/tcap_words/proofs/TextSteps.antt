-- Texts added one after the other.
use Rattle.std.proofs.Common.{◌≡◌, ℕ, List, ◌++◌, length, take, Result, Ok, Err, OnOk, OnErr, refl, sym, ap, ◌∙◌, append_assoc, arith}
use Rattle.std.proofs.lemmas.List.{take-take, take_at, length-take}
use Rattle.std.proofs.lemmas.Result.{on_ok_weaker}
use Rattle.tcap_words.specs.Text.{BeginsWith}

-- a text begins with what it was before more was added
pub begins_before : (old new more : List ℕ) → new ≡ old ++ more → BeginsWith old new
begins_before old new more e = ap (λ (w : List ℕ). take (length old) w) e ∙ take_at old more (length old) refl

-- what begins with a text begins with what that begins with
pub begins_trans : (old first new : List ℕ) → BeginsWith old first → BeginsWith first new → BeginsWith old new
begins_trans old first new a b =
    sym (take-take (length old) (length first) new (omega (arith, length-take (length old) first, ap length a)))
    ∙ (ap (λ (w : List ℕ). take (length old) w) b ∙ a)

-- the same, where a call that adds more was refused memory
pub begins_on_err : {T E : Type 0} (r : Result T E) (old first new : List ℕ) → BeginsWith old first → OnErr r (BeginsWith first new) → OnErr r (BeginsWith old new)
begins_on_err (Ok v) old first new a b = tt
begins_on_err (Err e) old first new a b = begins_trans old first new a b

pub begins_still : {T E : Type 0} (r : Result T E) (old first new : List ℕ) → BeginsWith old first → BeginsWith first new → OnErr r (BeginsWith old new)
begins_still (Ok v) old first new a b = tt
begins_still (Err e) old first new a b = begins_trans old first new a b

module _ {T E : Type 0} (r : Result T E) where
  pub after_one : (old first new a b : List ℕ) → first ≡ old ++ a → OnOk r (new ≡ first ++ b) → OnOk r (new ≡ old ++ (a ++ b))
  after_one old first new a b p h = on_ok_weaker r (λ q. q ∙ (ap (λ (w : List ℕ). w ++ b) p ∙ append_assoc old a b)) h

  pub after_two : (old first second new a b c : List ℕ) → first ≡ old ++ a → second ≡ first ++ b → OnOk r (new ≡ second ++ c) → OnOk r (new ≡ old ++ (a ++ (b ++ c)))
  after_two old first second new a b c p q h = after_one old first new a (b ++ c) p (on_ok_weaker r (λ s. s ∙ (ap (λ (w : List ℕ). w ++ c) q ∙ append_assoc first b c)) h)

pub all_three : (old first second new a b c : List ℕ) → first ≡ old ++ a → second ≡ first ++ b → new ≡ second ++ c → new ≡ old ++ (a ++ (b ++ c))
all_three = after_two {T = ℕ} {E = ℕ} (Ok 0)

-- four parts were added, and one after them
pub after_four : {T E : Type 0} (r : Result T E) (old first new a b c d e : List ℕ) → first ≡ old ++ (a ++ (b ++ (c ++ d))) → OnOk r (new ≡ first ++ e) → OnOk r (new ≡ old ++ (a ++ (b ++ (c ++ (d ++ e)))))
after_four r old first new a b c d e p h =
    let three : (b ++ (c ++ d)) ++ e ≡ b ++ (c ++ (d ++ e)) = append_assoc b (c ++ d) e ∙ ap (λ (w : List ℕ). b ++ w) (append_assoc c d e) in
    let four : (a ++ (b ++ (c ++ d))) ++ e ≡ a ++ (b ++ (c ++ (d ++ e))) = append_assoc a (b ++ (c ++ d)) e ∙ ap (λ (w : List ℕ). a ++ w) three in
    on_ok_weaker r (λ q. q ∙ (ap (λ (w : List ℕ). w ++ e) p ∙ (append_assoc old (a ++ (b ++ (c ++ d))) e ∙ ap (λ (w : List ℕ). old ++ w) four))) h
