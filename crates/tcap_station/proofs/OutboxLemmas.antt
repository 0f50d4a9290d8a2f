-- The outputs in two outboxes, where one is taken.
use Rattle.std.proofs.Common.{◌≡◌, ℕ, ◌+◌, ◌<◌, ◌≤◌, List, [], ◌∷◌, ◌++◌, length, drop, refl, sym, ap, ◌∙◌, arith}
use Rattle.std.proofs.lemmas.List.{drop_all, drop-drop, length-drop}
use Rattle.tcap_model.specs.Words.Output.{Output}

-- Where some are left in front, one is taken there.
pub taken-front : (n : ℕ) (front back : List Output) → n < length front → drop (n + 1) front ++ back ≡ drop 1 (drop n front ++ back)
taken-front n front back some = ap (λ os. os ++ back) (sym (drop-drop 1 n front)) ∙ go (drop n front) (omega (arith, some, length-drop n front))
  where
    go : (os : List Output) → 0 < length os → drop 1 os ++ back ≡ drop 1 (os ++ back)
    go [] none = absurd (omega (arith, none))
    go (o ∷ os) some = refl

-- Where one at most is left, and it is behind, none is left then.
pub taken-last : (n : ℕ) (front back left : List Output) → front ≡ [] → left ≡ [] → length back ≤ 1 → drop n front ++ left ≡ drop 1 back
taken-last n front back left none gone one = rw (none, gone, drop_all 1 back one) (ap (λ (os : List Output). os ++ []) (drop_all n [] (omega arith)))
