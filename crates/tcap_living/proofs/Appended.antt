-- Texts to which parts were added one behind the other.
use Rattle.std.proofs.Common.{◌≡◌, ◌++◌, ◌∙◌, ℕ, List, Result, Ok, Err, OnOk, sym, ap}
use Rattle.std.proofs.lemmas.List.{append_assoc}

-- a part behind a part
pub behind : {T E : Type 0} (r : Result T E) (old mid new first second whole : List ℕ) → mid ≡ old ++ first → OnOk r (new ≡ mid ++ second) → whole ≡ first ++ second → OnOk r (new ≡ old ++ whole)
behind (Ok x) old mid new first second whole one two is =
    two ∙ ap (λ t. t ++ second) one ∙ append_assoc old first second ∙ ap (λ t. old ++ t) (sym is)
behind (Err e) old mid new first second whole one two is = two
