-- What C's arguments were read as.
use Rattle.std.proofs.Common.{◌≡◌, Option, Some, None, sym, ap, ◌∙◌, subst}
use Rattle.std.specs.Prelude.{IfSome}
use Rattle.std.specs.Option.{option_map}

-- what holds of what was read holds, as its view says it
pub if_read : {X Y : Type 0} (view : X → Y) (P : Y → Type 0) (said : Option Y) (found : Option X) (x : X)
    → option_map view found ≡ said → found ≡ Some x → P (view x) → IfSome said P
if_read view P said found x same is p = subst (λ f. IfSome f P) (sym (ap (option_map view) is) ∙ same) p

-- Where the code read something, the definition doesn't say that there is nothing.
pub none_read : {A B : Type 0} (view : A → B) (found : Option A) (x : A) (said : Option B) → option_map view found ≡ said → found ≡ Some x
    → said ≡ None → ⊥
none_read view None x said read is none = absurd cc
none_read view (Some y) x said read is none = absurd cc
