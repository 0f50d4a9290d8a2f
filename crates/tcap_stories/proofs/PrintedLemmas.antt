-- What is told, and what is told behind it.
use Rattle.std.proofs.Common.{◌≡◌, ◌&&◌, ℕ, Bool, true, false, List, ◌++◌, refl, sym, ap, ◌∙◌, append_assoc}
use Rattle.std.proofs.lemmas.List.{append-nil}
use Rattle.tcap_play.specs.Play.{Printed}
use Rattle.tcap_stories.specs.Comparing.{and_then, silent}
use Rattle.tcap_stories.specs.Views.{Adds, so_far}

good_assoc : (a b c : Bool) → ((a && b) && c) ≡ (a && (b && c))
good_assoc true b c = refl
good_assoc false b c = refl

-- three texts, one behind the other
pub and_assoc : (a b c : Printed) → and_then (and_then a b) c ≡ and_then a (and_then b c)
and_assoc a b c =
    ap (λ t. so_far t ((a.good && b.good) && c.good)) (append_assoc a.text b.text c.text)
    ∙ ap (λ g. so_far (a.text ++ (b.text ++ c.text)) g) (good_assoc a.good b.good c.good)

pub good_true : (b : Bool) → (b && true) ≡ b
good_true true = refl
good_true false = refl

pub good_false : (b : Bool) → (b && false) ≡ false
good_false true = refl
good_false false = refl

-- nothing is told behind it
pub and_silent : (a : Printed) → and_then a silent ≡ a
and_silent a = ap (λ t. so_far t (a.good && true)) (append-nil a.text) ∙ ap (λ g. so_far a.text g) (good_true a.good)

-- what was added is what is told so far
pub added : (told : Printed) (before after : List ℕ) (good now : Bool) → Adds told now before after → and_then (so_far before good) told ≡ so_far after (good && now)
added told before after good now is = ap (λ t. so_far t (good && told.good)) (sym is.0) ∙ ap (λ g. so_far after (good && g)) (sym is.1)
