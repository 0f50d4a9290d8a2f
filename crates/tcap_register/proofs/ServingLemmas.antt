-- Outputs that are served one after the other.
use Rattle.std.proofs.Common.{◌≡◌, ◌∙◌, ◌+◌, ◌<◌, refl, sym, ap, subst, ℕ, ℤ, List, [], ◌∷◌, ◌++◌, Option, length, map, take, get_or}
use Rattle.std.proofs.lemmas.List.{map-append, take-map, take_more}
use Rattle.tcap_component.specs.Component.{CodeParts}
use Rattle.tcap_invocation.specs.declared.class.Class.{Class}
use Rattle.tcap_model.specs.Table.World.{World}
use Rattle.tcap_model.specs.Words.Output.{Output}
use Rattle.tcap_primitives.specs.declared.fault.Fault.{Fault}
use Rattle.tcap_register.specs.Invokes.{invoke_told}
use Rattle.tcap_register.specs.Serving.{ServesAll, ServesTold}
use Rattle.tcap_register.specs.declared.operations.Reply.{Reply}

-- One output more.
pub serves-more : {S A : Type 0} → (class_of_gives : S → CodeParts → Option Class → Type 0)
    → (answer_gives : S → CodeParts → Option (List ℕ) → Reply A → S → Type 0)
    → (refused_gives : S → ℕ → Option ℤ → Fault → S → Type 0)
    → (outputs : List Output) (output : Output) (old : World) (before : S) (middle : World) (between : S) (new : World) (after : S)
    → ServesAll class_of_gives answer_gives refused_gives outputs old before middle between
    → ServesTold class_of_gives answer_gives refused_gives (invoke_told output) middle between new after
    → ServesAll class_of_gives answer_gives refused_gives (outputs ++ output ∷ []) old before new after
serves-more class_of_gives answer_gives refused_gives [] output old before middle between new after all one = (
  new,
  after,
  subst (λ w. ServesTold class_of_gives answer_gives refused_gives (invoke_told output) w before new after) all.0
      (subst (λ s. ServesTold class_of_gives answer_gives refused_gives (invoke_told output) middle s new after) all.1 one),
  (refl, refl),
)
serves-more class_of_gives answer_gives refused_gives (first ∷ outputs) output old before middle between new after all one =
    (all.0, all.1, all.2, serves-more class_of_gives answer_gives refused_gives outputs output all.0 all.1 middle between new after all.3 one)

-- The view of one item more of a list.
pub one-more : {X : Type 0} → (view : X → Output) (xs : List X) (i : ℕ) (x : X) → i < length xs → x ≡ get_or xs i x
    → take (i + 1) (map view xs) ≡ take i (map view xs) ++ view x ∷ []
one-more view xs i x below is =
    take-map view (i + 1) xs ∙ ap (map view) (take_more xs i x below) ∙ map-append view (take i xs) (get_or xs i x ∷ [])
    ∙ ap (λ (os : List Output). os ++ view (get_or xs i x) ∷ []) (sym (take-map view i xs))
    ∙ ap (λ y. take i (map view xs) ++ view y ∷ []) (sym is)
