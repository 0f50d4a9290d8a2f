-- What was told since the outputs that a sink held.
use Rattle.std.proofs.Common.{◌≡◌, List, [], ◌∷◌, ◌++◌, length, drop, refl, sym, ap, ◌∙◌}
use Rattle.std.proofs.Math.Seq.{drop-append_seam}
use Rattle.tcap_model.specs.Words.Output.{Output}
use Rattle.tcap_primitives.specs.SinkViews.{KeepsOutputs, told_since}

-- What was appended is what was told.
pub since-is : (before after told : List Output) → after ≡ before ++ told → told_since before after ≡ told
since-is before after told is = ap (drop (length before)) is ∙ drop-append_seam before told

-- Where something was appended, what was there before stays.
pub keeps : (before after told : List Output) → after ≡ before ++ told → KeepsOutputs before after
keeps before after told is = is ∙ ap (λ (os : List Output). before ++ os) (sym (since-is before after told is))

-- Where nothing was, too.
pub keeps-same : (before after : List Output) → after ≡ before → KeepsOutputs before after
keeps-same before after is = keeps before after [] (is ∙ unit before)
  where
    unit : (os : List Output) → os ≡ os ++ []
    unit [] = refl
    unit (o ∷ os) = ap (λ (rest : List Output). o ∷ rest) (unit os)

-- Nothing was told then.
pub since-same : (before after : List Output) → after ≡ before → told_since before after ≡ []
since-same before after is = ap (drop (length before)) is ∙ none before
  where
    none : (os : List Output) → drop (length os) os ≡ []
    none [] = refl
    none (o ∷ os) = none os
