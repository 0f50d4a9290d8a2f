-- A message that names no live dialogue, and is aborted or dropped.
use Rattle.std.proofs.Common.{◌≡◌, ℕ, ◌++◌, ◌∷◌, [], refl, ap, List, Option, Some, None, Result, Ok, Err, false}
use Rattle.std.specs.Option.{option_map}
use Rattle.std.specs.Prelude.{OnOk, OnErr}
use Rattle.ber_core.specs.declared.fault.OutOfMemory.{OutOfMemory}
use Rattle.tcap_engine.specs.StepForm.{DeliversTo, ReceivesInto}
use Rattle.tcap_model.specs.Table.EngineMove.{EngineMoved, unmoved}
use Rattle.tcap_model.specs.Table.World.{World}
use Rattle.tcap_model.specs.Words.Answer.{Answer}
use Rattle.tcap_model.specs.Words.Output.{Output}
use Rattle.tcap_primitives.proofs.CallerLemmas as sink

pub none-named : (before after : List Output) (move : ℕ → EngineMoved) (named : Option ℕ) (old new : World)
    → DeliversTo before after (Ok false) (option_map move named) old new → (named ≡ None) × ((after ≡ before) × (new ≡ old))
none-named before after move None old new h = (refl, h)
none-named before after move (Some d) old new h = absurd h

-- One output is sent or told, and the engine is as it was.
pub told-one : {T : Type 0} (before after : List Output) (output : Output) (result : Result T OutOfMemory) (w : World)
    → OnOk result (after ≡ before ++ output ∷ []) → OnErr result (after ≡ before)
    → ReceivesInto before after result (unmoved w (Answer.outputs (output ∷ []))) w w
told-one before after output (Ok t) w ok still =
    (sink.keeps before after (output ∷ []) ok, (ap Answer.outputs (sink.since-is before after (output ∷ []) ok), refl))
told-one before after output (Err f) w ok still = (still, refl)
