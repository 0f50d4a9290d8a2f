-- What a call appends to an outbox that was cleared is all that stands there.
use Rattle.std.proofs.Common.{◌≡◌, List, [], Result, Ok, Err, subst}
use Rattle.std.specs.Prelude.{IfOk}
use Rattle.ber_core.specs.declared.fault.OutOfMemory.{OutOfMemory}
use Rattle.tcap_engine.specs.HistoryForm.{ReceivedOn, StandsOn}
use Rattle.tcap_engine.specs.StepForm.{since_answer}
use Rattle.tcap_model.specs.Histories.History.{History}
use Rattle.tcap_model.specs.Table.World.{World}
use Rattle.tcap_model.specs.Words.Answer.{Answer}
use Rattle.tcap_model.specs.Words.Event.{Event}
use Rattle.tcap_model.specs.Words.Output.{Output}
use Rattle.tcap_primitives.specs.SinkViews.{told_since}

pub stands-alone : {T : Type 0} (before after : List Output) (result : Result T OutOfMemory) (h : History) (event : Event) (new : World) → before ≡ []
    → ReceivedOn (since_answer before after) result h event new → IfOk result (λ _. StandsOn h event (Answer.outputs after) new)
stands-alone before after (Ok x) h event new none heard = subst (λ (os : List Output). StandsOn h event (Answer.outputs (told_since os after)) new) none heard
stands-alone before after (Err refused) h event new none heard = tt
