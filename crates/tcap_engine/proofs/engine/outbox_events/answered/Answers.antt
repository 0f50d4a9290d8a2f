use Rattle.std.proofs.Common.{Result, subst}
use Rattle.tcap_primitives.specs.declared.fault.Fault.{Fault}
use Rattle.tcap_engine.specs.HistoryForm.{StandsAfter}
use Rattle.tcap_dialogue.specs.declared.dialogue.requests.Accepted.{Accepted}
use Rattle.tcap_engine.specs.RequestInTable.{accepted_answer}
use Rattle.tcap_engine.specs.StepForm.{EngineAnswers}
use Rattle.tcap_primitives.specs.SinkViews.{told_since}
use Rattle.tcap_engine.proofs.engine.outbox_events.answered.Goals as goal

pub returns-in-Err-clause-moves : goal.returns-in-Err-clause-moves
returns-in-Err-clause-moves c = λ before after m old new refuses.
    c.refused.ensures.moves _ m old new (subst (λ (r : Result Accepted Fault). EngineAnswers (accepted_answer (told_since before after)) r m old new) c.in-Err.is refuses)

pub returns-in-Err-clause-stands : goal.returns-in-Err-clause-stands
returns-in-Err-clause-stands c = λ before after h event new refuses.
    c.refused.ensures.stands _ h event new (subst (λ (r : Result Accepted Fault). StandsAfter (accepted_answer (told_since before after)) r h event new) c.in-Err.is refuses)
