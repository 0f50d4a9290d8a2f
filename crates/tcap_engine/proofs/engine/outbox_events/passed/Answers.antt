use Rattle.std.proofs.Common.{Result, subst}
use Rattle.tcap_primitives.specs.declared.fault.Fault.{Fault}
use Rattle.tcap_engine.specs.HistoryForm.{StandsAfter}
use Rattle.tcap_engine.specs.StepForm.{EngineAnswers, since_answer}
use Rattle.tcap_engine.proofs.engine.outbox_events.passed.Goals as goal

pub returns-in-Err-clause-moves : goal.returns-in-Err-clause-moves
returns-in-Err-clause-moves c = λ before after m old new refuses.
    c.refused.ensures.moves _ m old new (subst (λ (r : Result (Unit {0}) Fault). EngineAnswers (since_answer before after) r m old new) c.in-Err.is refuses)

pub returns-in-Err-clause-stands : goal.returns-in-Err-clause-stands
returns-in-Err-clause-stands c = λ before after h event new refuses.
    c.refused.ensures.stands _ h event new (subst (λ (r : Result (Unit {0}) Fault). StandsAfter (since_answer before after) r h event new) c.in-Err.is refuses)
