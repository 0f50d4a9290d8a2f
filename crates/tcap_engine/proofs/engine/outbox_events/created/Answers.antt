use Rattle.std.proofs.Common.{ℕ, Result, subst}
use Rattle.tcap_primitives.specs.declared.fault.Fault.{Fault}
use Rattle.tcap_engine.specs.HistoryForm.{StandsAfter}
use Rattle.tcap_engine.specs.StepForm.{EngineAnswers, birth_answer}
use Rattle.tcap_engine.proofs.engine.outbox_events.created.Goals as goal

pub returns-in-Err-clause-moves : goal.returns-in-Err-clause-moves
returns-in-Err-clause-moves c = λ told m old new refuses.
    c.refused.ensures.moves told m old new (subst (λ (r : Result ℕ Fault). EngineAnswers birth_answer r m old new) c.in-Err.is refuses)

pub returns-in-Err-clause-stands : goal.returns-in-Err-clause-stands
returns-in-Err-clause-stands c = λ told h event new refuses.
    c.refused.ensures.stands told h event new (subst (λ (r : Result ℕ Fault). StandsAfter birth_answer r h event new) c.in-Err.is refuses)
