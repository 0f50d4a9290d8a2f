use Rattle.tcap_engine.proofs.engine.Engine.answer.Goals as goal

pub returns-clause-moves : goal.returns-clause-moves
returns-clause-moves g c = c.asked.ensures.moves _ _ _ c.request.ensures.moves

pub returns-clause-memory : goal.returns-clause-memory
returns-clause-memory g c = c.asked.ensures.memory _ _ _ c.request.ensures.moves

pub returns-clause-stands : goal.returns-clause-stands
returns-clause-stands g c = λ h at. c.asked.ensures.stands h _ _ (c.request.ensures.stands h at)
