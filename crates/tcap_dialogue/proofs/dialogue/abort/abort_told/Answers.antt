use Rattle.tcap_dialogue.proofs.dialogue.abort.abort_told.Goals as goal

pub returns-in-Dialogue-clause-place : goal.returns-in-Dialogue-clause-place
returns-in-Dialogue-clause-place c components = rw (c.in-Dialogue.is) (c.portion_told.ensures.place components)
