use Rattle.tcap_dialogue.proofs.dialogue.Dialogue.tell_over.Goals as goal

pub returns-clause-place : goal.returns-clause-place
returns-clause-place g c portion components lies before =
    c.tell_ended.ensures.place portion components (c.tell.ensures.place portion components lies before)
