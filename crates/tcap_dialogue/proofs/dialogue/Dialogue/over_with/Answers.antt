use Rattle.tcap_dialogue.proofs.dialogue.Dialogue.over_with.Goals as goal

pub returns-clause-place : goal.returns-clause-place
returns-clause-place g c portion components lies before =
    c.tell_over.ensures.place portion components lies (rw (c.reserve.ensures.slices) before)
