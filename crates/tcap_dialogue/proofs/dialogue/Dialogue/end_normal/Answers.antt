use Rattle.tcap_dialogue.proofs.dialogue.Dialogue.end_normal.Goals as goal

pub returns-clause-place : goal.returns-clause-place
returns-clause-place g c portion held before =
    c.tell_ended.ensures.place portion c.args.components
    (c.handle_in_end.ensures.place portion
    (c.tell.ensures.place portion c.args.components held (rw (c.reserve.ensures.slices) before)))
