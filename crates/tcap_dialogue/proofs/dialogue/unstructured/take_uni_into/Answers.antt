use Rattle.tcap_dialogue.proofs.dialogue.unstructured.take_uni_into.Goals as goal

pub returns-clause-place : goal.returns-clause-place
returns-clause-place g c portion given before =
    c.handle_in_unidirectional.ensures.place portion
    (c.tell.ensures.place portion c.args.components (c.parts_of.ensures.place 0x60 portion given) (rw (c.reserve.ensures.slices) before))
