use Rattle.tcap_dialogue.proofs.dialogue.Dialogue.abort_abnormal.Goals as goal

pub returns-in_err-send-clause-place : goal.returns-in_err-send-clause-place
returns-in_err-send-clause-place g c portion components before =
    c.send.ensures.place portion components before

pub returns-clause-place : goal.returns-clause-place
returns-clause-place g c portion components before =
    c.tell_over.ensures.place portion components tt
    (c.send.ensures.place portion components before)
