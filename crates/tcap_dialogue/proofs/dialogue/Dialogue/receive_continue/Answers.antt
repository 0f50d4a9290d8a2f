use Rattle.tcap_dialogue.proofs.dialogue.Dialogue.receive_continue.Goals as goal

pub returns-in_err-abort_abnormal-in-Abnormal-clause-place : goal.returns-in_err-abort_abnormal-in-Abnormal-clause-place
returns-in_err-abort_abnormal-in-Abnormal-clause-place g c before = c.abort_abnormal.ensures.place _ _ before

pub returns-in_ok-abort_abnormal-in-Abnormal-clause-place : goal.returns-in_ok-abort_abnormal-in-Abnormal-clause-place
returns-in_ok-abort_abnormal-in-Abnormal-clause-place g c before = c.abort_abnormal.ensures.place _ _ before
