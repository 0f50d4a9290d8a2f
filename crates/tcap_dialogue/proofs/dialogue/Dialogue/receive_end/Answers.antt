use Rattle.tcap_dialogue.proofs.dialogue.Dialogue.receive_end.Goals as goal

pub returns-in-Abnormal-clause-place : goal.returns-in-Abnormal-clause-place
returns-in-Abnormal-clause-place g c before = c.abort_provider.ensures.place _ _ before
