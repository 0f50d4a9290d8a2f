use Rattle.tcap_dialogue.proofs.dialogue.Dialogue.receive_message.Goals as goal

pub returns-in_err-receive_abort-in-Abort-clause-place : goal.returns-in_err-receive_abort-in-Abort-clause-place
returns-in_err-receive_abort-in-Abort-clause-place g c other = rw (c.in-Abort.is) (c.receive_abort.ensures.place other)

pub returns-in-Continue-clause-place : goal.returns-in-Continue-clause-place
returns-in-Continue-clause-place g c other = rw (c.in-Continue.is) c.receive_continue.ensures.place

pub returns-in_ok-receive_end-in-End-clause-place : goal.returns-in_ok-receive_end-in-End-clause-place
returns-in_ok-receive_end-in-End-clause-place g c other = rw (c.in-End.is) c.receive_end.ensures.place

pub returns-in_ok-receive_abort-in-Abort-clause-place : goal.returns-in_ok-receive_abort-in-Abort-clause-place
returns-in_ok-receive_abort-in-Abort-clause-place g c other = rw (c.in-Abort.is) (c.receive_abort.ensures.place other)
