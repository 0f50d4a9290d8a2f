use Rattle.tcap_model.specs.Table.TableMove.{table_move}
use Rattle.tcap_dialogue.proofs.dialogue.Dialogue.ask_into.Goals as goal

pub returns-in-Invoke-clause-answer : goal.returns-in-Invoke-clause-answer
unfolding table_move
returns-in-Invoke-clause-answer g c =
    rw (c.in-Invoke.is) (c.of_number.ensures _ _ _ _ c.queue_invoke_apart.ensures.answer)

pub returns-in-ResultLast-clause-answer : goal.returns-in-ResultLast-clause-answer
unfolding table_move
returns-in-ResultLast-clause-answer g c =
    rw (c.in-ResultLast.is) (c.of_queued.ensures _ _ _ _ c.queue_result_last_apart.ensures.answer)

pub returns-in-ResultMore-clause-answer : goal.returns-in-ResultMore-clause-answer
unfolding table_move
returns-in-ResultMore-clause-answer g c =
    rw (c.in-ResultMore.is) (c.of_queued-in-ResultMore.ensures _ _ _ _ c.queue_result_more.ensures.answer)

pub returns-in-ErrorBack-clause-answer : goal.returns-in-ErrorBack-clause-answer
unfolding table_move
returns-in-ErrorBack-clause-answer g c =
    rw (c.in-ErrorBack.is) (c.of_queued-in-ErrorBack.ensures _ _ _ _ c.queue_error.ensures.answer)

pub returns-in-Reject-clause-answer : goal.returns-in-Reject-clause-answer
unfolding table_move
returns-in-Reject-clause-answer g c =
    rw (c.in-Reject.is) (c.of_queued-in-Reject.ensures _ _ _ _ c.queue_reject.ensures.answer)

pub returns-in-Cancel-clause-answer : goal.returns-in-Cancel-clause-answer
unfolding table_move
returns-in-Cancel-clause-answer g c =
    rw (c.in-Cancel.is) (c.of_cancel.ensures _ _ _ _ c.give_up_invocation.ensures.answer)

pub returns-in-Uni-clause-answer : goal.returns-in-Uni-clause-answer
unfolding table_move
returns-in-Uni-clause-answer g c =
    rw (c.in-Uni.is) (c.of_step.ensures _ _ _ _ _ c.send_uni.ensures.step)

pub returns-in-Begin-clause-answer : goal.returns-in-Begin-clause-answer
unfolding table_move
returns-in-Begin-clause-answer g c =
    rw (c.in-Begin.is) (c.of_step-in-Begin.ensures _ _ _ _ _ c.send_begin_apart.ensures.step)

pub returns-in-Continue-clause-answer : goal.returns-in-Continue-clause-answer
unfolding table_move
returns-in-Continue-clause-answer g c =
    rw (c.in-Continue.is) (c.of_step-in-Continue.ensures _ _ _ _ _ c.send_continue_apart.ensures.step)

pub returns-in-End-clause-answer : goal.returns-in-End-clause-answer
unfolding table_move
returns-in-End-clause-answer g c =
    rw (c.in-End.is) (c.of_step-in-End.ensures _ _ _ _ _ c.send_end_apart.ensures.step)

pub returns-in-Abort-clause-answer : goal.returns-in-Abort-clause-answer
unfolding table_move
returns-in-Abort-clause-answer g c =
    rw (c.in-Abort.is) (c.of_step-in-Abort.ensures _ _ _ _ _ c.send_abort.ensures.step)

pub returns-in-Invoke-clause-kept : goal.returns-in-Invoke-clause-kept
returns-in-Invoke-clause-kept g c = c.queue_invoke_apart.ensures.kept

pub returns-in-ResultLast-clause-kept : goal.returns-in-ResultLast-clause-kept
returns-in-ResultLast-clause-kept g c = c.queue_result_last_apart.ensures.kept

pub returns-in-ResultMore-clause-kept : goal.returns-in-ResultMore-clause-kept
returns-in-ResultMore-clause-kept g c = c.queue_result_more.ensures.kept

pub returns-in-ErrorBack-clause-kept : goal.returns-in-ErrorBack-clause-kept
returns-in-ErrorBack-clause-kept g c = c.queue_error.ensures.kept

pub returns-in-Reject-clause-kept : goal.returns-in-Reject-clause-kept
returns-in-Reject-clause-kept g c = c.queue_reject.ensures.kept

pub returns-in-Cancel-clause-kept : goal.returns-in-Cancel-clause-kept
returns-in-Cancel-clause-kept g c = c.give_up_invocation.ensures.kept

pub returns-in-Uni-clause-kept : goal.returns-in-Uni-clause-kept
returns-in-Uni-clause-kept g c = c.send_uni.ensures.kept

pub returns-in-Begin-clause-kept : goal.returns-in-Begin-clause-kept
returns-in-Begin-clause-kept g c = c.send_begin_apart.ensures.kept

pub returns-in-Continue-clause-kept : goal.returns-in-Continue-clause-kept
returns-in-Continue-clause-kept g c = c.send_continue_apart.ensures.kept

pub returns-in-End-clause-kept : goal.returns-in-End-clause-kept
returns-in-End-clause-kept g c = c.send_end_apart.ensures.kept

pub returns-in-Abort-clause-kept : goal.returns-in-Abort-clause-kept
returns-in-Abort-clause-kept g c = c.send_abort.ensures.kept
