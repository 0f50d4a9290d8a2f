use Rattle.tcap_engine.proofs.engine.Engine.handle_into.Goals as goal

pub returns-in-Invoke-clause-moves : goal.returns-in-Invoke-clause-moves
returns-in-Invoke-clause-moves g c = rw c.in-Invoke.is c.answer_into.ensures.moves

pub returns-in-Invoke-clause-memory : goal.returns-in-Invoke-clause-memory
returns-in-Invoke-clause-memory g c = rw c.in-Invoke.is c.answer_into.ensures.memory

pub returns-in-Invoke-clause-stands : goal.returns-in-Invoke-clause-stands
returns-in-Invoke-clause-stands g c = λ h at. rw c.in-Invoke.is (c.answer_into.ensures.stands h at)

pub returns-in-ResultLast-clause-moves : goal.returns-in-ResultLast-clause-moves
returns-in-ResultLast-clause-moves g c = rw c.in-ResultLast.is c.answer_into-in-ResultLast.ensures.moves

pub returns-in-ResultLast-clause-memory : goal.returns-in-ResultLast-clause-memory
returns-in-ResultLast-clause-memory g c = rw c.in-ResultLast.is c.answer_into-in-ResultLast.ensures.memory

pub returns-in-ResultLast-clause-stands : goal.returns-in-ResultLast-clause-stands
returns-in-ResultLast-clause-stands g c = λ h at. rw c.in-ResultLast.is (c.answer_into-in-ResultLast.ensures.stands h at)

pub returns-in-ResultMore-clause-moves : goal.returns-in-ResultMore-clause-moves
returns-in-ResultMore-clause-moves g c = rw c.in-ResultMore.is c.answer_into-in-ResultMore.ensures.moves

pub returns-in-ResultMore-clause-memory : goal.returns-in-ResultMore-clause-memory
returns-in-ResultMore-clause-memory g c = rw c.in-ResultMore.is c.answer_into-in-ResultMore.ensures.memory

pub returns-in-ResultMore-clause-stands : goal.returns-in-ResultMore-clause-stands
returns-in-ResultMore-clause-stands g c = λ h at. rw c.in-ResultMore.is (c.answer_into-in-ResultMore.ensures.stands h at)

pub returns-in-ErrorBack-clause-moves : goal.returns-in-ErrorBack-clause-moves
returns-in-ErrorBack-clause-moves g c = rw c.in-ErrorBack.is c.answer_into-in-ErrorBack.ensures.moves

pub returns-in-ErrorBack-clause-memory : goal.returns-in-ErrorBack-clause-memory
returns-in-ErrorBack-clause-memory g c = rw c.in-ErrorBack.is c.answer_into-in-ErrorBack.ensures.memory

pub returns-in-ErrorBack-clause-stands : goal.returns-in-ErrorBack-clause-stands
returns-in-ErrorBack-clause-stands g c = λ h at. rw c.in-ErrorBack.is (c.answer_into-in-ErrorBack.ensures.stands h at)

pub returns-in-Reject-clause-moves : goal.returns-in-Reject-clause-moves
returns-in-Reject-clause-moves g c = rw c.in-Reject.is c.answer_into-in-Reject.ensures.moves

pub returns-in-Reject-clause-memory : goal.returns-in-Reject-clause-memory
returns-in-Reject-clause-memory g c = rw c.in-Reject.is c.answer_into-in-Reject.ensures.memory

pub returns-in-Reject-clause-stands : goal.returns-in-Reject-clause-stands
returns-in-Reject-clause-stands g c = λ h at. rw c.in-Reject.is (c.answer_into-in-Reject.ensures.stands h at)

pub returns-in-Cancel-clause-moves : goal.returns-in-Cancel-clause-moves
returns-in-Cancel-clause-moves g c = rw c.in-Cancel.is c.answer_into-in-Cancel.ensures.moves

pub returns-in-Cancel-clause-memory : goal.returns-in-Cancel-clause-memory
returns-in-Cancel-clause-memory g c = rw c.in-Cancel.is c.answer_into-in-Cancel.ensures.memory

pub returns-in-Cancel-clause-stands : goal.returns-in-Cancel-clause-stands
returns-in-Cancel-clause-stands g c = λ h at. rw c.in-Cancel.is (c.answer_into-in-Cancel.ensures.stands h at)

pub returns-in-Uni-clause-moves : goal.returns-in-Uni-clause-moves
returns-in-Uni-clause-moves g c = rw c.in-Uni.is c.answer_into-in-Uni.ensures.moves

pub returns-in-Uni-clause-memory : goal.returns-in-Uni-clause-memory
returns-in-Uni-clause-memory g c = rw c.in-Uni.is c.answer_into-in-Uni.ensures.memory

pub returns-in-Uni-clause-stands : goal.returns-in-Uni-clause-stands
returns-in-Uni-clause-stands g c = λ h at. rw c.in-Uni.is (c.answer_into-in-Uni.ensures.stands h at)

pub returns-in-Begin-clause-moves : goal.returns-in-Begin-clause-moves
returns-in-Begin-clause-moves g c = rw c.in-Begin.is c.answer_into-in-Begin.ensures.moves

pub returns-in-Begin-clause-memory : goal.returns-in-Begin-clause-memory
returns-in-Begin-clause-memory g c = rw c.in-Begin.is c.answer_into-in-Begin.ensures.memory

pub returns-in-Begin-clause-stands : goal.returns-in-Begin-clause-stands
returns-in-Begin-clause-stands g c = λ h at. rw c.in-Begin.is (c.answer_into-in-Begin.ensures.stands h at)

pub returns-in-Continue-clause-moves : goal.returns-in-Continue-clause-moves
returns-in-Continue-clause-moves g c = rw c.in-Continue.is c.answer_into-in-Continue.ensures.moves

pub returns-in-Continue-clause-memory : goal.returns-in-Continue-clause-memory
returns-in-Continue-clause-memory g c = rw c.in-Continue.is c.answer_into-in-Continue.ensures.memory

pub returns-in-Continue-clause-stands : goal.returns-in-Continue-clause-stands
returns-in-Continue-clause-stands g c = λ h at. rw c.in-Continue.is (c.answer_into-in-Continue.ensures.stands h at)

pub returns-in-End-clause-moves : goal.returns-in-End-clause-moves
returns-in-End-clause-moves g c = rw c.in-End.is c.answer_into-in-End.ensures.moves

pub returns-in-End-clause-memory : goal.returns-in-End-clause-memory
returns-in-End-clause-memory g c = rw c.in-End.is c.answer_into-in-End.ensures.memory

pub returns-in-End-clause-stands : goal.returns-in-End-clause-stands
returns-in-End-clause-stands g c = λ h at. rw c.in-End.is (c.answer_into-in-End.ensures.stands h at)

pub returns-in-Abort-clause-moves : goal.returns-in-Abort-clause-moves
returns-in-Abort-clause-moves g c = rw c.in-Abort.is c.answer_into-in-Abort.ensures.moves

pub returns-in-Abort-clause-memory : goal.returns-in-Abort-clause-memory
returns-in-Abort-clause-memory g c = rw c.in-Abort.is c.answer_into-in-Abort.ensures.memory

pub returns-in-Abort-clause-stands : goal.returns-in-Abort-clause-stands
returns-in-Abort-clause-stands g c = λ h at. rw c.in-Abort.is (c.answer_into-in-Abort.ensures.stands h at)

pub returns-in-NewDialogue-clause-moves : goal.returns-in-NewDialogue-clause-moves
returns-in-NewDialogue-clause-moves g c = rw c.in-NewDialogue.is (c.created.ensures.moves _ _ _ _ c.new_dialogue.ensures.moves)

pub returns-in-NewDialogue-clause-stands : goal.returns-in-NewDialogue-clause-stands
returns-in-NewDialogue-clause-stands g c = λ h at. rw c.in-NewDialogue.is (c.created.ensures.stands _ h _ _ (c.new_dialogue.ensures.stands h at))
