use Rattle.std.proofs.Common.{rules, ◌≡◌, Err}
use Rattle.tcap_engine.proofs.VectorLemmas.{vector-told}
use Rattle.tcap_engine.proofs.engine.Engine.ask_step.Goals as goal

pub returns-in_err-without_answer-clause-moves : goal.returns-in_err-without_answer-clause-moves
returns-in_err-without_answer-clause-moves g c =
    let is : c.from_residual.result ≡ Err c.in_err-without_answer.field-0.0 = search rules in
    rw is (c.in_err-without_answer.ensures.moves c.vector-sink.result.outputs c.request_with.new.sink.outputs _ _ _ c.request_with.ensures.moves)

pub returns-in_err-without_answer-clause-stands : goal.returns-in_err-without_answer-clause-stands
returns-in_err-without_answer-clause-stands g c h at =
    let is : c.from_residual.result ≡ Err c.in_err-without_answer.field-0.0 = search rules in
    rw is (c.in_err-without_answer.ensures.stands c.vector-sink.result.outputs c.request_with.new.sink.outputs h _ _ (c.request_with.ensures.stands h at))

pub returns-clause-moves : goal.returns-clause-moves
returns-clause-moves g c =
    rw (vector-told _ _ _ c.into_vector.ensures.outputs c.vector-sink.ensures.outputs) (c.in_ok-without_answer.ensures.moves c.vector-sink.result.outputs c.request_with.new.sink.outputs _ _ _ c.request_with.ensures.moves)

pub returns-clause-stands : goal.returns-clause-stands
returns-clause-stands g c h at =
    rw (vector-told _ _ _ c.into_vector.ensures.outputs c.vector-sink.ensures.outputs) (c.in_ok-without_answer.ensures.stands c.vector-sink.result.outputs c.request_with.new.sink.outputs h _ _ (c.request_with.ensures.stands h at))
