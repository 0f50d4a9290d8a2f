use Rattle.std.proofs.Common.{◌≡◌, sym}
use Rattle.tcap_model.specs.Table.EngineMove.{EngineMoved, engine_move}
use Rattle.tcap_model.specs.Words.Event as model
use Rattle.tcap_primitives.specs.RequestViews.{request_view}
use Rattle.tcap_engine.proofs.engine.Engine.answer_into.Goals as goal

pub returns-clause-moves : goal.returns-clause-moves
returns-clause-moves g c =
    let from : c.args.outbox.now.outputs ≡ c.take_outbox-sink.result.outputs = sym c.take_outbox-sink.ensures.outputs in
    let m : EngineMoved = engine_move c.args.self.now (model.Event.on_dialogue c.args.dialogue (request_view c.args.request)) in
    rw (from, c.put_back.ensures.outputs)
    (c.answered.ensures.moves c.take_outbox-sink.result.outputs c.request_with-accepted.new.sink.outputs m c.args.self.now c.request_with-accepted.new.self c.request_with-accepted.ensures.moves)

pub returns-clause-memory : goal.returns-clause-memory
returns-clause-memory g c =
    let m : EngineMoved = engine_move c.args.self.now (model.Event.on_dialogue c.args.dialogue (request_view c.args.request)) in
    c.answered.ensures.memory c.take_outbox-sink.result.outputs c.request_with-accepted.new.sink.outputs m c.args.self.now c.request_with-accepted.new.self c.request_with-accepted.ensures.moves

pub returns-clause-stands : goal.returns-clause-stands
returns-clause-stands g c = λ h at.
    let from : c.args.outbox.now.outputs ≡ c.take_outbox-sink.result.outputs = sym c.take_outbox-sink.ensures.outputs in
    rw (from, c.put_back.ensures.outputs)
    (c.answered.ensures.stands c.take_outbox-sink.result.outputs c.request_with-accepted.new.sink.outputs h (model.Event.on_dialogue c.args.dialogue (request_view c.args.request)) c.request_with-accepted.new.self (c.request_with-accepted.ensures.stands h at))
