use Rattle.std.proofs.Common.{rules}
use Rattle.tcap_primitives.specs.RequestViews.{request_view}
use Rattle.tcap_engine.specs.RequestInTable.{accepted_answer}
use Rattle.tcap_engine.proofs.KindLemmas.{any-kind, of-kind}
use Rattle.tcap_engine.proofs.StandingLemmas.{stands_after}
use Rattle.tcap_engine.specs.AnswerKinds.{kind_of}
use Rattle.tcap_primitives.specs.SinkViews.{told_since}
use Rattle.tcap_model.specs.Words.Event.{Event}
use Rattle.tcap_model.specs.Words.InRange.{InRange}
use Rattle.tcap_engine.proofs.engine.Engine.request_with.Goals as goal

pub returns-clause-stands : goal.returns-clause-stands
returns-clause-stands g c =
    let event : Event = Event.on_dialogue c.args.dialogue (request_view c.args.request.now) in
    let within : InRange event = search rules in
    stands_after (accepted_answer (told_since c.args.sink.now.outputs c.ask.new.sink.outputs)) c.ask.result event c.args.self.now c.ask.new.self within c.ask.ensures.moves

pub returns-clause-kind : goal.returns-clause-kind
returns-clause-kind g c =
    any-kind (kind_of (request_view c.args.request.now)) _ c.ask.result
    (of-kind (accepted_answer (told_since c.args.sink.now.outputs c.ask.new.sink.outputs)) c.ask.result c.args.dialogue (request_view c.args.request.now) c.args.self.now c.ask.new.self c.ask.ensures.moves)
