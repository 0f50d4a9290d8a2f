use Rattle.tcap_primitives.specs.RequestViews.{request_view}
use Rattle.tcap_engine.proofs.MessageLengthLemmas.{accepted-is, length-is, refused-is, unknown-refused}
use Rattle.tcap_engine.proofs.engine.Engine.message_length.Goals as goal

pub returns-in-None-clause-err : goal.returns-in-None-clause-err
returns-in-None-clause-err g c = unknown-refused c.args.self.now c.args.dialogue (request_view c.args.request.now) c.in-None.ensures

pub returns-in-Some-clause-ok : goal.returns-in-Some-clause-ok
returns-in-Some-clause-ok g c =
    length-is c.args.self.now c.args.dialogue c.in-Some.dialogue.now (request_view c.args.request.now) c.message_length.result c.in-Some.ensures c.message_length.ensures

pub returns-in-Some-clause-accepted : goal.returns-in-Some-clause-accepted
returns-in-Some-clause-accepted g c =
    accepted-is c.args.self.now c.args.dialogue c.in-Some.dialogue.now (request_view c.args.request.now) c.message_length.result c.in-Some.ensures c.message_length.ensures

pub returns-in-Some-clause-err : goal.returns-in-Some-clause-err
returns-in-Some-clause-err g c =
    refused-is c.args.self.now c.args.dialogue c.in-Some.dialogue.now (request_view c.args.request.now) c.message_length.result c.in-Some.ensures c.message_length.ensures
