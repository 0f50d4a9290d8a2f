use Rattle.tcap_engine.specs.EventViews.{answer_view, event_view}
use Rattle.tcap_engine.proofs.RunLemmas.{one-through}
use Rattle.tcap_engine.proofs.runs.answer_one.Goals as goal

pub returns-clause-stands : goal.returns-clause-stands
returns-clause-stands g c =
    one-through answer_view (event_view c.args.event.now) c.in_ok-answer.answer c.args.engine.now c.handle.new.self
    c.args.answers.now.items c.reserve.new.self.items c.push_reserved.new.self.items
    c.reserve.ensures.items c.push_reserved.ensures.items c.in_ok-answer.ensures.stands
