use Rattle.tcap_engine.specs.StepForm.{outputs_answer}
use Rattle.tcap_model.specs.Words.Event.{Event}
use Rattle.tcap_callers.proofs.TwoCalls.{stands_on_both}
use Rattle.tcap_callers.proofs.engine_callers.hear_at.Goals as goal

pub returns : goal.returns
returns g c =
    stands_on_both outputs_answer outputs_answer c.receive-heard.result c.advance-lapsed.result (Event.received c.args.from.now c.args.bytes.now) (Event.moment c.args.now) c.args.engine.now c.receive-heard.new.self c.advance-lapsed.new.self c.receive-heard.ensures.stands c.advance-lapsed.ensures.stands
