use Rattle.std.proofs.Common.{rules}
use Rattle.tcap_engine.proofs.StandingLemmas.{stands_after}
use Rattle.tcap_engine.specs.StepForm.{since_answer}
use Rattle.tcap_model.specs.Words.Event.{Event}
use Rattle.tcap_model.specs.Words.InRange.{InRange}
use Rattle.tcap_engine.proofs.engine.Engine.advance_into.Goals as goal

-- What is answered at once appends nothing.
pub returns-in-Some-clause-stands : goal.returns-in-Some-clause-stands
returns-in-Some-clause-stands g c =
    let outputs = c.args.outbox.now.outputs in
    let within : InRange (Event.moment c.args.now) = search rules in
    stands_after (since_answer outputs outputs) c.in-Some.answer _ _ _ within (c.in-Some.ensures.answered outputs)
