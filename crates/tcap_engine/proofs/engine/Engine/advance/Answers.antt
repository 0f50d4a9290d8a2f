use Rattle.std.proofs.Common.{[], Ok, Err, rules}
use Rattle.tcap_engine.proofs.StandingLemmas.{stands_after}
use Rattle.tcap_engine.specs.StepForm.{outputs_answer, since_answer}
use Rattle.tcap_model.specs.Words.Event.{Event}
use Rattle.tcap_model.specs.Words.InRange.{InRange}
use Rattle.tcap_engine.proofs.engine.Engine.advance.Goals as goal

-- What is answered at once tells nothing.
pub returns-in-Some-Ok-clause-moves : goal.returns-in-Some-Ok-clause-moves
returns-in-Some-Ok-clause-moves g c = rw c.new.ensures.items (rw c.in-Some-Ok.field-0-is at (c.in-Some-Ok.ensures.answered []))

pub returns-in-Some-Ok-clause-stands : goal.returns-in-Some-Ok-clause-stands
returns-in-Some-Ok-clause-stands g c =
    let within : InRange (Event.moment c.args.now) = search rules in
    stands_after outputs_answer (Ok c.new.result) _ _ _ within (returns-in-Some-Ok-clause-moves g c)

pub returns-in-Some-Err-clause-moves : goal.returns-in-Some-Err-clause-moves
returns-in-Some-Err-clause-moves g c = rw c.in-Some-Err.fault-is (rw c.in-Some-Err.field-0-is at (c.in-Some-Err.ensures.answered []))

pub returns-in-Some-Err-clause-stands : goal.returns-in-Some-Err-clause-stands
returns-in-Some-Err-clause-stands g c =
    let within : InRange (Event.moment c.args.now) = search rules in
    rw c.in-Some-Err.fault-is (stands_after {T = Unit {0}} (since_answer [] []) (Err c.in-Some-Err.fault) (Event.moment c.args.now) c.args.self.now c.pass_if_still.new.self within (rw c.in-Some-Err.field-0-is at (c.in-Some-Err.ensures.answered [])))
