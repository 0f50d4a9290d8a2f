use Rattle.std.proofs.Common.{length, ◌-◌, subst}
use Rattle.tcap_engine.specs.EventViews.{answers_view, events_view}
use Rattle.tcap_engine.specs.Running.{StandsThrough, done}
use Rattle.tcap_callers.proofs.BothLemmas.{goes-on}
use Rattle.tcap_callers.proofs.two_engines.answered.Goals as goal

pub returns : goal.returns
returns g c =
    let two = c.several_engines.ensures in
    let old = c.new-answers.result.items in
    let new = c.run.new.answers.items in
    goes-on two.run two.sent two.given (events_view c.args.events.now) (length new - length old) (answers_view new)
    c.args.engine.now c.run.new.engine
    (λ h at. subst (λ xs. StandsThrough h (done old new (events_view c.args.events.now)) c.run.new.engine (answers_view xs) (answers_view new)) c.new-answers.ensures.items (c.run.ensures.stands h at))
