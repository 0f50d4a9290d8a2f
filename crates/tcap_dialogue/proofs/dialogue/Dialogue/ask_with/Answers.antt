use Rattle.std.proofs.Common.{ap, ◌∙◌}
use Rattle.tcap_dialogue.specs.StepViews.{asked}
use Rattle.tcap_dialogue.proofs.CallerLemmas.{refused-same}
use Rattle.tcap_model.specs.Table.Dialogue.{Dialogue}
use Rattle.tcap_primitives.specs.FaultViews.{fault_view}
use Rattle.tcap_primitives.specs.RequestViews.{request_view}
use Rattle.tcap_dialogue.proofs.dialogue.Dialogue.ask_with.Goals as goal

pub give_back-requires-clause-wait : goal.give_back-requires-clause-wait
give_back-requires-clause-wait g c =
    let same = refused-same (asked c.args.clock c.args.number) (request_view c.args.request.now) c.borrow.new.self c.ask_into.new.self (fault_view c.in-Err.fault) c.in-Err.ensures.answer.1 in
    ap (λ (d : Dialogue). d.invocations.reject_ms) (same ∙ c.borrow.ensures) ∙ c.requires.wait
