use Rattle.std.proofs.Common.{ap, ◌∙◌}
use Rattle.tcap_dialogue.specs.StepViews.{asked}
use Rattle.tcap_dialogue.proofs.CallerLemmas.{refused-same}
use Rattle.tcap_model.specs.Table.Dialogue.{Dialogue}
use Rattle.tcap_model.specs.Table.TableMove.{table_move}
use Rattle.tcap_model.specs.Words.Request.{Request}
use Rattle.tcap_primitives.specs.FaultViews.{fault_view}
use Rattle.tcap_primitives.specs.RequestViews.{last_view}
use Rattle.tcap_dialogue.proofs.dialogue.Dialogue.result_last_with.Goals as goal

pub give_back-requires-clause-wait : goal.give_back-requires-clause-wait
unfolding table_move
give_back-requires-clause-wait g c =
    let same = refused-same (asked 0 0) (Request.component (last_view c.args.request.now)) c.borrow_queue.new.self c.queue_result_last.new.self (fault_view c.in-Err.fault) c.in-Err.ensures.answer in
    ap (λ (d : Dialogue). d.invocations.reject_ms) (same ∙ c.borrow_queue.ensures) ∙ c.requires.wait
