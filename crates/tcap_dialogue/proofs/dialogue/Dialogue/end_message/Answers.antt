use Rattle.tcap_dialogue.proofs.DialogueRequestLemmas.{early-due}
use Rattle.tcap_dialogue.specs.StepViews.{asked}
use Rattle.tcap_model.specs.Table.TableMove.{situation}
use Rattle.tcap_model.specs.Words.Request.{Request}
use Rattle.tcap_primitives.specs.FaultViews.{fault_view}
use Rattle.tcap_primitives.specs.RequestViews.{end_view}
use Rattle.tcap_dialogue.proofs.dialogue.Dialogue.end_message.Goals as goal

pub returns-in-Some-clause-err : goal.returns-in-Some-clause-err
returns-in-Some-clause-err g c =
    let request = end_view c.args.request.now in
    let due = c.end_fault.ensures in
    early-due (situation (asked 0 0) c.args.self.now (Request.dialogue request)) request (fault_view c.in-Some.fault) (rw (c.in-Some.is) at due)
