use Rattle.std.proofs.Common.{rules, ◌≡◌}
use Rattle.tcap_model.specs.Procedures.RequestMessage.{user_abort}
use Rattle.tcap_primitives.specs.ContextViews.{context_view}
use Rattle.tcap_primitives.specs.SendingViews.{portion_view, reason_with}
use Rattle.tcap_dialogue.proofs.dialogue.Dialogue.user_abort_sending.Goals as goal

pub returns-in-Received-clause-message : goal.returns-in-Received-clause-message
returns-in-Received-clause-message g c =
    let portion : reason_with (portion_view c.abort_pdu.result) ≡ user_abort (context_view c.self.inside.context) c.args.info.now = c.abort_pdu.ensures.portion in
    search rules

pub returns-in-Received-clause-sound : goal.returns-in-Received-clause-sound
returns-in-Received-clause-sound g c = c.abort_pdu.ensures.sound
