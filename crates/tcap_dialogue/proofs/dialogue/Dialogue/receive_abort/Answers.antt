use Rattle.tcap_pdu.specs.FramePortions.{reason_slice}
use Rattle.tcap_dialogue.proofs.dialogue.Dialogue.receive_abort.Goals as goal

pub returns-clause-place : goal.returns-clause-place
returns-clause-place g c components before =
    c.over_with.ensures.place (reason_slice c.args.reason.now) components (c.abort_told-told.ensures.place components) before
