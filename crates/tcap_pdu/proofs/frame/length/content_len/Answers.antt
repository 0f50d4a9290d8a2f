use Rattle.std.proofs.Common.{rules, ◌≡◌, ◌<◌}
use Rattle.tcap_pdu.specs.FrameLength.{reason_length}
use Rattle.tcap_pdu.specs.FrameViews.{reason_of}
use Rattle.tcap_pdu.specs.FrameWritten.{message_limit}
use Rattle.tcap_pdu.proofs.frame.length.content_len.Goals as goal

pub returns-in_err-reason_len-in-Abort-clause-none : goal.returns-in_err-reason_len-in-Abort-clause-none
returns-in_err-reason_len-in-Abort-clause-none c =
    let above : message_limit < reason_length c.args.dialogue (reason_of c.in-Abort.reason) = c.in_err-reason_len-in-Abort.ensures.none in
    search rules

pub returns-in-Abort-clause-some : goal.returns-in-Abort-clause-some
returns-in-Abort-clause-some c =
    let length : c.in_ok-reason_len-in-Abort.field-0 ≡ reason_length c.args.dialogue (reason_of c.in-Abort.reason) = c.in_ok-reason_len-in-Abort.ensures.some.0 in
    search rules
