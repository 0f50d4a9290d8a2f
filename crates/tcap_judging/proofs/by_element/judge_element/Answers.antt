use Rattle.std.proofs.Common.{rules, ◌≡◌, ◌∙◌, None, Some}
use Rattle.ber_core.specs.Views.{parts}
use Rattle.tcap_pdu.specs.FrameViews.{message}
use Rattle.tcap_judging.proofs.ElementVerdicts.{frame-is, verdict-unread}
use Rattle.tcap_judging.specs.ByElement.{message_in}
use Rattle.tcap_judging.proofs.by_element.judge_element.Goals as goal

pub judge_frame-requires-clause-is_frame : goal.judge_frame-requires-clause-is_frame
judge_frame-requires-clause-is_frame c =
    let is : message_in (parts c.args.element.now) ≡ Some (message c.in-Some.frame) = search rules in
    frame-is (parts c.args.element.now) _ is

pub judged_so-requires : goal.judged_so-requires
judged_so-requires c =
    let is : message_in (parts c.args.element.now) ≡ None = search rules in
    c.verdict_on_unread.ensures ∙ verdict-unread (parts c.args.element.now) c.requires.is_element c.requires.most is
