use Rattle.std.proofs.Common.{◌∙◌}
use Rattle.ber_core.specs.Views.{parts}
use Rattle.tcap_pdu.specs.FrameViews.{message}
use Rattle.tcap_judging.proofs.ElementVerdicts.{frame-verdict}
use Rattle.tcap_judging.proofs.by_element.judge_frame.Goals as goal

pub found_in-requires-clause-of_octets : goal.found_in-requires-clause-of_octets
found_in-requires-clause-of_octets c =
    c.judge_message-verdict.ensures ∙ frame-verdict (parts c.args.element.now) (message c.args.frame.now) c.requires.is_element c.requires.most c.requires.is_frame

pub invariant_of-result : goal.invariant_of-result
invariant_of-result c = record {
  is_verdict = c.judge_message-verdict.ensures ∙ frame-verdict (parts c.args.element.now) (message c.args.frame.now) c.requires.is_element c.requires.most c.requires.is_frame;
  is_found = c.found_in.ensures;
}
