use Rattle.std.proofs.Common.{rules, ◌≡◌, ◌∙◌, ap, None, Some}
use Rattle.ber_core.specs.Views.{parts}
use Rattle.tcap_pdu.specs.FrameViews.{message}
use Rattle.tcap_words.specs.Verdict.{is_good}
use Rattle.tcap_judging.proofs.ElementVerdicts.{unread-bad, verdict-read}
use Rattle.tcap_judging.specs.ByElement.{message_in}
use Rattle.tcap_judging.proofs.by_element.is_good_element.Goals as goal

pub returns-in-Some : goal.returns-in-Some
returns-in-Some c =
    let is : message_in (parts c.args.element.now) ≡ Some (message c.in-Some.frame) = search rules in
    c.is_good.ensures ∙ ap is_good (c.judge_message.ensures ∙ verdict-read (parts c.args.element.now) _ c.requires.is_element c.requires.most is)

pub returns-in-None : goal.returns-in-None
returns-in-None c =
    let is : message_in (parts c.args.element.now) ≡ None = search rules in
    unread-bad (parts c.args.element.now) c.requires.is_element c.requires.most is
