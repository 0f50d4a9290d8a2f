use Rattle.std.proofs.Common.{rules, ◌≡◌, sym, ◌∙◌}
use Rattle.ber_core.specs.Views.{parts}
use Rattle.tcap_pdu.specs.FrameViews.{message}
use Rattle.tcap_words.specs.Verdict.{message_verdict}
use Rattle.tcap_words.specs.declared.verdict.Verdict.TheVariants.{Component, Dialogue}
use Rattle.tcap_explain.proofs.MessageRead.{explained-component, explained-dialogue, message-read, verdict-is}
use Rattle.tcap_explain.proofs.by_message.explain_message.Goals as goal

pub returns-in-Component : goal.returns-in-Component
returns-in-Component c =
    let e = parts c.args.element.now in
    let m = message c.args.frame.now in
    let faulty : message_verdict m ≡ Component c.in-Component.number = search rules in
    c.explain_component.ensures ∙ sym (explained-component e.whole m c.in-Component.number (message-read e m c.requires.element c.requires.size c.requires.frame) faulty)

pub returns-in-Dialogue : goal.returns-in-Dialogue
returns-in-Dialogue c =
    let e = parts c.args.element.now in
    let m = message c.args.frame.now in
    let faulty : message_verdict m ≡ Dialogue = search rules in
    c.explain_dialogue.ensures ∙ sym (explained-dialogue e.whole m (message-read e m c.requires.element c.requires.size c.requires.frame) faulty)

pub returns-in-TooLong : goal.returns-in-TooLong
returns-in-TooLong c =
    let e = parts c.args.element.now in
    let m = message c.args.frame.now in
    c.explain_verdict.ensures.judged (c.requires.verdict ∙ verdict-is e.whole m (message-read e m c.requires.element c.requires.size c.requires.frame))
