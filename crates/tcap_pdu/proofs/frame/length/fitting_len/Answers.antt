use Rattle.std.proofs.Common.{arith}
use Rattle.tcap_pdu.specs.FrameViews.{message}
use Rattle.tcap_pdu.proofs.LengthGrammar.{counted, above}
use Rattle.tcap_pdu.proofs.frame.length.fitting_len.Goals as goal

pub returns-in_err-content-clause-none : goal.returns-in_err-content-clause-none
returns-in_err-content-clause-none c = above (message c.args.frame.now) c.args.dialogue c.from_residual.result c.in_err-content.ensures.none

pub returns-then-element_len-gt-MAX_MESSAGE-clause-none : goal.returns-then-element_len-gt-MAX_MESSAGE-clause-none
returns-then-element_len-gt-MAX_MESSAGE-clause-none c =
    let total = counted (message c.args.frame.now) c.args.dialogue c.in_ok-content.content c.element_len.result c.in_ok-content.ensures.some.0 c.element_len.ensures in
    omega (arith, total, c.if-element_len-gt-MAX_MESSAGE.true)

pub returns-clause-some : goal.returns-clause-some
returns-clause-some c =
    let total = counted (message c.args.frame.now) c.args.dialogue c.in_ok-content.content c.element_len.result c.in_ok-content.ensures.some.0 c.element_len.ensures in
    (c.in_ok-content.ensures.some.0, omega (arith, total, c.if-element_len-gt-MAX_MESSAGE.false))
