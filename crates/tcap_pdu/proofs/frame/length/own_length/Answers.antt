use Rattle.std.proofs.Common.{refl}
use Rattle.tcap_pdu.specs.FrameViews.{message}
use Rattle.tcap_pdu.proofs.MeasuredGrammar.{own-above, own-measured}
use Rattle.tcap_pdu.proofs.frame.length.own_length.Goals as goal

pub returns-in_err-contents-clause-none : goal.returns-in_err-contents-clause-none
returns-in_err-contents-clause-none c =
    own-above (message c.args.frame.now) c.dialogue_len.result c.from_residual.result c.dialogue_len.ensures c.in_err-contents.ensures.none

pub returns-clause-some : goal.returns-clause-some
returns-clause-some c =
    own-measured _ (message c.args.frame.now) c.dialogue_len.result c.dialogue_len.ensures c.in_ok-contents.ensures.some.0 refl c.in_ok-contents.ensures.some.1
