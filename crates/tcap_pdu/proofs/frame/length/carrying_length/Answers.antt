use Rattle.std.proofs.Common.{refl}
use Rattle.tcap_pdu.specs.DialogueViews.{pdu_value}
use Rattle.tcap_pdu.specs.FrameViews.{message}
use Rattle.tcap_pdu.proofs.FrameCarrying.{context-good}
use Rattle.tcap_pdu.proofs.MeasuredGrammar.{carrying-above, carrying-measured}
use Rattle.tcap_pdu.proofs.frame.length.carrying_length.Goals as goal

pub portion_len-dialogue-requires : goal.portion_len-dialogue-requires
portion_len-dialogue-requires c = context-good (pdu_value c.args.pdu.now) c.requires

pub returns-in_err-contents-clause-none : goal.returns-in_err-contents-clause-none
returns-in_err-contents-clause-none c =
    carrying-above (pdu_value c.args.pdu.now) (message c.args.frame.now) c.portion_len-dialogue.result c.from_residual.result c.portion_len-dialogue.ensures c.in_err-contents.ensures.none

pub returns-clause-some : goal.returns-clause-some
returns-clause-some c =
    carrying-measured _ (pdu_value c.args.pdu.now) (message c.args.frame.now) c.portion_len-dialogue.result c.portion_len-dialogue.ensures c.in_ok-contents.ensures.some.0 refl c.in_ok-contents.ensures.some.1
