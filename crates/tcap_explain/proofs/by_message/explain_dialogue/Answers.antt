use Rattle.ber_core.specs.Views.{parts}
use Rattle.tcap_pdu.specs.FrameViews.{message}
use Rattle.tcap_explain.proofs.ListedLemmas.{message-listed}
use Rattle.tcap_explain.proofs.by_message.explain_dialogue.Goals as goal

pub way_within-before-requires-clause-listed : goal.way_within-before-requires-clause-listed
way_within-before-requires-clause-listed c = message-listed (message c.args.frame.now) (parts c.args.element.now) c.requires.frame
