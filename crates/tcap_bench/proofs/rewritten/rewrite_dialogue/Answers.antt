use Rattle.tcap_pdu.specs.DialogueViews.{pdu_value}
use Rattle.tcap_pdu.proofs.CallerLemmas.{spelled_diagnostic}
use Rattle.tcap_bench.proofs.rewritten.rewrite_dialogue.Goals as goal

pub write_dialogue-requires : goal.write_dialogue-requires
write_dialogue-requires c = spelled_diagnostic (pdu_value c.in-Ok.pdu) c.args.content.now c.in-Ok.ensures.found
