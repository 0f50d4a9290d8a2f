use Rattle.std.proofs.Common.{subst}
use Rattle.tcap_pdu.specs.DialogueViews.{pdu_value}
use Rattle.tcap_pdu.proofs.CallerLemmas.{spelled_diagnostic}
use Rattle.tcap_pdu.specs.DialogueWritten.{WriteFault}
use Rattle.tcap_words.proofs.CanonicalFaults.{context_written, information_written}
use Rattle.tcap_words.proofs.rewrite.rewrite_dialogue.Goals as goal

pub write_dialogue-requires : goal.write_dialogue-requires
write_dialogue-requires g c = spelled_diagnostic (pdu_value c.in-Ok.pdu) c.args.content.now c.in-Ok.ensures.found

pub canon_fault-requires-clause-context : goal.canon_fault-requires-clause-context
canon_fault-requires-clause-context g c is = context_written (pdu_value c.in-Ok.pdu) c.args.content.now c.in-Ok.ensures.found (subst (WriteFault (pdu_value c.in-Ok.pdu)) is c.in-Err.ensures.err)

pub canon_fault-requires-clause-information : goal.canon_fault-requires-clause-information
canon_fault-requires-clause-information g c is = information_written (pdu_value c.in-Ok.pdu) c.args.content.now c.in-Ok.ensures.found (subst (WriteFault (pdu_value c.in-Ok.pdu)) is c.in-Err.ensures.err)
