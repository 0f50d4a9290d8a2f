use Rattle.std.proofs.Common.{sym, ◌∙◌, arith}
use Rattle.tcap_pdu.specs.DialogueViews.{pdu_value}
use Rattle.tcap_pdu.specs.DialogueWritten.{written_dialogue}
use Rattle.tcap_pdu.specs.FrameViews.{message}
use Rattle.tcap_pdu.proofs.DialogueLength.{length-dialogue}
use Rattle.tcap_pdu.proofs.FrameCarrying.{held-within}
use Rattle.tcap_pdu.proofs.frame.put.put_carried.Goals as goal

pub put_portion-requires-clause-short : goal.put_portion-requires-clause-short
put_portion-requires-clause-short g c =
    let p = pdu_value c.args.pdu.now in
    let within = held-within (written_dialogue p) (message c.args.frame.now) (sym c.has_place.ensures ∙ c.if-has_place.true) c.requires.short in
    omega (arith, within, length-dialogue p)
