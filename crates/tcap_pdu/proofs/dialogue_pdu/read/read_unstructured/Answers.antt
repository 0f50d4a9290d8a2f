use Rattle.std.proofs.Common.{[]}
use Rattle.tcap_pdu.proofs.DialoguePlaceSteps.{held-in}
use Rattle.tcap_pdu.proofs.dialogue_pdu.read.read_unstructured.Goals as goal

pub returns-clause-place : goal.returns-clause-place
returns-clause-place c =
    let r = c.in_ok-version1 in
    held-in [] 0x60 r.context r.info c.in_ok-content.content c.args.bytes c.in_ok-content.ensures.inside (r.ensures.context, r.ensures.info)
