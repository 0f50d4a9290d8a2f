use Rattle.std.proofs.Common.{sym, subst}
use Rattle.tcap_pdu.specs.FrameViews.{message}
use Rattle.tcap_pdu.specs.FrameSpelling.{SpellsFrame}
use Rattle.tcap_pdu.proofs.WrittenFrameGrammar.{written_spelled}
use Rattle.tcap_pdu.proofs.frame.write.write_frame.Goals as goal

pub returns-clause-spelled : goal.returns-clause-spelled
returns-clause-spelled g c =
    let m = message c.args.frame.now in
    subst (SpellsFrame m) (sym c.in_ok-spell_frame.ensures) (written_spelled m c.in-Some.ensures.ids c.requires c.in-Some.ensures.some.is_within)
