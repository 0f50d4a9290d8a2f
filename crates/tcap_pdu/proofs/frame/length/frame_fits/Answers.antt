use Rattle.std.proofs.Common.{◌∙◌, sym}
use Rattle.tcap_pdu.specs.FrameViews.{message}
use Rattle.tcap_pdu.proofs.LengthGrammar.{fits-with}
use Rattle.tcap_pdu.proofs.frame.length.frame_fits.Goals as goal

pub returns-clause-written : goal.returns-clause-written
returns-clause-written c own same = fits-with (message c.args.frame.now) own c.nonzero.result c.fits.result (same ∙ sym c.nonzero.ensures) c.fits.ensures
