use Rattle.tcap_laws.proofs.Table.OtherDialogues.{unnamed-stays}
use Rattle.tcap_laws.proofs.agreeing.others_stay.Goals as goal

pub returns : goal.returns
returns c h dialogue d event legal = unnamed-stays h dialogue d event legal
