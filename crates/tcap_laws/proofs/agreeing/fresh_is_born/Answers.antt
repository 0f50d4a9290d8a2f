use Rattle.tcap_laws.proofs.Rows.NoRowsAtBirth.{fresh-born}
use Rattle.tcap_laws.proofs.agreeing.fresh_is_born.Goals as goal

pub returns : goal.returns
returns c h legal = fresh-born h legal
