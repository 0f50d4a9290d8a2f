use Rattle.std.proofs.Common.{sym}
use Rattle.tcap_lines.proofs.FitsLemmas.{undotted}
use Rattle.tcap_lines.proofs.fits.is_dotted.Goals as goal

pub returns-in-Err : goal.returns-in-Err
returns-in-Err c = sym (undotted c.args.word.now c.in-Err.ensures.cases.0)
