use Rattle.std.proofs.Common.{rules}
use Rattle.tcap_text.proofs.status.verdict_status.Goals as goal

pub returns-in-false : goal.returns-in-false
returns-in-false c = search rules
