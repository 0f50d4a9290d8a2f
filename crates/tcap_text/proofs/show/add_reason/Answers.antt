use Rattle.std.proofs.Common.{rules}
use Rattle.tcap_text.proofs.show.add_reason.Goals as goal

pub returns-in-Cause : goal.returns-in-Cause
returns-in-Cause g c = search rules
