use Rattle.std.proofs.Common.{rules}
use Rattle.ber_core.proofs.feed.hold.Goals as goal

pub returns-clause-ok : goal.returns-clause-ok
returns-clause-ok g c = search rules
