use Rattle.std.proofs.Common.{rules}
use Rattle.ber_core.proofs.feed.Feed.fault.Goals as goal

pub returns : goal.returns
returns g c = search rules
