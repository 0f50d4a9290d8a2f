use Rattle.std.proofs.Common.{rules}
use Rattle.ber_core.proofs.feed.Feed.rest_len.Goals as goal

pub returns : goal.returns
returns g c = search rules
