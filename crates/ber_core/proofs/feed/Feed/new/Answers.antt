use Rattle.std.proofs.Common.{rules}
use Rattle.ber_core.proofs.FeedSteps.{nothing_left}
use Rattle.ber_core.proofs.feed.Feed.new.Goals as goal

pub returns : goal.returns
returns g c = search (rules, nothing_left)
