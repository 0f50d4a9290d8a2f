-- A feed as a contract sees it.
use Rattle.std.specs.Prelude.{◌≡◌, ℕ, List, [], Option, Some, None}
use Rattle.ber_core.specs.declared.fault.FeedFault.{FeedFault}
use Rattle.ber_core.specs.declared.scanner.Scanner.{Scanner}
use Rattle.ber_core.specs.Pieces.{IsUnderWay}

-- What keeps a feed's parts together: the scanner stands behind the octets that are held, and none
-- are held once there is a fault (own).
abbrev pub IsFeed : Option FeedFault → Scanner → List ℕ → Type 0
IsFeed None s octets = IsUnderWay s octets
IsFeed (Some fault) s octets = octets ≡ []
