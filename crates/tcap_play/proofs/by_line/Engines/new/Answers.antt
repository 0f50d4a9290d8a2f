use Rattle.tcap_play.proofs.PlayStarts.{starts}
use Rattle.tcap_play.proofs.by_line.Engines.new.Goals as goal

pub returns : goal.returns
returns g c =
    starts c.args.idle_ms c.begun.result c.begun-2.result c.begun.ensures.stands c.begun-2.ensures.stands c.begun.ensures.sent c.begun-2.ensures.sent
