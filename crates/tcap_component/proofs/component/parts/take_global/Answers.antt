use Rattle.ber_core.proofs.CallerLemmas.{way-one}
use Rattle.tcap_component.proofs.component.parts.take_global.Goals as goal

pub returns-clause-place : goal.returns-clause-place
returns-clause-place c = (way-one 0x06 c.in_ok-octets.octets c.args.bytes c.in_ok-octets.ensures.inside, c.in_ok-octets.ensures.place.1)
