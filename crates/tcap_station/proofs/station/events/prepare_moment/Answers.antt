use Rattle.std.proofs.Common.{rules}
use Rattle.tcap_station.proofs.station.events.prepare_moment.Goals as goal

pub returns-in_err-make_place-clause-err : goal.returns-in_err-make_place-clause-err
returns-in_err-make_place-clause-err g c = search rules
