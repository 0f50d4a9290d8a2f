use Rattle.std.proofs.Common.{rules}
use Rattle.ber_core.proofs.write.write_element.Goals as goal

pub returns-in_err-reserve-clause-full : goal.returns-in_err-reserve-clause-full
returns-in_err-reserve-clause-full g c = search rules
