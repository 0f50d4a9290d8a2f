use Rattle.std.proofs.Common.{refl}
use Rattle.tcap_pdu.proofs.dialogue_pdu.plain.skip_version1.Goals as goal

pub returns-in-Some-clause-goes_on : goal.returns-in-Some-clause-goes_on
returns-in-Some-clause-goes_on c = c.in-Some.ensures.goes_on 0xa1 refl
