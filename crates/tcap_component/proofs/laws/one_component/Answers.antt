use Rattle.std.proofs.Common.{[], refl}
use Rattle.tcap_component.proofs.ComponentGrammar.{one_component, same_octets}
use Rattle.tcap_component.proofs.laws.one_component.Goals as goal

pub returns-clause-one : goal.returns-clause-one
returns-clause-one c p q bytes h k = (one_component p q bytes bytes [] [] h k refl).0

pub returns-clause-no_prefix : goal.returns-clause-no_prefix
returns-clause-no_prefix c p q v w x y h k e = same_octets p q v w x y h k e
