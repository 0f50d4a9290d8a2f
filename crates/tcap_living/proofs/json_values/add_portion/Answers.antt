use Rattle.std.proofs.Common.{refl}
use Rattle.tcap_living.proofs.Appended.{behind}
use Rattle.tcap_living.proofs.json_values.add_portion.Goals as goal

pub returns : goal.returns
returns g c = behind c.add_octets_member.result _ _ _ _ _ _ c.in_ok-add_optional_member.ensures c.add_octets_member.ensures refl
