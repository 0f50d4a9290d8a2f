use Rattle.tcap_record.proofs.RecordLaws.{one_place}
use Rattle.tcap_record.proofs.laws.one_place.Goals as goal

pub returns : goal.returns
returns c = λ octets place other. one_place octets place other
