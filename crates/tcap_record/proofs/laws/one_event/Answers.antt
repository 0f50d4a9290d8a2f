use Rattle.tcap_record.proofs.RecordLaws.{one_event}
use Rattle.tcap_record.proofs.laws.one_event.Goals as goal

pub returns : goal.returns
returns c = λ one other behind rest. one_event one other behind rest
