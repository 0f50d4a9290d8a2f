use Rattle.tcap_record.proofs.RecordLaws.{one_log}
use Rattle.tcap_record.proofs.laws.one_log.Goals as goal

pub returns : goal.returns
returns c = λ some others. one_log some others
