use Rattle.tcap_laws.proofs.Submission.SentOctets.{have-same}
use Rattle.tcap_laws.proofs.sending.components_are_one.Goals as goal

pub returns : goal.returns
returns c = have-same
