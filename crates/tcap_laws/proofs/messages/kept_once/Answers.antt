use Rattle.tcap_laws.proofs.Peers.KeptOnce.{keeps-for-good, keeps-the-first-sender}
use Rattle.tcap_laws.proofs.messages.kept_once.Goals as goal

pub returns-clause-for_good : goal.returns-clause-for_good
returns-clause-for_good c = keeps-for-good

pub returns-clause-first_sender : goal.returns-clause-first_sender
returns-clause-first_sender c = keeps-the-first-sender
