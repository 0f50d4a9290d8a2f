use Rattle.tcap_pdu.proofs.FrontGrammar.{found, only}
use Rattle.tcap_pdu.proofs.frame.front.front_ids.Goals as goal

pub returns-clause-found : goal.returns-clause-found
returns-clause-found c = found c.args.bytes.now c.split_front.result.0 c.split_front.result.1 c.split_front.ensures

pub returns-clause-only : goal.returns-clause-only
returns-clause-only c = only c.args.bytes.now c.split_front.result.0 c.split_front.result.1 c.split_front.ensures
