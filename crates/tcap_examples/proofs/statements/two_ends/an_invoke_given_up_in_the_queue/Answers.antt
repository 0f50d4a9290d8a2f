use Rattle.tcap_examples.proofs.LastMessages.{cancelled-never-sent}
use Rattle.tcap_examples.proofs.statements.two_ends.an_invoke_given_up_in_the_queue.Goals as goal

pub returns : goal.returns
returns c = cancelled-never-sent
