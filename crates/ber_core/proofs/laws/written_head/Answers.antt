use Rattle.ber_core.proofs.WrittenGrammar.{head_spelled, shortest}
use Rattle.ber_core.proofs.laws.written_head.Goals as goal

pub returns-clause-spelled : goal.returns-clause-spelled
returns-clause-spelled c = head_spelled

pub returns-clause-shortest : goal.returns-clause-shortest
returns-clause-shortest c = shortest
