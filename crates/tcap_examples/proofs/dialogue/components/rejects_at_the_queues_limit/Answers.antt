use Rattle.std.proofs.Common.{refl}
use Rattle.tcap_examples.specs.Computing.{computing}
use Rattle.tcap_examples.proofs.dialogue.components.rejects_at_the_queues_limit.Goals as goal

pub returns-clause-usual_limit : goal.returns-clause-usual_limit
unfolding computing
returns-clause-usual_limit c = refl
