use Rattle.tcap_laws.proofs.Isolation.SeenQueues.{only_handled, only_queue}
use Rattle.tcap_laws.proofs.alone.only_tells_queue.Goals as goal

pub returns-clause-queue : goal.returns-clause-queue
returns-clause-queue c = λ h dialogue legal. only_queue h.start dialogue h.pairs legal.1

pub returns-clause-handled : goal.returns-clause-handled
returns-clause-handled c = λ h dialogue components legal. only_handled h.start dialogue h.pairs legal.1 components
