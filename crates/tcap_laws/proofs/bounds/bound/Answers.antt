use Rattle.tcap_laws.proofs.Births.BoundedDialogues.{dialogues-bounded}
use Rattle.tcap_laws.proofs.Table.BoundedIdentifiers.{identifiers-bounded}
use Rattle.tcap_laws.proofs.Queues.BoundedQueues.{queues-bounded}
use Rattle.tcap_laws.proofs.bounds.bound.Goals as goal

pub returns : goal.returns
returns c = λ h legal. record {
  dialogues = dialogues-bounded h.start h.pairs legal.1;
  identifiers = identifiers-bounded h.start h.pairs legal.1 h.start.reject_ms;
  queues = λ dialogue. queues-bounded h.start h.pairs legal.1 dialogue;
}
