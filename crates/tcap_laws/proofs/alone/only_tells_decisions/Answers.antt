use Rattle.tcap_laws.proofs.Isolation.SeenDecisions.{only_decision, only_held, only_pending}
use Rattle.tcap_laws.proofs.Isolation.SeenInvocations.{found_own}
use Rattle.tcap_laws.proofs.alone.only_tells_decisions.Goals as goal

pub returns-clause-decision : goal.returns-clause-decision
returns-clause-decision c =
    λ h dialogue n i legal found own. only_decision h.start dialogue n h.pairs legal.1
    (found_own h.start dialogue h.pairs legal.1 n i found own)

pub returns-clause-held : goal.returns-clause-held
returns-clause-held c = λ h reject_ms dialogue id legal. only_held h.start dialogue reject_ms id h.pairs legal.1

pub returns-clause-pending : goal.returns-clause-pending
returns-clause-pending c = λ h dialogue id legal. only_pending h.start dialogue id h.pairs legal.1
