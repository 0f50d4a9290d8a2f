use Rattle.tcap_laws.proofs.Isolation.SeenInvocations.{found_only, found_own, found_span, found_deadline, only_outcome}
use Rattle.tcap_laws.proofs.alone.only_tells_invocations.Goals as goal
use Rattle.tcap_laws.proofs.Isolation.OwnInvocations.{only_invocations, only_latest}

pub returns-clause-all : goal.returns-clause-all
returns-clause-all c = λ h dialogue legal. only_invocations h.start dialogue h.pairs legal.1

pub returns-clause-latest : goal.returns-clause-latest
returns-clause-latest c = λ h dialogue id legal. only_latest h.start dialogue id h.pairs legal.1

pub returns-clause-found : goal.returns-clause-found
returns-clause-found c = λ h dialogue n i legal found own. found_only h.start dialogue h.pairs legal.1 n i found own

pub returns-clause-span : goal.returns-clause-span
returns-clause-span c = λ h dialogue n i legal found own. found_span h.start dialogue h.pairs legal.1 n i found own

pub returns-clause-deadline : goal.returns-clause-deadline
returns-clause-deadline c =
    λ h dialogue n i legal found own. found_deadline h.start dialogue h.pairs legal.1 n i found own

pub returns-clause-outcome : goal.returns-clause-outcome
returns-clause-outcome c =
    λ h dialogue n i legal found own. only_outcome h.start dialogue h.pairs legal.1 n
    (found_own h.start dialogue h.pairs legal.1 n i found own)
