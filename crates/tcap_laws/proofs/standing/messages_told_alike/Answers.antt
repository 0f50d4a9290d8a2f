use Rattle.tcap_laws.proofs.Table.LastAnswersAlike.{fault-agrees, abort-agrees, continue-agrees, end-agrees}
use Rattle.tcap_laws.proofs.standing.messages_told_alike.Goals as goal

pub returns-clause-fault : goal.returns-clause-fault
returns-clause-fault c h dialogue d cause legal = fault-agrees h dialogue legal d cause

pub returns-clause-abort : goal.returns-clause-abort
returns-clause-abort c h dialogue d from to reason legal = abort-agrees h dialogue legal d from to reason

pub returns-clause-continued : goal.returns-clause-continued
returns-clause-continued c h dialogue d from origin to portion components legal =
    continue-agrees h dialogue legal d from origin to portion components

pub returns-clause-abnormal_end : goal.returns-clause-abnormal_end
returns-clause-abnormal_end c h dialogue d from to portion components legal =
    end-agrees h dialogue legal d from to portion components
