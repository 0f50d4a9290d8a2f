use Rattle.tcap_examples.proofs.ForgedMessages.{forged-legal, forged-not_carried, forged-no_origin, forged-no_operation}
use Rattle.tcap_examples.proofs.statements.two_ends.messages_that_are_forged.Goals as goal

pub returns-clause-legal : goal.returns-clause-legal
returns-clause-legal c = forged-legal

pub returns-clause-not_carried : goal.returns-clause-not_carried
returns-clause-not_carried c = forged-not_carried

pub returns-clause-no_origin : goal.returns-clause-no_origin
returns-clause-no_origin c = forged-no_origin

pub returns-clause-no_operation : goal.returns-clause-no_operation
returns-clause-no_operation c = forged-no_operation
