use Rattle.tcap_examples.proofs.OriginsMissing.{crossed-carried, crossed-legal, crossed-no_origin}
use Rattle.tcap_examples.proofs.statements.wrong_nets.a_result_of_another_dialogue.Goals as goal

pub returns-clause-carried : goal.returns-clause-carried
returns-clause-carried c = crossed-carried

pub returns-clause-other_legal : goal.returns-clause-other_legal
returns-clause-other_legal c = crossed-legal

pub returns-clause-no_origin : goal.returns-clause-no_origin
returns-clause-no_origin c = crossed-no_origin
