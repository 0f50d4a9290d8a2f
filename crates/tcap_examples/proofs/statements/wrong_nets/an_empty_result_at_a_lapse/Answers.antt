use Rattle.tcap_examples.proofs.OriginsMissing.{empty-no_origin}
use Rattle.tcap_examples.proofs.statements.wrong_nets.an_empty_result_at_a_lapse.Goals as goal

pub returns-clause-no_origin : goal.returns-clause-no_origin
returns-clause-no_origin c = empty-no_origin
