use Rattle.ber_core.proofs.WrittenGrammar.{element_spelled, element_written}
use Rattle.ber_core.proofs.laws.written_element.Goals as goal

pub returns-clause-spelled : goal.returns-clause-spelled
returns-clause-spelled c = element_spelled

pub returns-clause-read : goal.returns-clause-read
returns-clause-read c = element_written
