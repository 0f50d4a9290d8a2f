use Rattle.std.proofs.Common.{rules}
use Rattle.tcap_component.proofs.problem.Problem.code.Goals as goal

pub returns-clause-value : goal.returns-clause-value
returns-clause-value c = search rules
