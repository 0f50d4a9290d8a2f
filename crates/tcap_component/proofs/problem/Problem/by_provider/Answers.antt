use Rattle.std.proofs.Common.{rules}
use Rattle.tcap_component.proofs.problem.Problem.by_provider.Goals as goal

pub returns-in-Result : goal.returns-in-Result
returns-in-Result c = search rules
