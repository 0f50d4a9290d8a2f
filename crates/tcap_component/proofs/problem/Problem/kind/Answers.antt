use Rattle.std.proofs.Common.{refl}
use Rattle.tcap_component.proofs.problem.Problem.kind.Goals as goal

pub returns : goal.returns
returns c = refl
