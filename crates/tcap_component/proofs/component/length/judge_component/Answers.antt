use Rattle.std.proofs.Common.{rules}
use Rattle.tcap_component.proofs.component.length.judge_component.Goals as goal

pub returns-clause-value : goal.returns-clause-value
returns-clause-value c = search rules
