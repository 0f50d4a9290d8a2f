use Rattle.std.proofs.Common.{rules}
use Rattle.tcap_reception.proofs.portion.judge_begin.Goals as goal

pub returns-in-None-clause-verdict : goal.returns-in-None-clause-verdict
returns-in-None-clause-verdict c = search rules
