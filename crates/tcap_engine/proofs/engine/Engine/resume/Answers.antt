use Rattle.std.proofs.Common.{rules}
use Rattle.tcap_engine.proofs.StartLemmas.{begins}
use Rattle.tcap_engine.proofs.engine.Engine.resume.Goals as goal

pub returns-clause-value : goal.returns-clause-value
returns-clause-value g c = search rules

pub returns-clause-stands : goal.returns-clause-stands
returns-clause-stands g c =
    begins c.args.limits c.args.next_dialogue c.args.next_number _ c.requires c.short.ensures c.long.ensures (returns-clause-value g c)
