use Rattle.std.proofs.Common.{arith}
use Rattle.tcap_station.proofs.OutboxLemmas.{taken-last}
use Rattle.tcap_station.proofs.line.outboxes.pass_behind.Goals as goal

pub returns-else-len-gt1-clause-rest : goal.returns-else-len-gt1-clause-rest
returns-else-len-gt1-clause-rest g c =
    taken-last c.args.taken.now c.args.front.now.outputs c.args.back.now.outputs c.clear.new.self.outputs c.requires c.clear.ensures.outputs
    (omega (arith, c.if-len-gt1.false, c.len.ensures))
