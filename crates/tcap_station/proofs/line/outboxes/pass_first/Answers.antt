use Rattle.std.proofs.Common.{◌++◌, ◌∙◌, ap, arith, List}
use Rattle.tcap_model.specs.Words.Output.{Output}
use Rattle.tcap_station.proofs.OutboxLemmas.{taken-front}
use Rattle.tcap_station.proofs.line.outboxes.pass_first.Goals as goal

pub returns-then-taken-len-clause-rest : goal.returns-then-taken-len-clause-rest
returns-then-taken-len-clause-rest g c =
    ap (λ (os : List Output). os ++ c.args.back.now.outputs) c.pass_in_front.ensures.rest
    ∙ taken-front c.args.taken.now c.args.front.now.outputs c.args.back.now.outputs (omega (arith, c.if-taken-len.true, c.len.ensures))
