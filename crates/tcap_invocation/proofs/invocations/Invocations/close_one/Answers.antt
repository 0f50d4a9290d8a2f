use Rattle.tcap_invocation.proofs.TellingLemmas.{ended_at-first}
use Rattle.tcap_invocation.proofs.invocations.Invocations.close_one.Goals as goal

pub returns-clause-rest : goal.returns-clause-rest
returns-clause-rest g c = rw (c.take_ended.ensures.told, c.take_ended.ensures.list) (ended_at-first c.args.self.now c.take_ended.ensures.sound)
