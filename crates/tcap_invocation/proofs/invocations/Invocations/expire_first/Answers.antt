use Rattle.tcap_invocation.proofs.ExpiryLemmas.{runs-out}
use Rattle.tcap_invocation.proofs.invocations.Invocations.expire_first.Goals as goal

pub returns-clause-rest : goal.returns-clause-rest
returns-clause-rest g c =
    rw (c.expire_row.ensures.list, c.expire_row.ensures.expiry) (runs-out c.args.self.now c.args.clock c.expire_row.ensures.sound)
