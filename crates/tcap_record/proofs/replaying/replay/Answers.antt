use Rattle.tcap_record.proofs.ReplayLemmas.{same-if-whole}
use Rattle.tcap_record.proofs.replaying.replay.Goals as goal

pub returns-clause-same : goal.returns-clause-same
returns-clause-same g c = λ events first after before answers all is ran same.
    same-if-whole c.args.log.now c.args.engine.now c.replay_each.new.engine c.replay_each.result c.replay_each.ensures.ok
    events first after before answers all is ran same
