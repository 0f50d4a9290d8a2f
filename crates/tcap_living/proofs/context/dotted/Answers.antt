use Rattle.object_identifiers.proofs.CallerLemmas.{unnamed}
use Rattle.tcap_living.proofs.context.dotted.Goals as goal

pub returns-in-Err : goal.returns-in-Err
returns-in-Err c = unnamed c.args.text.now c.in-Err.ensures.cases.0
