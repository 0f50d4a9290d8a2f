use Rattle.std.proofs.Common.{rules}
use Rattle.tcap_engine.proofs.engine.creation.next_identifier.Goals as goal

pub returns : goal.returns
returns c = search rules
