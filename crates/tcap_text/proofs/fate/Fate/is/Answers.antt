use Rattle.std.proofs.Common.{rules}
use Rattle.tcap_text.proofs.fate.Fate.is.Goals as goal

pub returns-in-Waiting-matches : goal.returns-in-Waiting-matches
returns-in-Waiting-matches c = search rules
