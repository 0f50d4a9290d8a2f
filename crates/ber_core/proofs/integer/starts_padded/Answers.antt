use Rattle.std.proofs.Common.{rules}
use Rattle.ber_core.proofs.integer.starts_padded.Goals as goal

pub returns-then-first-eq255 : goal.returns-then-first-eq255
returns-then-first-eq255 c = search rules
