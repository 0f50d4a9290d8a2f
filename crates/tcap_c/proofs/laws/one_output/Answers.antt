use Rattle.std.proofs.Common.{sym, ◌∙◌}
use Rattle.tcap_c.proofs.ReadingLemmas.{read_back}
use Rattle.tcap_c.proofs.laws.one_output.Goals as goal

pub returns : goal.returns
returns c = λ w w' n room shows shows'. sym (read_back w n room shows) ∙ read_back w' n room shows'
