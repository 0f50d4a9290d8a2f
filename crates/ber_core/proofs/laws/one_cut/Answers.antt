use Rattle.std.proofs.Common.{sym}
use Rattle.ber_core.proofs.CutGrammar.{cut_takes, cut_again}
use Rattle.ber_core.proofs.laws.one_cut.Goals as goal

pub returns : goal.returns
returns c = record { is = cut_takes; one = λ stream cut h. sym (cut_again cut stream h) }
