use Rattle.std.proofs.Common.{rules}
use Rattle.std.specs.Char.{is_ascii_hexdigit}
use Rattle.tcap_lines.proofs.FitsLemmas.{all_is}
use Rattle.tcap_lines.proofs.misfit.is_odd.Goals as goal

pub returns-then-word-eq1 : goal.returns-then-word-eq1
returns-then-word-eq1 c = let all = all_is is_ascii_hexdigit c.args.word.now c.are_hexadecimal.result c.are_hexadecimal.ensures in search (rules, all)
