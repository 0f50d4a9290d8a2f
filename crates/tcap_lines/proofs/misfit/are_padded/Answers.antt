use Rattle.std.proofs.Common.{rules}
use Rattle.std.specs.Char.{is_ascii_digit}
use Rattle.tcap_lines.proofs.FitsLemmas.{all_is}
use Rattle.tcap_lines.proofs.misfit.are_padded.Goals as goal

pub returns-then-begins_with_zero : goal.returns-then-begins_with_zero
returns-then-begins_with_zero c = let all = all_is is_ascii_digit c.args.word.now c.are_digits.result c.are_digits.ensures in search (rules, all)
