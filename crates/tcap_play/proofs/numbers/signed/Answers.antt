use Rattle.std.proofs.Common.{◌≡◌, ◌∙◌, rules, sym, ap, slice_index, drop, take, length, ◌-◌}
use Rattle.std.proofs.Math.Seq.{take-length}
use Rattle.std.proofs.lemmas.List.{length-drop}
use Rattle.tcap_play.proofs.Numerals.{below_zero_read}
use Rattle.tcap_play.proofs.numbers.signed.Goals as goal

pub returns-in_ok-number-in-45 : goal.returns-in_ok-number-in-45
returns-in_ok-number-in-45 c =
    let word = c.args.word.now in
    let first : slice_index word 0 ≡ 45 = search rules in
    let digits : take (length word - 1) (drop 1 word) ≡ drop 1 word = ap (λ n. take n (drop 1 word)) (sym (length-drop 1 word)) ∙ take-length (drop 1 word) in
    c.below_zero.ensures ∙ below_zero_read word c.in_ok-number-in-45.field-0 c.in-45.len_at_least first _ digits c.in_ok-number-in-45.ensures
