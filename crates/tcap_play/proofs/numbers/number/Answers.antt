use Rattle.std.proofs.Common.{rules, ◌≡◌, ◌∙◌, sym, false, length}
use Rattle.tcap_play.specs.Numbers.{is_padded, number_up_to}
use Rattle.tcap_play.proofs.Numerals.{digit_read, digit_unread, digits_read, read_number}
use Rattle.tcap_play.proofs.numbers.number.Goals as goal

pub loop-octet-preserved : goal.loop-octet-preserved
loop-octet-preserved c =
    digit_read c.args.word.now c.loop-octet.octet-index c.loop-octet.n c.in_ok-n.n _ (search rules) (search rules) c.loop-octet.invariant

pub returns-in_err-n : goal.returns-in_err-n
returns-in_err-n c =
    let word = c.args.word.now in
    let bare : is_padded word ≡ false = sym c.is_padded.ensures ∙ c.if-is_padded.false in
    let some : length word ≡ 0 → ⊥ = search rules in
    c.from_residual.ensures ∙ digit_unread word c.loop-octet.octet-index c.loop-octet.n (number_up_to 18446744073709551615 word) (search rules) (search rules) (c.loop-octet.invariant ∙ read_number word some bare)

pub returns : goal.returns
returns c =
    let word = c.args.word.now in
    let bare : is_padded word ≡ false = sym c.is_padded.ensures ∙ c.if-is_padded.false in
    let some : length word ≡ 0 → ⊥ = search rules in
    digits_read word c.loop-octet.octet-index c.loop-octet.n (number_up_to 18446744073709551615 word) (search rules) (c.loop-octet.invariant ∙ read_number word some bare)
