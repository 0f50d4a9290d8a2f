use Rattle.std.proofs.Common.{◌≡◌, ◌∙◌, rules, pos, neg_ℤ, Some}
use Rattle.std.specs.Result.{result_ok}
use Rattle.tcap_play.specs.Numbers.{between}
use Rattle.tcap_play.proofs.Numerals.{narrower}
use Rattle.tcap_play.proofs.numbers.signed_of_8_bits.Goals as goal

pub returns : goal.returns
returns c =
    let fits : result_ok c.try_from.result ≡ between (neg_ℤ (pos 128)) (pos 127) c.in_ok-signed.field-0 = search rules in
    c.ok.ensures.value ∙ fits ∙ narrower c.args.word.now (Some c.in_ok-signed.field-0) c.in_ok-signed.ensures
