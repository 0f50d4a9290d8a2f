use Rattle.std.proofs.Common.{rules}
use Rattle.tcap_words.proofs.SpelledWords.{not_begun, unspelled, spelled}
use Rattle.tcap_words.proofs.spelling.decode_hex.Goals as goal

pub returns-then-not-is_digit-clause-value : goal.returns-then-not-is_digit-clause-value
returns-then-not-is_digit-clause-value g c = not_begun c.args.hex.now (search rules) (search rules)

pub returns-in-Err-2-clause-value : goal.returns-in-Err-2-clause-value
returns-in-Err-2-clause-value g c = unspelled c.args.hex.now (λ is. let yes = c.is_hex.ensures.1 is in cc)

pub returns-in-Err-clause-err : goal.returns-in-Err-clause-err
returns-in-Err-clause-err g c = spelled c.args.hex.now (c.is_hex.ensures.0 cc)
