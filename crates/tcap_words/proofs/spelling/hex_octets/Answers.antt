use Rattle.tcap_words.proofs.SpelledWords.{unspelled, spelled}
use Rattle.tcap_words.proofs.spelling.hex_octets.Goals as goal

pub returns-then-not-is_hex-clause-value : goal.returns-then-not-is_hex-clause-value
returns-then-not-is_hex-clause-value g c = unspelled c.args.hex.now (λ is. let yes = c.is_hex.ensures.1 is in cc)

pub returns-in-Err-clause-err : goal.returns-in-Err-clause-err
returns-in-Err-clause-err g c = spelled c.args.hex.now (c.is_hex.ensures.0 cc)
