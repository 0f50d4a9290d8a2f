use Rattle.tcap_words.proofs.CallerLemmas.{unspelled}
use Rattle.tcap_play.proofs.script.word.octets_spelled.Goals as goal

pub returns-then-not-is_hex : goal.returns-then-not-is_hex
returns-then-not-is_hex g c = unspelled c.args.text.now (λ is. let yes = c.is_hex.ensures.1 is in cc)
