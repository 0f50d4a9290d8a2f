use Rattle.tcap_words.proofs.HexLanes.{digits_are}
use Rattle.tcap_words.proofs.hexadecimal.digits_of.Goals as goal

pub returns : goal.returns
returns c = digits_are 16 c.args.values c.requires.sixteen c.requires.values
