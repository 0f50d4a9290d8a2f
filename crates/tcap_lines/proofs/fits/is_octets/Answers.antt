use Rattle.std.proofs.Common.{rules}
use Rattle.tcap_lines.proofs.FitsLemmas.{hex_is}
use Rattle.tcap_lines.proofs.fits.is_octets.Goals as goal

pub returns-in_default : goal.returns-in_default
returns-in_default c = let is = hex_is c.args.word.now c.is_hex.result c.is_hex.ensures in search (rules, is)
