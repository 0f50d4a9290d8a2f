use Rattle.std.proofs.Common.{rules}
use Rattle.tcap_lines.proofs.FitsLemmas.{address_is}
use Rattle.tcap_lines.proofs.fits.is_address.Goals as goal

pub returns-then-is_octets : goal.returns-then-is_octets
returns-then-is_octets c = let is = address_is c.args.word.now in search (rules, is)
