use Rattle.std.proofs.Common.{◌/◌, ◌^◌, bit_and}
use Rattle.tcap_words.proofs.HexLanes.{by_turns_of, digits_ascii, high_below, low_below, halves_long}
use Rattle.tcap_words.proofs.hexadecimal.digits.Goals as goal

pub digits_of-high-requires-clause-values : goal.digits_of-high-requires-clause-values
digits_of-high-requires-clause-values c = high_below 16 c.args.octets.now c.told-octets c.fits-octets

pub digits_of-high-requires-clause-sixteen : goal.digits_of-high-requires-clause-sixteen
digits_of-high-requires-clause-sixteen c = halves_long (λ x y. x / 2 ^ y) 16 4 c.args.octets.now c.told-octets

pub digits_of-low-requires-clause-values : goal.digits_of-low-requires-clause-values
digits_of-low-requires-clause-values c = low_below 16 c.args.octets.now

pub digits_of-low-requires-clause-sixteen : goal.digits_of-low-requires-clause-sixteen
digits_of-low-requires-clause-sixteen c = halves_long bit_and 16 15 c.args.octets.now c.told-octets

pub returns-clause-digits : goal.returns-clause-digits
returns-clause-digits c = by_turns_of c.args.octets.now c.digits_of-high.result c.digits_of-low.result c.told-octets c.fits-octets c.digits_of-high.ensures c.digits_of-low.ensures

pub returns-clause-ascii : goal.returns-clause-ascii
returns-clause-ascii c = digits_ascii c.args.octets.now _ (by_turns_of c.args.octets.now c.digits_of-high.result c.digits_of-low.result c.told-octets c.fits-octets c.digits_of-high.ensures c.digits_of-low.ensures)
