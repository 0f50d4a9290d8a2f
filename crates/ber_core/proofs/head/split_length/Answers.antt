use Rattle.std.proofs.Common.{rules, ◌≡◌, Err}
use Rattle.ber_core.specs.declared.fault.BerFault.TheVariants.{IndefinitePrimitive}
use Rattle.ber_core.specs.HeadReading.{length_at}
use Rattle.ber_core.proofs.head.split_length.Goals as goal

pub returns-else-constructed-clause-value : goal.returns-else-constructed-clause-value
unfolding length_at
returns-else-constructed-clause-value c =
    let refused : length_at c.args.constructed c.args.bytes.now ≡ Err IndefinitePrimitive = search rules in refused
