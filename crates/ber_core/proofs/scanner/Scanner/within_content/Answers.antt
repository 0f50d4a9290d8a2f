use Rattle.std.proofs.Common.{refl, arith}
use Rattle.ber_core.proofs.ScannerLengths.{skip-passed}
use Rattle.ber_core.proofs.scanner.Scanner.within_content.Goals as goal

pub returns-then-octets-count : goal.returns-then-octets-count
returns-then-octets-count c = λ more.
    rw (c.in-Content.is, skip-passed c.in-Content.left c.args.octets.now more (omega (arith, c.if-octets-count.true))) refl
