use Rattle.std.proofs.Common.{◌≡◌, ◌-◌, length, arith}
use Rattle.ber_core.proofs.ScannerLengths.{skip-passed}
use Rattle.ber_core.proofs.scanner.slice.pass.Goals as goal

pub returns-then-bytes-count-clause-value : goal.returns-then-bytes-count-clause-value
returns-then-bytes-count-clause-value c = λ more.
    let none : length c.args.bytes.now - length c.args.bytes.now ≡ 0 = omega arith in
    rw (none, skip-passed c.args.left c.args.bytes.now more (omega (arith, c.if-bytes-count.true))) (c.due_at-after.ensures more)
