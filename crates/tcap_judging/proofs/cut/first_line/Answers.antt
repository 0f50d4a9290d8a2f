use Rattle.std.proofs.Common.{rules}
use Rattle.tcap_judging.proofs.Places.{cut_so, one_line, one_line_before}
use Rattle.tcap_judging.proofs.cut.first_line.Goals as goal

pub returns-in_err-place-clause-cut : goal.returns-in_err-place-clause-cut
returns-in_err-place-clause-cut c = rw c.from_residual.ensures (one_line c.args.octets.now (search rules))

pub returns-clause-cut : goal.returns-clause-cut
returns-clause-cut c =
    let octets = c.args.octets.now in
    let place = c.in_ok-place.place in
    (cut_so octets place (search rules) (search rules), one_line_before octets place (search rules))
