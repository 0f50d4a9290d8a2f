use Rattle.std.proofs.Common.{rules, ◌<◌}
use Rattle.std.proofs.lemmas.List.{take_rest}
use Rattle.ber_core.proofs.SkimSteps.{skim-long}
use Rattle.ber_core.proofs.scanner.skim.skim_long.Goals as goal

pub returns-then-len-content-clause-value : goal.returns-then-len-content-clause-value
returns-then-len-content-clause-value c = λ more.
    let plain = c.is_plain.ensures.0 c.if-is_plain.true in
    let octet : c.args.len < 256 = search rules in
    rw (take_rest c.args.content.now c.args.len) (skim-long c.args.nested c.args.tag c.args.len c.args.content.now plain.0 plain.1 octet c.if-len-content.true more)
