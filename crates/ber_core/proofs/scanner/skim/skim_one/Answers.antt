use Rattle.std.proofs.Common.{◌++◌}
use Rattle.std.proofs.lemmas.List.{take_rest}
use Rattle.ber_core.proofs.SkimSteps.{skim-element, skim-opens, skim-end}
use Rattle.ber_core.proofs.scanner.skim.skim_one.Goals as goal

pub returns-then-len-body-clause-value : goal.returns-then-len-body-clause-value
returns-then-len-body-clause-value c = λ more.
    let plain = c.is_plain.ensures.0 c.if-is_plain.true in
    rw (take_rest c.args.body.now c.args.len) (skim-element c.args.nested c.args.tag c.args.len c.args.body.now plain.0 plain.1 plain.2 c.if-len-body.true more)

pub returns-then-nested-gt0-clause-value : goal.returns-then-nested-gt0-clause-value
returns-then-nested-gt0-clause-value c = λ more. rw (c.if-tag-eq0.true, c.if-len-eq0.true) (skim-end c.args.nested (c.args.body.now ++ more) c.if-nested-gt0.true)

pub returns-then-nested-lt-MAX_DEPTH-clause-value : goal.returns-then-nested-lt-MAX_DEPTH-clause-value
returns-then-nested-lt-MAX_DEPTH-clause-value c = λ more.
    let opens = c.opens.ensures.0 c.if-opens.true in
    skim-opens c.args.nested c.args.tag c.args.len (c.args.body.now ++ more) c.if-nested-lt-MAX_DEPTH.true opens.0 opens.1 opens.2 opens.3
