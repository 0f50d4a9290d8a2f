use Rattle.std.proofs.Common.{◌≡◌, ℕ, ◌++◌, List}
use Rattle.std.proofs.lemmas.Result.{err_from_is_err_and}
use Rattle.ber_core.specs.Scanning.{goes_on}
use Rattle.ber_core.proofs.ScanSteps.{inside-fault, inside-end, inside-short, contents-longer}
use Rattle.ber_core.proofs.element.read.skip_contents.Goals as goal

pub returns-in_err-rest-clause-value : goal.returns-in_err-rest-clause-value
returns-in_err-rest-clause-value c =
    let p = err_from_is_err_and c.from_residual.result c.from_residual.ensures.1 in
    rw (p.1, p.2) (inside-fault c.inside.result c.inside.ensures c.args.bytes.now c.in_err-rest.field-0.0 c.in_err-rest.ensures.err.1)

pub returns-in-None-default-clause-value : goal.returns-in-None-default-clause-value
returns-in-None-default-clause-value c =
    inside-end c.inside.result c.inside.ensures c.args.bytes.now c.in_ok-rest.field-0.1.now (rw c.in-None-default.is-0 at c.in_ok-rest.ensures.ok)

pub returns-in-None-default-clause-shorter : goal.returns-in-None-default-clause-shorter
returns-in-None-default-clause-shorter c =
    contents-longer c.args.bytes.now c.in_ok-rest.field-0.1.now (inside-end c.inside.result c.inside.ensures c.args.bytes.now c.in_ok-rest.field-0.1.now (rw c.in-None-default.is-0 at c.in_ok-rest.ensures.ok))

pub returns-in-Some-default-clause-value : goal.returns-in-Some-default-clause-value
returns-in-Some-default-clause-value c =
    let none = (rw c.in-Some-default.is-0 at c.in_ok-rest.ensures.all) in
    let on : (more : List ℕ) → goes_on c.in-Some-default.field-0-0 more ≡ goes_on c.inside.result (c.args.bytes.now ++ more) = (rw (c.in-Some-default.is-0, none) at c.in_ok-rest.ensures.ok) in
    inside-short c.inside.result c.inside.ensures c.args.bytes.now c.in-Some-default.field-0-0 on
