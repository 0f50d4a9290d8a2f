use Rattle.std.proofs.Common.{◌≡◌, Ok}
use Rattle.std.proofs.lemmas.List.{take_rest}
use Rattle.ber_core.specs.HeadReading.{head_at}
use Rattle.ber_core.specs.Views.{head_fields}
use Rattle.ber_core.proofs.SkimSteps.{skim-definite, skim-indefinite}
use Rattle.ber_core.proofs.scanner.skim.skim_head.Goals as goal

pub returns-then-len-rest-clause-value : goal.returns-then-len-rest-clause-value
returns-then-len-rest-clause-value c = λ more.
    let read : head_at c.args.bytes.now ≡ Ok (head_fields c.in-Ok.head) = c.in-Ok.ensures.exact in
    rw (take_rest c.in-Ok.head.rest.now c.in-Some.len) (skim-definite c.args.nested c.in-Some.len c.args.bytes.now (head_fields c.in-Ok.head) read c.in-Some.is c.if-len-rest.true more)

pub returns-then-nested-lt-MAX_DEPTH-clause-value : goal.returns-then-nested-lt-MAX_DEPTH-clause-value
returns-then-nested-lt-MAX_DEPTH-clause-value c = λ more.
    let read : head_at c.args.bytes.now ≡ Ok (head_fields c.in-Ok.head) = c.in-Ok.ensures.exact in
    skim-indefinite c.args.nested c.args.bytes.now (head_fields c.in-Ok.head) read c.in-None.is c.if-nested-lt-MAX_DEPTH.true more
