use Rattle.std.proofs.Common.{refl}
use Rattle.ber_core.specs.Views.{parts}
use Rattle.ber_core.proofs.WaySteps.{element-inside}
use Rattle.ber_core.proofs.sequence.read_alone.Goals as goal

pub returns-in-Ok-default-empty-clause-inside : goal.returns-in-Ok-default-empty-clause-inside
returns-in-Ok-default-empty-clause-inside c tag is =
    let e = c.in-Ok-default-empty.element in
    let p = c.in-Ok-default-empty.ensures.place in
    element-inside tag e.content c.args.bytes (parts e) _ c.in-Ok-default-empty.ensures.exact is refl p.0.content
