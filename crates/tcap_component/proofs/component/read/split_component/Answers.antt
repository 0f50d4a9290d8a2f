use Rattle.std.proofs.Common.{refl}
use Rattle.ber_core.specs.Views.{parts}
use Rattle.ber_core.proofs.CallerLemmas.{element-inside}
use Rattle.tcap_component.specs.Component.{component_tag}
use Rattle.tcap_component.specs.Views.{component_parts}
use Rattle.tcap_component.proofs.PlaceSteps.{fields-in, judged-tag}
use Rattle.tcap_component.proofs.component.read.split_component.Goals as goal

pub returns-in-Ok-judge-clause-place : goal.returns-in-Ok-judge-clause-place
returns-in-Ok-judge-clause-place c =
    let is = judged-tag (parts c.in-Ok.element) c.in-Ok.rest.now c.args.bytes.now (component_parts c.in-Ok-judge.component) c.in-Ok.ensures.exact c.in-Ok-judge.ensures.value in
    let tag = component_tag (component_parts c.in-Ok-judge.component) in
    let inside = element-inside tag c.in-Ok.element.content c.args.bytes (parts c.in-Ok.element) c.in-Ok.rest.now c.in-Ok.ensures.exact is refl c.in-Ok.ensures.place.0.content in
    (fields-in tag c.in-Ok-judge.component c.in-Ok.element.content c.args.bytes inside c.in-Ok-judge.ensures.place, c.in-Ok.ensures.place.1)
