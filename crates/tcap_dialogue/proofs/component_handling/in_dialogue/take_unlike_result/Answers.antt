use Rattle.std.proofs.Common.{refl, w8}
use Rattle.std.proofs.lemmas.Int.{to_z-of_z}
use Rattle.tcap_component.specs.declared.component.Component.TheVariants as component
use Rattle.tcap_dialogue.proofs.FirstTaken.{first-taken, room-for}
use Rattle.tcap_dialogue.proofs.component_handling.in_dialogue.take_unlike_result.Goals as goal

pub take_invoke-requires-clause-octets : goal.take_invoke-requires-clause-octets
take_invoke-requires-clause-octets g c =
    let r = c.in-Some in
    room-for c.args.left.now.octets r.rest (component.Invoke r.id r.linked r.body.code r.body.parameter) r.ensures.exact c.args.sink.now.octets c.requires.octets

pub returns-in-Some : goal.returns-in-Some
returns-in-Some g c =
    let r = c.in-Some in
    let id = to_z-of_z w8 r.id r.ensures.writable.1.0 in
    first-taken c.args.left.now.octets r.rest (component.Invoke r.id r.linked r.body.code r.body.parameter) r.ensures.exact c.args.dialogue c.args.clock _ _ _ _ _ r.ensures.place.0 r.ensures.place.1 (rw id at c.take_invoke.ensures.handled) refl
