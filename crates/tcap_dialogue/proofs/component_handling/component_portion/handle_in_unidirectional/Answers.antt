use Rattle.std.proofs.Common.{rules, arith, ◌≡◌, ◌<◌, [], length, ap, refl, ◌∙◌}
use Rattle.tcap_component.proofs.CallerLemmas.{components_of-none}
use Rattle.tcap_component.specs.ComponentReading.{components_of}
use Rattle.tcap_component.specs.Views.{item_view}
use Rattle.tcap_dialogue.proofs.ItemLemmas.{some-component}
use Rattle.tcap_dialogue.proofs.PlaceLemmas.{component-lies, left_behind, left_self}
use Rattle.tcap_dialogue.proofs.WalkLemmas.{alone_next}
use Rattle.tcap_dialogue.proofs.component_handling.component_portion.handle_in_unidirectional.Goals as goal

pub loop-left-preserved : goal.loop-left-preserved
loop-left-preserved g c =
    let inv = c.loop-left.invariant in
    let left = c.loop-left.left.octets in
    let rest = c.tell_first.new.left.octets in
    let t = c.tell_first.ensures in
    let long = ap length t.is_first in
    let told = alone_next c.loop-left.sink.outputs c.tell_first.new.sink.outputs _ (item_view t.item) (components_of rest.now) (components_of left.now)
    t.is_first refl t.is_told in (
      told ∙ inv.0,
      omega (arith, long, inv.1, t.keeps_places),
      omega (arith, inv.2, t.keeps_octets, t.within),
      left_behind _ left rest t.item inv.3 t.is_first t.ends,
      λ portion before. t.is_in_place portion _ (component-lies _ portion left t.item t.slices inv.3 t.lies_in_place t.are_parts) (inv.4 portion before),
    )

pub loop-left-init : goal.loop-left-init
loop-left-init g c = search (rules, left_self)

pub tell_first-requires-clause-room : goal.tell_first-requires-clause-room
tell_first-requires-clause-room g c =
    let octets = c.loop-left.left.octets.now in
    let some : 0 < length (components_of octets) = some-component octets (search rules) in
    omega (arith, some, c.loop-left.invariant.1)

pub returns-clause-told : goal.returns-clause-told
returns-clause-told g c =
    let octets = c.loop-left.left.octets.now in
    let none : components_of octets ≡ [] = components_of-none octets (search rules) in
    search (rules, none)
