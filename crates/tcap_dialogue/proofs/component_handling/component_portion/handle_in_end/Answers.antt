use Rattle.std.proofs.Common.{rules, arith, ◌≡◌, ◌<◌, [], length, le_trans, ap, refl, ◌∙◌}
use Rattle.tcap_component.proofs.CallerLemmas.{components_of-none}
use Rattle.tcap_component.specs.ComponentReading.{components_of}
use Rattle.tcap_component.specs.Views.{item_view}
use Rattle.tcap_dialogue.proofs.ItemLemmas.{some-component}
use Rattle.tcap_dialogue.proofs.PlaceLemmas.{component-lies, left_behind, left_self}
use Rattle.tcap_dialogue.proofs.WalkLemmas.{told_next, ended_next}
use Rattle.tcap_dialogue.proofs.component_handling.component_portion.handle_in_end.Goals as goal

pub loop-left-preserved : goal.loop-left-preserved
loop-left-preserved g c =
    let inv = c.loop-left.invariant in
    let left = c.loop-left.left.octets in
    let rest = c.take_first-reject.new.left.octets in
    let t = c.take_first-reject.ensures in
    let h = t.is_handled in
    let long = ap length t.is_first in
    let told = told_next c.args.dialogue c.args.clock c.loop-left.sink.outputs c.take_first-reject.new.sink.outputs c.loop-left.invocations c.take_first-reject.new.invocations
    _ (item_view t.item) (components_of rest.now) (components_of left.now)
    t.is_first refl h.is_told t.is_after in (
      told ∙ inv.0,
      omega (arith, long, inv.1, h.keeps_places),
      omega (arith, long, inv.2, h.keeps_places),
      rw (t.is_after) (le_trans (ended_next c.args.clock c.loop-left.invocations (item_view t.item)) inv.3),
      left_behind _ left rest t.item inv.4 t.is_first t.ends,
      λ portion before. h.is_in_place portion _ (component-lies _ portion left t.item h.slices inv.4 t.is_in_place h.are_parts) (inv.5 portion before),
      omega (arith, inv.6, h.keeps_octets, t.within),
    )

pub loop-left-init : goal.loop-left-init
loop-left-init g c = search (rules, left_self)

pub take_first-reject-requires-clause-room : goal.take_first-reject-requires-clause-room
take_first-reject-requires-clause-room g c =
    let octets = c.loop-left.left.octets.now in
    let some : 0 < length (components_of octets) = some-component octets (search rules) in
    omega (arith, some, c.loop-left.invariant.1)

pub returns-clause-told : goal.returns-clause-told
returns-clause-told g c =
    let octets = c.loop-left.left.octets.now in
    let none : components_of octets ≡ [] = components_of-none octets (search rules) in
    search (rules, none)
