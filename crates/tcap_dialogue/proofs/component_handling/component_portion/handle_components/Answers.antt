use Rattle.std.proofs.Common.{rules, arith, ◌≡◌, ◌<◌, [], length, ap, refl, ◌∙◌}
use Rattle.std.specs.Option.{option_map}
use Rattle.tcap_component.proofs.CallerLemmas.{components_of-none}
use Rattle.tcap_component.specs.ComponentReading.{components_of}
use Rattle.tcap_component.specs.Views.{item_view}
use Rattle.tcap_dialogue.specs.HandledViews.{reject_parts}
use Rattle.tcap_primitives.specs.QueueViews.{queue_view}
use Rattle.tcap_dialogue.proofs.ItemLemmas.{some-component}
use Rattle.tcap_dialogue.proofs.PlaceLemmas.{component-lies, left_behind, left_self}
use Rattle.tcap_dialogue.proofs.RejectLemmas.{fewer}
use Rattle.tcap_dialogue.proofs.WalkLemmas.{done_next}
use Rattle.tcap_dialogue.proofs.component_handling.component_portion.handle_components.Goals as goal

pub loop-left-preserved : goal.loop-left-preserved
loop-left-preserved g c =
    let inv = c.loop-left.invariant in
    let left = c.loop-left.left.octets in
    let rest = c.take_first-reject.new.left.octets in
    let t = c.take_first-reject.ensures in
    let h = t.is_handled in
    let long = ap length t.is_first in
    let done = done_next c.args.dialogue c.args.clock c.loop-left.sink.outputs c.take_first-reject.new.sink.outputs c.loop-left.invocations c.take_first-reject.new.invocations
    (queue_view c.loop-left.queue) (queue_view c.queue_reject.new.queue) _ (option_map reject_parts c.take_first-reject.result) (item_view t.item) (components_of rest.now) (components_of left.now)
    t.is_first refl h.is_answered h.is_told t.is_after c.queue_reject.ensures.queue in (
      done ∙ inv.0,
      omega (arith, long, inv.1, h.keeps_places),
      c.queue_reject.ensures.room (length (components_of rest.now)) (fewer _ _ _ _ (omega (arith, long)) inv.2),
      left_behind _ left rest t.item inv.3 t.is_first t.ends,
      λ portion before. h.is_in_place portion _ (component-lies _ portion left t.item h.slices inv.3 t.is_in_place h.are_parts) (inv.4 portion before),
      omega (arith, inv.5, h.keeps_octets, t.within),
    )

pub loop-left-init : goal.loop-left-init
loop-left-init g c = search (rules, left_self)

pub take_first-reject-requires-clause-room : goal.take_first-reject-requires-clause-room
take_first-reject-requires-clause-room g c =
    let octets = c.loop-left.left.octets.now in
    let some : 0 < length (components_of octets) = some-component octets (search rules) in
    omega (arith, some, c.loop-left.invariant.1)

pub returns-clause-done : goal.returns-clause-done
returns-clause-done g c =
    let octets = c.loop-left.left.octets.now in
    let none : components_of octets ≡ [] = components_of-none octets (search rules) in
    search (rules, none)

pub queue_reject-requires : goal.queue_reject-requires
queue_reject-requires g c =
    let octets = c.loop-left.left.octets.now in
    let some : 0 < length (components_of octets) = some-component octets (search rules) in
    fewer _ _ _ _ (omega (arith, some)) c.loop-left.invariant.2
