use Rattle.std.proofs.Common.{◌++◌, ◌∙◌, ap, append-nil, append_assoc, map, sym}
use Rattle.std.specs.Prelude.{string_bytes}
use Rattle.tcap_component.proofs.CallerLemmas.{component-shorter, taken-read}
use Rattle.tcap_component.specs.Views.{component_parts}
use Rattle.tcap_judging.proofs.ItemLists.{items-end, items-next}
use Rattle.tcap_judging.specs.MessageItems.{item_of, items_in}
use Rattle.tcap_judging.specs.MessageNames.{components_words, item_words}
use Rattle.tcap_judging.specs.NameViews.{named_view}
use Rattle.tcap_judging.proofs.message_names.add_components.Goals as goal

pub loop-component-smaller : goal.loop-component-smaller
loop-component-smaller g c = component-shorter c.loop-component.rest.now c.in-Some.after.now _ (taken-read c.loop-component.rest.now _ c.in-Some.ensures)

pub loop-component-preserved : goal.loop-component-preserved
loop-component-preserved g c =
    let rest = c.loop-component.rest.now in
    let after = c.in-Some.after.now in
    let names = map named_view c.args.names.now in
    let words = components_words names in
    let item = item_of (component_parts c.in-Some.component) in
    let next = items-next rest after _ (taken-read rest _ c.in-Some.ensures) in
    let was = string_bytes c.loop-component.text in
    let behind = words (items_in after) in
    ap (λ t. t ++ behind) c.in_ok-add_component.ensures
    ∙ (append_assoc was (item_words names item) behind
    ∙ (sym (ap (λ items. was ++ words items) next) ∙ c.loop-component.invariant))

pub returns : goal.returns
returns g c =
    let was = string_bytes c.loop-component.text in
    let words = components_words (map named_view c.args.names.now) in
    let end = items-end c.loop-component.rest.now c.in_default.ensures in
    sym (append-nil was) ∙ (sym (ap (λ items. was ++ words items) end) ∙ c.loop-component.invariant)
