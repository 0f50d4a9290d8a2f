use Rattle.std.proofs.Common.{◌≡◌, ◌++◌, ◌∙◌, ap, append_assoc, map, sym, true}
use Rattle.std.specs.Prelude.{string_bytes}
use Rattle.tcap_component.proofs.CallerLemmas.{component-shorter, taken-read}
use Rattle.tcap_component.specs.Views.{component_parts}
use Rattle.tcap_judging.proofs.ItemLists.{items-end, items-next}
use Rattle.tcap_judging.proofs.JsonLists.{json_left, json_left-end, json_left-next}
use Rattle.tcap_judging.specs.JsonSteps.{json_closing, json_step}
use Rattle.tcap_judging.specs.MessageItems.{items_in}
use Rattle.tcap_judging.specs.NameViews.{named_view}
use Rattle.tcap_judging.proofs.json_names.add_components.Goals as goal

pub loop-component-smaller : goal.loop-component-smaller
loop-component-smaller g c = component-shorter c.loop-component.rest.now c.in-Some.after.now _ (taken-read c.loop-component.rest.now _ c.in-Some.ensures)

pub loop-component-preserved : goal.loop-component-preserved
loop-component-preserved g c =
    let rest = c.loop-component.rest.now in
    let after = c.in-Some.after.now in
    let names = map named_view c.args.names.now in
    let is_behind = c.loop-component.is_behind in
    let component = component_parts c.in-Some.component in
    let was = string_bytes c.loop-component.text in
    let next = ap (json_left names is_behind) (items-next rest after component (taken-read rest _ c.in-Some.ensures)) ∙ json_left-next names is_behind component (items_in after) in
    let behind = json_left names true (items_in after) in
    ap (λ t. t ++ behind) c.in_ok-add_item.ensures
    ∙ (append_assoc was (json_step names is_behind component) behind
    ∙ (sym (ap (λ t. was ++ t) next) ∙ c.loop-component.invariant))

pub returns : goal.returns
returns g c =
    let names = map named_view c.args.names.now in
    let is_behind = c.loop-component.is_behind in
    let was = string_bytes c.loop-component.text in
    let end : json_left names is_behind (items_in c.loop-component.rest.now) ≡ json_closing is_behind =
    ap (json_left names is_behind) (items-end c.loop-component.rest.now c.in_default.ensures) ∙ json_left-end names is_behind in
    c.in_ok-push_str.ensures.bytes ∙ (ap (λ t. was ++ t) (c.closing.ensures ∙ sym end) ∙ c.loop-component.invariant)
