use Rattle.std.proofs.Common.{◌++◌, ◌∙◌, true, ap, arith}
use Rattle.std.specs.Prelude.{string_bytes}
use Rattle.std.proofs.lemmas.List.{take_all}
use Rattle.tcap_component.specs.Views.{components_left}
use Rattle.tcap_words.specs.Show.{item_lines}
use Rattle.tcap_words.proofs.GoodItems.{good_after, good-components}
use Rattle.tcap_words.proofs.TextSteps.{begins_still}
use Rattle.tcap_words.proofs.portions.add_items.Goals as goal

pub loop-item-init : goal.loop-item-init
loop-item-init g c =
    let left = ap components_left c.into_iter-item-iterator.ensures.into_iter_gives ∙ c.new-item-items.ensures.exact in
    (tt, tt, ap (good_after true) left ∙ good-components c.args.components.now, ap (λ items. string_bytes c.args.text.now ++ item_lines items) left, take_all _ _ (omega arith))

pub returns-in_err-add_item-clause-kept : goal.returns-in_err-add_item-clause-kept
returns-in_err-add_item-clause-kept g c =
    let begins = c.loop-item.invariant.4 in
    begins_still c.from_residual.result (string_bytes c.args.text.now) (string_bytes c.loop-item.text) (string_bytes c.add_item.new.text) begins c.in_err-add_item.ensures.kept
