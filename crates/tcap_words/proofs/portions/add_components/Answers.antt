use Rattle.std.proofs.Common.{◌∙◌, sym, string_bytes}
use Rattle.tcap_words.proofs.GoodItems.{good-none}
use Rattle.tcap_words.proofs.TextSteps.{after_one, begins_before, begins_on_err}
use Rattle.tcap_words.proofs.portions.add_components.Goals as goal

pub returns-clause-text : goal.returns-clause-text
returns-clause-text g c =
    let filled = sym c.is_empty.ensures ∙ c.if-is_empty.false in
    rw filled (after_one c.add_items.result _ _ _ _ _ c.in_ok-add_number.ensures.ok c.add_items.ensures.text)

pub returns-then-is_empty-clause-good : goal.returns-then-is_empty-clause-good
returns-then-is_empty-clause-good g c = good-none c.args.components.now (sym c.is_empty.ensures ∙ c.if-is_empty.true)

pub returns-clause-kept : goal.returns-clause-kept
returns-clause-kept g c =
    begins_on_err c.add_items.result (string_bytes c.args.text.now) (string_bytes c.add_number.new.text) (string_bytes c.add_items.new.text) (begins_before _ _ _ c.in_ok-add_number.ensures.ok) c.add_items.ensures.kept
