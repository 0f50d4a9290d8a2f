use Rattle.ber_core.specs.Views.{item_view, items_left}
use Rattle.ber_core.proofs.ItemSteps.{item_steps, item_progress}
use Rattle.ber_core.proofs.elements.ElementsIterator.next.Goals as goal

pub returns-clause-steps : goal.returns-clause-steps
returns-clause-steps c = (item_steps item_view c.args.self.now.rest.now _ _ c.split_item.ensures.value, c.split_item.ensures.place)

pub returns-clause-goes : goal.returns-clause-goes
returns-clause-goes c = item_progress item_view items_left _ _ _ (item_steps item_view c.args.self.now.rest.now _ _ c.split_item.ensures.value)
