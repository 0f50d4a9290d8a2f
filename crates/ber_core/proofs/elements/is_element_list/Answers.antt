use Rattle.std.proofs.Common.{◌∙◌, sym}
use Rattle.ber_core.proofs.AloneGrammar.{list_takes, list_again}
use Rattle.ber_core.proofs.elements.is_element_list.Goals as goal

pub returns-clause-found : goal.returns-clause-found
returns-clause-found c holds = list_takes c.args.bytes.now (sym c.are_elements.ensures ∙ holds)

pub returns-clause-only : goal.returns-clause-only
returns-clause-only c elements is = c.are_elements.ensures ∙ list_again elements c.args.bytes.now is
