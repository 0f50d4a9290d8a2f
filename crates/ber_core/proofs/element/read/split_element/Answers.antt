use Rattle.ber_core.proofs.element.read.split_element.Goals as goal

pub returns-clause-value : goal.returns-clause-value
returns-clause-value c = c.split_parts.ensures.value

pub returns-clause-place : goal.returns-clause-place
returns-clause-place c = c.split_parts.ensures.place
