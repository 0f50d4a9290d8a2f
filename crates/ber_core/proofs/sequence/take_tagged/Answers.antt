use Rattle.ber_core.proofs.WaySteps.{tagged-inside, tagged-goes}
use Rattle.ber_core.proofs.sequence.take_tagged.Goals as goal

pub returns-clause-inside : goal.returns-clause-inside
returns-clause-inside c = tagged-inside c.args.tag c.args.bytes c.split_tagged.result.0 c.split_tagged.result.1.now c.split_tagged.ensures.value c.split_tagged.ensures.place.0

pub returns-clause-goes_on : goal.returns-clause-goes_on
returns-clause-goes_on c other ne = tagged-goes c.args.tag other c.args.bytes c.split_tagged.result.1 c.split_tagged.result.0 c.split_tagged.ensures.value c.split_tagged.ensures.place.1 ne
