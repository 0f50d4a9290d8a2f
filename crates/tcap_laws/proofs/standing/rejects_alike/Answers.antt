use Rattle.tcap_laws.proofs.Table.LastAnswersAlike.{components-rejected}
use Rattle.tcap_laws.proofs.standing.rejects_alike.Goals as goal

pub returns : goal.returns
returns c h dialogue d components legal = components-rejected h dialogue legal d components
