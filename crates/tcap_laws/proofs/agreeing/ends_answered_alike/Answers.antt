use Rattle.tcap_laws.proofs.Table.EndMessagesAlike.{end-answered}
use Rattle.tcap_laws.proofs.agreeing.ends_answered_alike.Goals as goal

pub returns : goal.returns
returns c h dialogue d from to portion components legal = end-answered h dialogue legal d from to portion components
