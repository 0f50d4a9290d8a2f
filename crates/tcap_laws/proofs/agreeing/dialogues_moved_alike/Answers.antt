use Rattle.tcap_laws.proofs.Table.RequestsMovedAlike.{request-moves}
use Rattle.tcap_laws.proofs.Table.MessagesMovedAlike as moved
use Rattle.tcap_laws.proofs.agreeing.dialogues_moved_alike.Goals as goal

pub returns-clause-requested : goal.returns-clause-requested
returns-clause-requested c h dialogue d request legal = request-moves h dialogue d request legal

pub returns-clause-taken : goal.returns-clause-taken
returns-clause-taken c h dialogue d from bytes m legal = moved.taken-moves h dialogue d from bytes m legal

pub returns-clause-broken : goal.returns-clause-broken
returns-clause-broken c h dialogue d from bytes fault cause legal =
    moved.broken-moves h dialogue d from bytes fault cause legal

pub returns-clause-lapsed : goal.returns-clause-lapsed
returns-clause-lapsed c h dialogue d now legal = moved.lapsed-moves h dialogue d now legal
