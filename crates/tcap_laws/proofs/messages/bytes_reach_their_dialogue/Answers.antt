use Rattle.tcap_laws.proofs.Receptions.ReachedReplies.{taken-reply, broken-reply}
use Rattle.tcap_laws.proofs.messages.bytes_reach_their_dialogue.Goals as goal

pub returns-clause-taken : goal.returns-clause-taken
returns-clause-taken c = taken-reply

pub returns-clause-broken : goal.returns-clause-broken
returns-clause-broken c = broken-reply
