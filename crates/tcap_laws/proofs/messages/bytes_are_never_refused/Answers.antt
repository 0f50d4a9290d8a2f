use Rattle.tcap_laws.proofs.Receptions.ReachedReplies.{some-reply}
use Rattle.tcap_laws.proofs.messages.bytes_are_never_refused.Goals as goal

pub returns-clause-told : goal.returns-clause-told
returns-clause-told c = some-reply
