use Rattle.tcap_laws.proofs.Rows.SentInRows.{sent-rows}
use Rattle.tcap_laws.proofs.standing.sent_alike.Goals as goal

pub returns : goal.returns
returns c h dialogue id legal = sent-rows h.start h.pairs legal.1 h.start.reject_ms dialogue id
