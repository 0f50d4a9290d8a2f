use Rattle.tcap_laws.proofs.Rows.InvocationsLeft.{ended-agrees}
use Rattle.tcap_laws.proofs.standing.ended_alike.Goals as goal

pub returns : goal.returns
returns c h dialogue legal = ended-agrees h.start.reject_ms dialogue h.start h.pairs legal.1
