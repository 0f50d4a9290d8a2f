use Rattle.tcap_laws.proofs.Rows.DistinctRows as apart
use Rattle.tcap_laws.proofs.standing.rows_distinct.Goals as goal

pub returns : goal.returns
returns c h dialogue legal = apart.rows_distinct h.start h.pairs legal.1 h.start.reject_ms dialogue
