use Rattle.tcap_laws.proofs.Engine.EngineMoves.{clock-within}
use Rattle.tcap_laws.proofs.moving.clock_is_within.Goals as goal

pub returns : goal.returns
returns c h legal = clock-within h.start h.pairs legal.1
