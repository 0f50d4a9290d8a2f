use Rattle.tcap_laws.proofs.Engine.EngineMoves.{moves-alike, move-is-said}
use Rattle.tcap_laws.proofs.moving.moving.Goals as goal

pub returns-clause-stands : goal.returns-clause-stands
returns-clause-stands c = moves-alike

pub returns-clause-said : goal.returns-clause-said
returns-clause-said c = move-is-said
