use Rattle.tcap_laws.proofs.Isolation.SeenMoments.{only_lapses, alone-moment}
use Rattle.tcap_laws.proofs.alone.only_tells_moments.Goals as goal

pub returns-clause-lapses : goal.returns-clause-lapses
returns-clause-lapses c = λ h dialogue now legal. only_lapses h.start dialogue h.pairs legal.1 now

pub returns-clause-answer : goal.returns-clause-answer
returns-clause-answer c = λ h dialogue now legal. alone-moment h dialogue legal now
