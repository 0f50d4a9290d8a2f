use Rattle.tcap_engine.proofs.TimedLemmas.{first-if-any}
use Rattle.tcap_engine.proofs.dialogues.Dialogues.first_timer.Goals as goal

pub returns : goal.returns
returns g c = rw (← c.self.view_is) (first-if-any c.self.inside.rows c.first.result c.first.ensures.rising c.self.invariant c.first.ensures.first)
