use Rattle.std.proofs.Common.{rules, refl}
use Rattle.tcap_living.proofs.LivedTexts.{history-none}
use Rattle.tcap_living.proofs.session.Session.new.Goals as goal

pub returns-clause-answered : goal.returns-clause-answered
returns-clause-answered g c = record { stands = rw (history-none _) (search rules); is_number = refl; verdict = refl }
