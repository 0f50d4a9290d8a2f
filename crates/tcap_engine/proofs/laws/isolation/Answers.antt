use Rattle.tcap_laws.proofs.CallerLemmas.{each-alone}
use Rattle.tcap_engine.proofs.AloneLemmas.{answer-alone, run-alone}
use Rattle.tcap_engine.proofs.laws.isolation.Goals as goal

pub returns-clause-history : goal.returns-clause-history
returns-clause-history c = each-alone

pub returns-clause-answer : goal.returns-clause-answer
returns-clause-answer c = answer-alone

pub returns-clause-run : goal.returns-clause-run
returns-clause-run c = run-alone
