use Rattle.tcap_engine.proofs.TwoEndsLemmas.{new-hear, call-heard, run-heard, send-sent, send-stays, answer-given, may-rely}
use Rattle.tcap_engine.proofs.laws.several_engines.Goals as goal

pub returns-clause-begin : goal.returns-clause-begin
returns-clause-begin c = new-hear

pub returns-clause-call : goal.returns-clause-call
returns-clause-call c = call-heard

pub returns-clause-run : goal.returns-clause-run
returns-clause-run c = run-heard

pub returns-clause-sent : goal.returns-clause-sent
returns-clause-sent c = send-sent

pub returns-clause-kept : goal.returns-clause-kept
returns-clause-kept c = send-stays

pub returns-clause-rely : goal.returns-clause-rely
returns-clause-rely c = may-rely

pub returns-clause-given : goal.returns-clause-given
returns-clause-given c = answer-given
