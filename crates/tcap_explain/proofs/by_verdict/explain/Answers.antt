use Rattle.std.proofs.Common.{sym, ◌∙◌}
use Rattle.tcap_explain.proofs.FaultAtLemmas.{found-is, explained-told}
use Rattle.tcap_explain.proofs.PortionThere.{good_none, none_good}
use Rattle.tcap_explain.proofs.by_verdict.explain.Goals as goal

pub returns-clause-found : goal.returns-clause-found
returns-clause-found c = found-is c.args.bytes.now c.explain_bytes.result c.explain_bytes.ensures

pub returns-clause-only : goal.returns-clause-only
returns-clause-only c = λ x h. c.explain_bytes.ensures ∙ explained-told c.args.bytes.now x h

pub returns-clause-none : goal.returns-clause-none
returns-clause-none c = λ n. none_good c.args.bytes.now (sym c.explain_bytes.ensures ∙ n)

pub returns-clause-good : goal.returns-clause-good
returns-clause-good c = λ g. c.explain_bytes.ensures ∙ good_none c.args.bytes.now g
