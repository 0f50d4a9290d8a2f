use Rattle.std.proofs.Common.{ap, sym, ◌∙◌, ◌++◌}
use Rattle.tcap_laws.proofs.Spans.DecisionSteps.{closing_of_decision, decided_now, decision_place}
use Rattle.tcap_laws.proofs.invoking.decision_is_outcome.Goals as goal

pub returns-clause-closing : goal.returns-clause-closing
returns-clause-closing c = closing_of_decision

pub returns-clause-now : goal.returns-clause-now
returns-clause-now c = decided_now

pub returns-clause-found : goal.returns-clause-found
returns-clause-found c = λ n past t e. let d = decision_place n past t e in (d.invocation, d.is_found, d.dialogue, d.id)

pub returns-clause-place : goal.returns-clause-place
returns-clause-place c = λ n past t e.
    let d = decision_place n past t e in
    (d.newer, d.pair, d.before, d.whole ∙ ap (λ z. d.newer ++ z) (sym d.place), d.place, d.outcome_there, d.none_before)
