use Rattle.std.proofs.Common.{sym}
use Rattle.std.proofs.lemmas.Result.{err_from_is_err_and}
use Rattle.tcap_component.specs.Views.{component_parts}
use Rattle.tcap_primitives.specs.FaultViews.{fault_view}
use Rattle.tcap_dialogue.proofs.ResultLemmas.{answer-refused}
use Rattle.tcap_dialogue.proofs.dialogue.Dialogue.queue_answer.Goals as goal

pub returns-in_err-len-clause-answer : goal.returns-in_err-len-clause-answer
returns-in_err-len-clause-answer g c =
    let p = err_from_is_err_and c.from_residual.result c.from_residual.ensures.1 in
    let fault = c.in_err-len.field-0.0 in
    rw (p.1, p.2) (answer-refused (fault_view fault) c.args.self.now (component_parts c.args.component.now) (sym c.in_err-len.ensures.err))
