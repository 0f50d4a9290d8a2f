use Rattle.std.proofs.Common.{rules, option_copied}
use Rattle.tcap_component.specs.Views.{code_parts}
use Rattle.tcap_dialogue.proofs.ResultLemmas.{error-answered}
use Rattle.tcap_dialogue.proofs.dialogue.Dialogue.queue_error.Goals as goal

pub returns-clause-answer : goal.returns-clause-answer
returns-clause-answer g c = rw (error-answered 0 0 c.args.self.now c.args.request.now.id (code_parts c.args.request.now.code) (option_copied c.args.request.now.parameter)) (search (rules, c.queue_answer.ensures.answer))
