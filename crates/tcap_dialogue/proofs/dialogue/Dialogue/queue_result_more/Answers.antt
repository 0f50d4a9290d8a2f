use Rattle.std.proofs.Common.{rules}
use Rattle.std.specs.Option.{option_map}
use Rattle.tcap_component.specs.Views.{body_parts}
use Rattle.tcap_dialogue.proofs.ResultLemmas.{more-answered}
use Rattle.tcap_dialogue.proofs.dialogue.Dialogue.queue_result_more.Goals as goal

pub returns-clause-answer : goal.returns-clause-answer
returns-clause-answer g c = rw (more-answered 0 0 c.args.self.now c.args.request.now.id (option_map body_parts c.args.request.now.body)) (search (rules, c.queue_answer.ensures.answer))
