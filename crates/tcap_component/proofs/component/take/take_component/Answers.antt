use Rattle.tcap_component.proofs.TakingLemmas.{formless-untaken}
use Rattle.tcap_component.proofs.component.take.take_component.Goals as goal

pub returns-then-is_none : goal.returns-then-is_none
returns-then-is_none c = formless-untaken c.args.bytes.now c.form_of.result c.in-len1-up.len_at_least c.form_of.ensures c.if-is_none.ensures
