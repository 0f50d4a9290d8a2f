use Rattle.std.proofs.Common.{sym, ◌∙◌}
use Rattle.tcap_component.proofs.ComponentGrammar.{verdict_read}
use Rattle.tcap_component.proofs.component.read.judge.Goals as goal

pub returns-in-Some-read_contents-clause-value : goal.returns-in-Some-read_contents-clause-value
returns-in-Some-read_contents-clause-value c =
    verdict_read c.args.octets.now c.args.content.now c.in-Some.form _ (sym c.form_of.ensures ∙ c.in-Some.is) (sym c.in-Some-read_contents.ensures.value)
