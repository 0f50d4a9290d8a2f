use Rattle.std.proofs.Common.{◌∙◌}
use Rattle.tcap_dialogue.proofs.SpareLemmas.{emptied}
use Rattle.tcap_dialogue.proofs.dialogue.spares.Spares.keep_list.Goals as goal

pub returns : goal.returns
returns g c below wait = c.replace.ensures.after ∙ c.new-empty.ensures ∙ emptied c.args.list.now c.args.reject_ms below wait
