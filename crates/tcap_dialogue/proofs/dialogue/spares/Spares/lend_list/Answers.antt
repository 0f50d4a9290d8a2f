use Rattle.std.proofs.Common.{rules, ◌∙◌}
use Rattle.tcap_invocation.specs.Invocations.{AllBelow}
use Rattle.tcap_dialogue.proofs.SpareLemmas.{emptied}
use Rattle.tcap_dialogue.proofs.dialogue.spares.Spares.lend_list.Goals as goal

pub returns-in-Some : goal.returns-in-Some
returns-in-Some g c =
    let below : AllBelow 0 c.args.list.now.rows = search rules in
    c.renew.ensures ∙ emptied c.args.list.now c.args.reject_ms below c.requires.wait
