use Rattle.std.proofs.Common.{rules}
use Rattle.tcap_dialogue.proofs.component_handling.in_dialogue.tell_result_more.Goals as goal

pub returns-clause-place : goal.returns-clause-place
returns-clause-place g c =
    λ portion components lies. c.tell.ensures.place portion components (search (rules, lies))
