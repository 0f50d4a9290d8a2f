use Rattle.std.proofs.Common.{refl, string_bytes}
use Rattle.tcap_living.proofs.Appended.{behind}
use Rattle.tcap_living.proofs.json_output.components.add_local_reject.Goals as goal

pub returns : goal.returns
returns g c =
    behind c.add_problem_member.result (string_bytes c.args.text.now) (string_bytes c.add_unnumbered.new.text) (string_bytes c.add_problem_member.new.text) _ _ _
    c.in_ok-add_unnumbered.ensures c.add_problem_member.ensures refl
