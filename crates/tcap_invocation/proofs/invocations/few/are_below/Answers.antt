use Rattle.std.proofs.Common.{◌↔◌, IsTrue, nat_lt, rules, tests}
use Rattle.std.specs.List.{AllPass}
use Rattle.tcap_invocation.specs.Invocations.{Row}
use Rattle.tcap_invocation.proofs.FewLemmas.{AllBelow-rows, AllBelow-rows_again}
use Rattle.tcap_invocation.proofs.invocations.few.are_below.Goals as goal

pub returns : goal.returns
returns c =
    let all : IsTrue c.all.result ↔ AllPass (λ (r : Row). nat_lt r.1.number c.args.number) c.args.rows.now = search (rules, tests) in
    (λ t. AllBelow-rows c.args.number c.args.rows.now (all.0 t), λ b. all.1 (AllBelow-rows_again c.args.number c.args.rows.now b))
