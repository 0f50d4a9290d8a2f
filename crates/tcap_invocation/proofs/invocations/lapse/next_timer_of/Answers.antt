use Rattle.std.proofs.Common.{◌≡◌, ◌∙◌, [], ap, sym, drop, rules, arith}
use Rattle.std.proofs.Math.ListN.{drop_of_length-le}
use Rattle.tcap_invocation.proofs.FewLemmas.{least_from, least_from-all}
use Rattle.tcap_invocation.proofs.invocations.lapse.next_timer_of.Goals as goal

pub returns : goal.returns
returns c =
    let none : drop c.loop-row.row-index c.args.rows.now ≡ [] = drop_of_length-le c.args.rows.now (search (rules, arith)) in
    sym (ap (least_from c.loop-row.least) none) ∙ c.loop-row.invariant ∙ least_from-all c.args.rows.now
