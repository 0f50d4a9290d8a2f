use Rattle.std.proofs.Common.{◌≡◌, ◌∙◌, [], ap, sym, drop, rules, arith}
use Rattle.std.proofs.Math.ListN.{drop_of_length-le}
use Rattle.tcap_invocation.proofs.FewLemmas.{first_due_from, first_due_from-all}
use Rattle.tcap_invocation.proofs.invocations.few_lapses.first_due.Goals as goal

pub returns : goal.returns
returns c =
    let none : drop c.loop-row.row-index c.args.rows.now ≡ [] = drop_of_length-le c.args.rows.now (search (rules, arith)) in
    sym (ap (first_due_from c.args.clock c.loop-row.first) none) ∙ c.loop-row.invariant ∙ first_due_from-all c.args.clock c.args.rows.now c.requires
