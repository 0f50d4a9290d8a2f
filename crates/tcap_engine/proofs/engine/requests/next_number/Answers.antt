use Rattle.std.proofs.Common.{rules, arith, []}
use Rattle.tcap_engine.proofs.engine.requests.next_number.Goals as goal

pub overflow_add-result : goal.overflow_add-result
overflow_add-result c =
    let left = c.requires [] in
    let below = rw (c.in-Number.is) at left in
    search (rules, arith, below)
