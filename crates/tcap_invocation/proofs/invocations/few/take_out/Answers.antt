use Rattle.std.proofs.Common.{◌≡◌, sym, rules, Some, None}
use Rattle.std.specs.List.{position_from}
use Rattle.std.specs.Ordering.{int_eq}
use Rattle.tcap_invocation.specs.Invocations.{Row}
use Rattle.tcap_invocation.proofs.FewLemmas.{placed, unplaced}
use Rattle.tcap_invocation.proofs.invocations.few.take_out.Goals as goal

pub remove-requires : goal.remove-requires
remove-requires g c =
    let at : position_from (λ (r : Row). int_eq c.args.id.now r.0) 0 c.args.rows.now.items ≡ Some c.in-Some.place = search rules in
    let within = (placed (int_eq c.args.id.now) c.args.rows.now.items c.in-Some.place at).within in
    search (rules, within)

pub returns-in-Some : goal.returns-in-Some
returns-in-Some g c =
    let at : position_from (λ (r : Row). int_eq c.args.id.now r.0) 0 c.args.rows.now.items ≡ Some c.in-Some.place = search rules in
    let left = (placed (int_eq c.args.id.now) c.args.rows.now.items c.in-Some.place at).left in
    rw left at c.remove.ensures.items

pub returns-in_default : goal.returns-in_default
returns-in_default g c =
    let none : position_from (λ (r : Row). int_eq c.args.id.now r.0) 0 c.args.rows.now.items ≡ None = search rules in
    sym (unplaced (int_eq c.args.id.now) c.args.rows.now.items none).1
