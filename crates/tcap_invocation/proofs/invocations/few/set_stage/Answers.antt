use Rattle.std.proofs.Common.{◌≡◌, ◌∙◌, ap, sym, rules, Some, None, List, slice_index_or, slice_set, unwrap_or}
use Rattle.std.specs.List.{position_from}
use Rattle.std.specs.Map.{set_value}
use Rattle.std.specs.Ordering.{int_eq}
use Rattle.tcap_invocation.specs.declared.invocations.Invocation.{Invocation}
use Rattle.tcap_invocation.specs.Invocations.{Row}
use Rattle.tcap_invocation.proofs.FewLemmas.{IsPlaced, placed, unplaced}
use Rattle.tcap_invocation.proofs.invocations.few.set_stage.Goals as goal

pub index_mut-requires : goal.index_mut-requires
index_mut-requires g c =
    let at : position_from (λ (r : Row). int_eq c.args.id.now r.0) 0 c.args.rows.now.items ≡ Some c.in-Some.place = search rules in
    let within = (placed (int_eq c.args.id.now) c.args.rows.now.items c.in-Some.place at).within in
    search (rules, within)

pub returns-in-Some : goal.returns-in-Some
returns-in-Some g c =
    let rows : List Row = c.args.rows.now.items in
    let r : Row = c.index_mut.result.now in
    let at : position_from (λ (r : Row). int_eq c.args.id.now r.0) 0 rows ≡ Some c.in-Some.place = search rules in
    let p : IsPlaced (int_eq c.args.id.now) rows c.in-Some.place = placed (int_eq c.args.id.now) rows c.in-Some.place at in
    let is : r ≡ slice_index_or rows c.in-Some.place r = search rules in
    let own : r.1 ≡ c.args.entry.now = ap (λ o. unwrap_or o r.1) (ap (λ (x : Row). Some x.1) is ∙ sym (p.entry r) ∙ c.requires) in
    let w : Invocation = record r.1 { stage = c.args.stage } in
    ap (λ (x : Row). slice_set rows c.in-Some.place (x.0, w)) is ∙ p.written r w
    ∙ ap (λ (e : Invocation). set_value (int_eq c.args.id.now) rows (record e { stage = c.args.stage })) own

pub returns-in_default : goal.returns-in_default
returns-in_default g c =
    let at : position_from (λ (r : Row). int_eq c.args.id.now r.0) 0 c.args.rows.now.items ≡ None = search rules in
    let none = (unplaced (int_eq c.args.id.now) c.args.rows.now.items at).0 in
    let some = c.requires in
    absurd (cc (none, some))
