use Rattle.std.proofs.Common.{rules, arith, ◌≡◌, ◌+◌, ◌∙◌, ◌++◌, ap, sym, nat_eq, List, ℕ, [], drop, get_or, length, append_assoc, length-append}
use Rattle.std.proofs.Math.ListN.{drop_of_length-le}
use Rattle.std.specs.List.{flat_map}
use Rattle.std.specs.Map.{remove_entry}
use Rattle.tcap_engine.specs.IdleDialogues.{idle_end_in, without_all}
use Rattle.tcap_engine.proofs.OverLemmas.{OverStep, over-step, none-without}
use Rattle.tcap_engine.proofs.dialogues.end_all.Goals as goal

pub loop-identifier-preserved : goal.loop-identifier-preserved
loop-identifier-preserved g c =
    let ids : List ℕ = c.args.ids.now in
    let i = c.loop-identifier.identifier-index in
    let inv = c.loop-identifier.invariant in
    let ps = c.loop-identifier.table in
    let new = c.end_one.new.table in
    let before = c.loop-identifier.sink.outputs in
    let d = get_or ids i 0 in
    let step : OverStep (drop i ids) (drop (i + 1) ids) d ps = over-step i ids ps c.loop-identifier-test.true inv.from inv.apart in
    let gone : new ≡ remove_entry (nat_eq d) ps = c.end_one.ensures.table in
    let rest = flat_map (idle_end_in new) (drop (i + 1) ids) in
    let told : c.end_one.new.sink.outputs ≡ before ++ idle_end_in ps d = c.end_one.ensures.told in
    let all : flat_map (idle_end_in ps) (drop i ids) ≡ idle_end_in ps d ++ rest = step.told ∙ ap (λ qs. idle_end_in ps d ++ flat_map (idle_end_in qs) (drop (i + 1) ids)) (sym gone) in
    let long = ap length all in
    let parts = length-append (idle_end_in ps d) rest in
    record {
      told = ap (λ os. os ++ rest) told ∙ append_assoc before (idle_end_in ps d) rest ∙ ap (λ os. before ++ os) (sym all) ∙ inv.told;
      room = omega (arith, inv.room, c.end_one.ensures.places, long, parts);
      left = ap (without_all (drop (i + 1) ids)) gone ∙ step.left ∙ inv.left;
      from = rw gone step.from;
      apart = step.apart;
    }

pub returns-clause-table : goal.returns-clause-table
returns-clause-table g c =
    let ids : List ℕ = c.args.ids.now in
    let none : drop c.loop-identifier.identifier-index ids ≡ [] = drop_of_length-le ids (search (rules, arith)) in
    sym (none-without c.loop-identifier.table) ∙ ap (λ l. without_all l c.loop-identifier.table) (sym none) ∙ c.loop-identifier.invariant.left
