use Rattle.std.proofs.Common.{◌≡◌, ◌≢◌, [], List, rules, subst}
use Rattle.std.specs.List.Sorted.{IsPermutation}
use Rattle.std.proofs.lemmas.Fn.{filter_same}
use Rattle.tcap_invocation.specs.declared.invocations.lapse.Lapse.{Lapse}
use Rattle.tcap_invocation.specs.Invocations.{Row}
use Rattle.tcap_invocation.specs.Lapses.{due_at, told_at, stays}
use Rattle.tcap_invocation.proofs.FewLemmas.{told_at-sorted, told_at-due}
use Rattle.tcap_invocation.proofs.ListLemmas.{OnErr-of}
use Rattle.tcap_invocation.proofs.invocations.few_lapses.lapse.Goals as goal

pub returns-in_err-told-clause-memory : goal.returns-in_err-told-clause-memory
returns-in_err-told-clause-memory g c =
    let some : due_at c.args.clock c.args.rows.now.items ≢ [] = search rules in
    OnErr-of c.from_residual.result (told_at c.args.clock c.args.rows.now.items ≢ []) (λ none. some (told_at-due c.args.clock c.args.rows.now.items none))

pub returns-clause-told : goal.returns-clause-told
returns-clause-told g c =
    let due : c.in_ok-told.told.items ≡ due_at c.args.clock c.args.rows.now.items = search rules in
    let moved = subst (λ (ls : List Lapse). IsPermutation ls c.sort_unstable.new.self.items) due c.sort_unstable.ensures.permutation in
    told_at-sorted c.args.clock c.args.rows.now.items c.sort_unstable.new.self.items c.requires moved c.sort_unstable.ensures.sorted

pub returns-clause-rows : goal.returns-clause-rows
returns-clause-rows g c = filter_same _ (λ (r : Row). stays c.args.clock r.1.stage) _ (λ x b f k. search rules) _ _ c.retain.ensures.filtered
