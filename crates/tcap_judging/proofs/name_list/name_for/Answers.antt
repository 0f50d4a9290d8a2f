use Rattle.std.proofs.Common.{rules, ◌<◌, ◌∙◌, length, sym}
use Rattle.tcap_judging.proofs.NameLists.{name-found, name-passed}
use Rattle.tcap_judging.proofs.name_list.name_for.Goals as goal

pub returns-then-is_for : goal.returns-then-is_for
returns-then-is_for c =
    let n = c.loop-named.named-index in
    let low : n < length c.args.names.now = search rules in
    sym (name-found c.args.kind c.args.key.now c.args.names.now n _ low (sym c.is_for.ensures ∙ c.if-is_for.true)) ∙ c.loop-named.invariant

pub loop-named-preserved : goal.loop-named-preserved
loop-named-preserved c =
    let n = c.loop-named.named-index in
    let low : n < length c.args.names.now = search rules in
    sym (name-passed c.args.kind c.args.key.now c.args.names.now n _ low (sym c.is_for.ensures ∙ c.if-is_for.false)) ∙ c.loop-named.invariant
