use Rattle.std.proofs.Common.{◌<◌, length, arith, rules, sym}
use Rattle.ber_core.specs.Views.{head_fields, parts}
use Rattle.tcap_explain.proofs.CallerLemmas.{indefinite-listed, head_from}
use Rattle.tcap_judging.proofs.by_element.holds_list.Goals as goal

pub returns-in-Ok : goal.returns-in-Ok
returns-in-Ok c =
    let e = parts c.args.element.now in
    let head = head_from e.whole (head_fields c.in-Ok.head) c.in-Ok.ensures.exact in
    let lt = c.in-Ok.ensures.shorter in
    let less : length e.content < length c.in-Ok.head.rest.now = search (rules, arith) in
    sym (indefinite-listed e c.requires (omega (arith, less, head, lt)))
