use Rattle.std.proofs.Common.{rules, arith, ◌≡◌, ◌∙◌, ◌+◌, ap, refl, sym, length, map}
use Rattle.std.proofs.lemmas.List.{map-append}
use Rattle.tcap_primitives.proofs.LastItem.{set-last, get-last}
use Rattle.tcap_primitives.specs.OutputViews.{all_shown, shown}
use Rattle.tcap_primitives.specs.Slices.{slices_of}
use Rattle.tcap_primitives.proofs.sink.push_sent.Goals as goal

pub returns-in-Send-clause-outputs : goal.returns-in-Send-clause-outputs
returns-in-Send-clause-outputs g c =
    let n = c.len-last.result in
    let olds = c.args.vector.now.items in
    let is : n ≡ length olds + 1 = search (rules, arith) in
    let value = rw c.push_reserved.ensures.items at c.index_mut.ensures.value in
    let here = sym c.in-Send.is ∙ value ∙ get-last olds _ _ n is in
    let same : c.in-Send.bytes ≡ c.args.bytes = cc in
    rw c.push_reserved.ensures.items (ap all_shown (set-last olds _ _ n is) ∙ map-append shown olds _
    ∙ rw (c.hold.ensures, same) refl)

pub returns-in-Send-clause-slices : goal.returns-in-Send-clause-slices
returns-in-Send-clause-slices g c =
    let n = c.len-last.result in
    let is : n ≡ length c.args.vector.now.items + 1 = search (rules, arith) in
    rw c.push_reserved.ensures.items (ap (map slices_of) (set-last c.args.vector.now.items _ _ n is) ∙ map-append slices_of c.args.vector.now.items _)
