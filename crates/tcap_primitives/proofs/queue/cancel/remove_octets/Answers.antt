use Rattle.std.proofs.Common.{◌≡◌, None, true, false, not, sym, ap, arith, slice_index_or}
use Rattle.std.proofs.lemmas.Grind.{common_steps}
use Rattle.tcap_primitives.specs.declared.queue.Part.{Part}
use Rattle.tcap_primitives.proofs.CancelLemmas.{stays, holds-moved, holds-passed}
use Rattle.tcap_primitives.proofs.queue.cancel.remove_octets.Goals as goal
use Rattle.tcap_primitives.proofs.queue.cancel.remove_octets.Goals.{then-not-asks_for, else-not-asks_for}

pub loop-part-preserved : goal.loop-part-preserved
loop-part-preserved g c =
    let none : Part = record { len = 0; invoking = None } in
    let here : Part = slice_index_or c.args.parts.now c.loop-part.part-index none in
    elim c.if-not-asks_for.branch [
      | then-not-asks_for w ↦
          let stay : stays c.args.number here ≡ true = ap not (sym w.if-not-asks_for.ensures) in
          let next = holds-moved c.args.number c.args.parts.now c.args.octets.now.items c.loop-part.octets.items c.loop-part.part-index c.loop-part.kept c.loop-part.from none c.loop-part-test.true stay c.loop-part.invariant in
          rw (w.octets-is, w.copy_within.ensures.items, w.kept-is) next
      | else-not-asks_for w ↦
          let go : stays c.args.number here ≡ false = ap not (sym w.if-not-asks_for.ensures) in
          let next = holds-passed c.args.number c.args.parts.now c.args.octets.now.items c.loop-part.octets.items c.loop-part.part-index c.loop-part.kept c.loop-part.from none c.loop-part-test.true go c.loop-part.invariant in
          rw (w.octets-is, w.kept-is) next
    ]

pub copy_within-requires : goal.copy_within-requires
copy_within-requires g c = grind (arith, common_steps)

pub returns : goal.returns
returns g c = grind (arith, common_steps)
