use Rattle.std.proofs.Common.{rules, ◌≡◌, ◌∙◌, ap, arith, length, to_z, of_z, w8}
use Rattle.std.proofs.lemmas.Int.{to_z-of_z}
use Rattle.tcap_dialogue.proofs.WalkLemmas.{tell_next}
use Rattle.tcap_dialogue.proofs.dialogue.ended_invocations.tell_ended.Goals as goal

pub loop-number-preserved : goal.loop-number-preserved
loop-number-preserved g c =
    let same : to_z w8 (of_z w8 c.in-Some.id) ≡ c.in-Some.id = search (rules, to_z-of_z) in
    let inv = c.loop-number.invariant in
    let long = ap length c.in-Some.ensures.rest in (
      tell_next c.args.dialogue c.in-Some.number c.in-Some.id c.loop-number.sink.outputs c.tell.new.self.outputs c.loop-number.invocations c.close_one.new.self (rw same at c.tell.ensures.told) c.in-Some.ensures.rest ∙ inv.0,
      omega (arith, long, inv.1, c.tell.ensures.places),
      omega (arith, long, inv.2, c.tell.ensures.places),
      λ portion components before. c.tell.ensures.place portion components tt (inv.3 portion components before),
    )
