use Rattle.std.proofs.Common.{rules}
use Rattle.slab.specs.Slab.{with_value as slab_with}
use Rattle.timed_table.specs.Tied.{IsPlace}
use Rattle.timed_table.proofs.SoundLemmas.{stored-vacant, written-vacant}
use Rattle.timed_table.proofs.table.Table.insert_with.Goals as goal

pub invariant_of-self-lent : goal.invariant_of-self-lent
invariant_of-self-lent g c =
    let room = c.make_place.new.values in
    let stored = c.insert_reserved-key.new.self in
    let key = c.insert_reserved-key.result in
    let next = c.insert_reserved-key.ensures.key in
    let up = c.insert_reserved-key.ensures.updates in
    let place : IsPlace c.args.self.now c.args.id c.args.time c.make_place.new.keys c.make_place.new.values c.make_place.new.timers = search rules in
    (λ o. (λ w. place.sound w (slab_with stored key w) (written-vacant room stored key c.make.result next up w), place.sound c.make.result stored (stored-vacant room stored key c.make.result next up)))
