use Rattle.std.proofs.Common.{rules}
use Rattle.timed_table.specs.Tied.{IsPlace}
use Rattle.timed_table.proofs.SoundLemmas.{stored-vacant}
use Rattle.timed_table.proofs.table.Table.insert.Goals as goal

pub invariant_of-self-2 : goal.invariant_of-self-2
invariant_of-self-2 g c =
    let place : IsPlace c.args.self.now c.args.id c.args.time c.make_place.new.keys c.make_place.new.values c.make_place.new.timers = search rules in
    place.sound c.args.value c.insert_reserved.new.self (stored-vacant c.make_place.new.values c.insert_reserved.new.self c.insert_reserved.result c.args.value c.insert_reserved.ensures.key c.insert_reserved.ensures.updates)
