use Rattle.std.proofs.Common.{rules, ◌≡◌, None, Some}
use Rattle.timed_table.specs.Tied.{key_of}
use Rattle.timed_table.proofs.WriteLemmas.{rows-untimed}
use Rattle.timed_table.proofs.SoundLemmas.{rows-time, sound-time}
use Rattle.timed_table.proofs.table.time_row.Goals as goal

pub returns-in-Some-clause-sound : goal.returns-in-Some-clause-sound
returns-in-Some-clause-sound g c =
    let at : key_of c.args.keys.now c.args.id ≡ Some c.in-Some.key = search rules in
    rw (c.find.ensures.same, c.set.ensures, c.timer_named.ensures) (sound-time c.args.keys.now c.args.values.now c.args.timers.now c.requires c.args.id c.in-Some.key at c.args.time)

pub returns-in-Some-clause-rows : goal.returns-in-Some-clause-rows
returns-in-Some-clause-rows g c =
    let at : key_of c.args.keys.now c.args.id ≡ Some c.in-Some.key = search rules in
    rw (c.find.ensures.same, c.set.ensures, c.timer_named.ensures) (rows-time c.args.keys.now c.args.values.now c.args.timers.now c.requires c.args.id c.in-Some.key at c.args.time)

pub returns-in_default-clause-rows : goal.returns-in_default-clause-rows
returns-in_default-clause-rows g c =
    let none : key_of c.args.keys.now c.args.id ≡ None = search rules in
    rw c.find.ensures.same (rows-untimed c.args.keys.now c.args.values.now c.args.timers.now c.requires.tied c.args.id c.args.time none)
