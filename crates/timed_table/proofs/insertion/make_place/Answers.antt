use Rattle.std.proofs.Common.{rules, ◌≡◌, ◌++◌, ◌∷◌, [], Result, Ok, Err, OnErr}
use Rattle.timed_table.proofs.TiedLemmas.{key-above}
use Rattle.timed_table.proofs.SoundLemmas.{sound-roomy, place-made}
use Rattle.timed_table.proofs.insertion.make_place.Given.{Over}
use Rattle.timed_table.proofs.insertion.make_place.Goals as goal

either : {V E P : Type 0} (r : Result V E) → P → OnErr r P
either (Ok v) p = tt
either (Err e) p = p

pub returns-in_err-key-clause-sound : goal.returns-in_err-key-clause-sound
returns-in_err-key-clause-sound g c = either c.from_residual.result (sound-roomy c.args.keys.now c.args.values.now c.args.timers.now c.requires.sound c.make_room.new.values c.make_room.ensures.values c.make_room.new.timers c.make_room.ensures.extended)

pub insert-requires : goal.insert-requires
insert-requires g c = key-above c.args.keys.now c.args.values.now c.args.timers.now c.requires.sound.tied c.args.id c.requires.below

same_keys : (g : Over) (c : goal.After-from_residual-in_err-insert g) → c.insert.new.self ≡ c.args.keys.now
same_keys g c = search rules

pub returns-in_err-insert-clause-sound : goal.returns-in_err-insert-clause-sound
returns-in_err-insert-clause-sound g c =
    either c.from_residual-in_err-insert.result
    (rw (same_keys g c) (sound-roomy c.args.keys.now c.args.values.now c.args.timers.now c.requires.sound c.make_room.new.values c.make_room.ensures.values c.make_room.new.timers c.make_room.ensures.extended))

entries : (g : Over) (c : goal.After-set g) → c.insert.new.self ≡ c.args.keys.now ++ (c.args.id, c.in_ok-key.key) ∷ []
entries g c = search rules

pub returns-clause-place : goal.returns-clause-place
returns-clause-place g c =
    rw (entries g c, c.set.ensures, c.timer_named.ensures)
    (place-made c.args.keys.now c.args.values.now c.args.timers.now c.requires.sound c.make_room.new.values c.make_room.ensures.values c.make_room.new.timers c.make_room.ensures.extended
    c.args.id c.in_ok-key.key c.args.time c.in_ok-key.ensures.covered c.ranges.id.fits c.in_ok-key.ensures.key c.in_ok-key.ensures.vacant c.requires.below)
