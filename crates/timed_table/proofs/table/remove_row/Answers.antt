use Rattle.std.proofs.Common.{rules, ◌≡◌, ◌∙◌, ◌+◌, sym, ap, length, None, Some}
use Rattle.timed_table.specs.Tied.{key_of}
use Rattle.timed_table.proofs.TiedLemmas.{value_at, value-is}
use Rattle.timed_table.proofs.WriteLemmas.{rows-unremoved}
use Rattle.timed_table.proofs.SoundLemmas.{rows-remove, sound-remove}
use Rattle.timed_table.proofs.table.remove_row.Goals as goal

pub returns-in_err-key-clause-value : goal.returns-in_err-key-clause-value
returns-in_err-key-clause-value g c =
    let none : key_of c.args.keys.now c.args.id ≡ None = search rules in
    let value = value-is c.args.keys.now c.args.values.now c.args.timers.now c.requires.tied c.args.id in
    let left : c.from_residual.result ≡ None = search rules in
    left ∙ sym (value ∙ ap (value_at c.args.values.now) none)

pub returns-in_err-key-clause-rows : goal.returns-in_err-key-clause-rows
returns-in_err-key-clause-rows g c =
    let none : key_of c.args.keys.now c.args.id ≡ None = search rules in
    let kept : c.remove.new.self ≡ c.args.keys.now = search rules in
    rw kept (rows-unremoved c.args.keys.now c.args.values.now c.args.timers.now c.requires.tied c.args.id none)

pub returns-clause-sound : goal.returns-clause-sound
returns-clause-sound g c =
    let at : key_of c.args.keys.now c.args.id ≡ Some c.in_ok-key.key = search rules in
    let fewer : length c.remove.new.self + 1 ≡ length c.args.keys.now = search rules in
    rw c.set.ensures (sound-remove c.args.keys.now c.args.values.now c.args.timers.now c.requires c.args.id c.in_ok-key.key at c.remove.new.self c.try_remove.new.self c.remove.ensures.updates fewer c.try_remove.ensures.updates)

pub returns-clause-value : goal.returns-clause-value
returns-clause-value g c =
    let at : key_of c.args.keys.now c.args.id ≡ Some c.in_ok-key.key = search rules in
    let value = value-is c.args.keys.now c.args.values.now c.args.timers.now c.requires.tied c.args.id in
    c.try_remove.ensures.value ∙ sym (value ∙ ap (value_at c.args.values.now) at)

pub returns-clause-rows : goal.returns-clause-rows
returns-clause-rows g c =
    let at : key_of c.args.keys.now c.args.id ≡ Some c.in_ok-key.key = search rules in
    let fewer : length c.remove.new.self + 1 ≡ length c.args.keys.now = search rules in
    rw c.set.ensures (rows-remove c.args.keys.now c.args.values.now c.args.timers.now c.requires c.args.id c.in_ok-key.key at c.remove.new.self c.try_remove.new.self c.remove.ensures.updates fewer c.try_remove.ensures.updates)
