use Rattle.std.proofs.Common.{rules, ◌≡◌, ◌∙◌, sym, ap, None, Some, refl}
use Rattle.slab.specs.Slab.{with_value as slab_with}
use Rattle.slab.proofs.SlabLemmas.{Updates-with_value}
use Rattle.timed_table.specs.Tied.{key_of}
use Rattle.timed_table.proofs.TiedLemmas.{value_at, value-is}
use Rattle.timed_table.proofs.SoundLemmas.{sound-write, written, unwritten}
use Rattle.timed_table.proofs.table.Table.get_mut.Goals as goal

pub returns-in_err-key : goal.returns-in_err-key
returns-in_err-key g c =
    let keys = c.self.inside.keys in
    let values = c.self.inside.values in
    let timers = c.self.inside.timers in
    let none : key_of c.self.inside.keys c.args.id ≡ None = search rules in
    let value = value-is keys values timers c.self.invariant.tied c.args.id in
    rw (c.from_residual.ensures, c.find.ensures.same, ← c.self.view_is) ((refl, λ w. unwritten keys values timers c.self.invariant c.args.id w none, refl), record { writes_back = tt; value = sym (value ∙ ap (value_at values) none) })

pub invariant_of-self-lent : goal.invariant_of-self-lent
invariant_of-self-lent g c =
    let keys = c.self.inside.keys in
    let values = c.self.inside.values in
    let timers = c.self.inside.timers in
    let key = c.in_ok-key.key in
    let at : key_of c.self.inside.keys c.args.id ≡ Some c.in_ok-key.key = search rules in
    let held = c.self.invariant.tied.held c.args.id key at in
    rw c.find.ensures.same (λ o. (λ w. sound-write keys values timers c.self.invariant c.args.id key at (slab_with values key w) w (Updates-with_value values key w held), c.self.invariant))

pub returns : goal.returns
returns g c =
    let keys = c.self.inside.keys in
    let values = c.self.inside.values in
    let timers = c.self.inside.timers in
    let key = c.in_ok-key.key in
    let at : key_of c.self.inside.keys c.args.id ≡ Some c.in_ok-key.key = search rules in
    let held = c.self.invariant.tied.held c.args.id key at in
    let value = value-is keys values timers c.self.invariant.tied c.args.id in
    rw (c.find.ensures.same, ← c.self.view_is) (
      (refl, λ w. written keys values timers c.self.invariant c.args.id key at (slab_with values key w) w (Updates-with_value values key w held), refl),
      record { writes_back = tt; value = c.get_mut.ensures.value ∙ sym (value ∙ ap (value_at values) at) },
    )
