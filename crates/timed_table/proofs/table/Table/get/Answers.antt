use Rattle.std.proofs.Common.{rules, ◌≡◌, ◌∙◌, sym, ap, None, Some}
use Rattle.timed_table.specs.Tied.{key_of}
use Rattle.timed_table.proofs.TiedLemmas.{value_at, value-is}
use Rattle.timed_table.proofs.table.Table.get.Goals as goal

pub returns-in_err-key : goal.returns-in_err-key
returns-in_err-key g c =
    let none : key_of c.self.inside.keys c.args.id ≡ None = search rules in
    let value = value-is c.self.inside.keys c.self.inside.values c.self.inside.timers c.self.invariant.tied c.args.id in
    rw (← c.self.view_is, c.from_residual.ensures) (sym (value ∙ ap (value_at c.self.inside.values) none))

pub returns : goal.returns
returns g c =
    let at : key_of c.self.inside.keys c.args.id ≡ Some c.in_ok-key.key = search rules in
    let value = value-is c.self.inside.keys c.self.inside.values c.self.inside.timers c.self.invariant.tied c.args.id in
    rw (← c.self.view_is) (c.get-2.ensures ∙ sym (value ∙ ap (value_at c.self.inside.values) at))
