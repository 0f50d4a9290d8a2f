use Rattle.std.proofs.Common.{rules, ◌≡◌, ◌∙◌, sym, ap, None, Some}
use Rattle.timer_queue.specs.Order.{timer_at}
use Rattle.timed_table.specs.Tied.{key_of}
use Rattle.timed_table.proofs.TiedLemmas.{time_of, time-is, time-none}
use Rattle.timed_table.proofs.table.Table.time_of.Goals as goal

pub returns-in_err-key : goal.returns-in_err-key
returns-in_err-key g c =
    let none : key_of c.self.inside.keys c.args.id ≡ None = search rules in
    rw (← c.self.view_is, c.from_residual.ensures) (sym (time-none c.self.inside.keys c.self.inside.values c.self.inside.timers c.self.invariant.tied c.args.id none))

pub returns-in_err-timer : goal.returns-in_err-timer
returns-in_err-timer g c =
    let at : key_of c.self.inside.keys c.args.id ≡ Some c.in_ok-key.key = search rules in
    let none : timer_at c.self.inside.timers c.in_ok-key.key ≡ None = search rules in
    let time = time-is c.self.inside.keys c.self.inside.values c.self.inside.timers c.self.invariant.tied c.args.id c.in_ok-key.key at in
    let left : c.from_residual-in_err-timer.result ≡ None = search rules in
    rw (← c.self.view_is, left) (sym (time ∙ ap time_of none))

pub returns : goal.returns
returns g c =
    let at : key_of c.self.inside.keys c.args.id ≡ Some c.in_ok-key.key = search rules in
    let some : timer_at c.self.inside.timers c.in_ok-key.key ≡ Some c.in_ok-timer.timer = search rules in
    let time = time-is c.self.inside.keys c.self.inside.values c.self.inside.timers c.self.invariant.tied c.args.id c.in_ok-key.key at in
    rw (← c.self.view_is) (sym (time ∙ ap time_of some))
