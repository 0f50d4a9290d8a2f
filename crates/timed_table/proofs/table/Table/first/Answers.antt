use Rattle.std.proofs.Common.{rules, ◌≡◌, Some}
use Rattle.timer_queue.specs.Order.{timer_at}
use Rattle.timer_queue.specs.Queue.{HasNoTimer, IsFirst as IsFirstItem}
use Rattle.timed_table.specs.Tied.{identifier_limit, row_at}
use Rattle.timed_table.proofs.FirstLemmas.{no-time, first-row}
use Rattle.timed_table.proofs.RowLemmas.{rows-rising}
use Rattle.timed_table.proofs.TiedLemmas.{row-names}
use Rattle.timed_table.proofs.table.Table.first.Goals as goal

pub returns-in_err-key-clause-first : goal.returns-in_err-key-clause-first
returns-in_err-key-clause-first g c =
    let none : HasNoTimer c.self.inside.timers = search rules in
    rw (← c.self.view_is, c.from_residual.ensures) (no-time c.self.inside.keys c.self.inside.values c.self.inside.timers c.self.invariant.tied none)

pub returns-clause-first : goal.returns-clause-first
returns-clause-first g c =
    let is_first : IsFirstItem c.self.inside.timers c.in_ok-key.key = search rules in
    let has : timer_at c.self.inside.timers c.in_ok-key.key ≡ Some c.in_ok-timer.timer = search rules in
    rw (← c.self.view_is) (first-row c.self.inside.keys c.self.inside.values c.self.inside.timers c.self.invariant.tied c.in_ok-key.key c.in_ok-timer.timer has is_first)

pub returns-in_err-key-clause-rising : goal.returns-in_err-key-clause-rising
returns-in_err-key-clause-rising g c =
    let keys = c.self.inside.keys in
    let values = c.self.inside.values in
    let timers = c.self.inside.timers in
    rw (← c.self.view_is) (rows-rising (row_at keys values timers) (row-names keys values timers) 0 identifier_limit)

pub returns-clause-rising : goal.returns-clause-rising
returns-clause-rising g c =
    let keys = c.self.inside.keys in
    let values = c.self.inside.values in
    let timers = c.self.inside.timers in
    rw (← c.self.view_is) (rows-rising (row_at keys values timers) (row-names keys values timers) 0 identifier_limit)
