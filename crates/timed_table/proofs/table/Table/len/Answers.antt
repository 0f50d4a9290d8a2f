use Rattle.timed_table.specs.Tied.{identifier_limit, row_at}
use Rattle.timed_table.proofs.RowLemmas.{rows-rising}
use Rattle.timed_table.proofs.TiedLemmas.{row-names}
use Rattle.timed_table.proofs.table.Table.len.Goals as goal

pub returns-clause-rising : goal.returns-clause-rising
returns-clause-rising g c =
    let keys = c.self.inside.keys in
    let values = c.self.inside.values in
    let timers = c.self.inside.timers in
    rw (← c.self.view_is) (rows-rising (row_at keys values timers) (row-names keys values timers) 0 identifier_limit)
