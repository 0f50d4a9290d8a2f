use Rattle.std.proofs.Common.{◌∙◌, ap}
use Rattle.timed_table.specs.Row.{entries_of}
use Rattle.timed_table.specs.Tied.{all_rows}
use Rattle.timed_table.proofs.RowLemmas.{entries-without}
use Rattle.timed_table.proofs.table.Table.remove.Goals as goal

pub returns-clause-entries : goal.returns-clause-entries
returns-clause-entries g c =
    let rows = all_rows c.self.inside.keys c.self.inside.values c.self.inside.timers in
    rw (← c.self.view_is) (ap entries_of c.remove_row.ensures.rows ∙ entries-without c.args.id rows)
