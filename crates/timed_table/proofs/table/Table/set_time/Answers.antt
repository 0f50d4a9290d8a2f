use Rattle.std.proofs.Common.{◌∙◌, ap}
use Rattle.timed_table.specs.Row.{entries_of}
use Rattle.timed_table.proofs.RowLemmas.{entries-time}
use Rattle.timed_table.proofs.table.Table.set_time.Goals as goal

pub returns-clause-entries : goal.returns-clause-entries
returns-clause-entries g c = rw (← c.self.view_is) (ap entries_of c.time_row.ensures.rows ∙ entries-time _ _ _)
