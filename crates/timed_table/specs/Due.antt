-- What is left of a walk over the values that are due.
use Rattle.std.specs.Prelude.{List, filter_map}
use Rattle.slab.specs.Slab.{get}
use Rattle.timer_queue.specs.Due.{due_left}
use Rattle.timed_table.specs.declared.due.DueRows.{DueRows}

-- The values that an iterator has still to give (own).
abbrev pub due_rows_left : {T A : Type 0} → DueRows T A → List T
due_rows_left d = filter_map (get d.values.now) (due_left d.keys)
