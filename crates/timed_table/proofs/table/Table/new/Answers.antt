use Rattle.timed_table.proofs.SoundLemmas.{sound-empty, rows-empty}
use Rattle.timed_table.proofs.table.Table.new.Goals as goal

pub invariant_of-result : goal.invariant_of-result
invariant_of-result g c = rw (c.new-2.ensures, c.new-3.ensures) (sound-empty c.new.result)

pub returns : goal.returns
returns g c = rw (c.new-2.ensures, c.new-3.ensures) (rows-empty c.new.result)
