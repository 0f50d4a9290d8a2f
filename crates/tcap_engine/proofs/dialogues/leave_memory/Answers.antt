use Rattle.tcap_engine.proofs.TableLemmas.{removed-set}
use Rattle.tcap_engine.proofs.TimedLemmas.{without-written}
use Rattle.std.proofs.Common.{ap, nat_eq, ◌∙◌}
use Rattle.std.specs.Map.{remove_entry}
use Rattle.timed_table.specs.Row.{entries_of, without}
use Rattle.tcap_engine.proofs.dialogues.leave_memory.Goals as goal

pub returns-clause-rows : goal.returns-clause-rows
returns-clause-rows g c =
    let new = c.leave_memory.new.self in
    ap (without c.args.identifier) (c.get_mut.follows.holds new).rows ∙ without-written c.args.identifier new c.args.rows.now

pub returns-clause-entries : goal.returns-clause-entries
returns-clause-entries g c =
    let new = c.leave_memory.new.self in
    ap (remove_entry (nat_eq c.args.identifier)) (c.get_mut.follows.holds new).entries ∙ removed-set c.args.identifier new (entries_of c.args.rows.now)
