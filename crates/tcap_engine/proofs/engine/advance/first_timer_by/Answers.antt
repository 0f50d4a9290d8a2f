use Rattle.std.proofs.Common.{rules, arith, ◌<◌, List}
use Rattle.tcap_engine.specs.Lapsing.{AreUntimed, IsFirstTimer}
use Rattle.tcap_engine.specs.DialogueEntries.{TableEntry}
use Rattle.tcap_engine.proofs.QuietLemmas.{late-quiet, idle-late, behind-late}
use Rattle.tcap_engine.proofs.engine.advance.first_timer_by.Goals as goal

pub returns-in_err-first-clause-first : goal.returns-in_err-first-clause-first
returns-in_err-first-clause-first g c =
    let ps : List TableEntry = c.args.table.now in
    let idle : AreUntimed ps = search rules in
    rw c.from_residual.ensures (late-quiet c.args.now ps (idle-late c.args.now ps idle))

pub returns-else-first-now-clause-first : goal.returns-else-first-now-clause-first
returns-else-first-now-clause-first g c =
    let ps : List TableEntry = c.args.table.now in
    let first : IsFirstTimer ps c.in_ok-first.first = search rules in
    let before : c.args.now < c.in_ok-first.first.0 = search (rules, arith) in
    late-quiet c.args.now ps (behind-late c.args.now c.in_ok-first.first ps before first.least)
