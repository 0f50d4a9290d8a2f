use Rattle.std.proofs.Common.{rules, ◌≡◌, nat_eq, List, Some, refl}
use Rattle.std.specs.Map.{lookup}
use Rattle.tcap_dialogue.specs.RequestForm.{queued_done}
use Rattle.tcap_dialogue.specs.StepViews.{Outcome, asked, outcome}
use Rattle.tcap_engine.proofs.AskLemmas.{answers-placed}
use Rattle.tcap_engine.proofs.QueuedLemmas.{timer-answered}
use Rattle.tcap_engine.proofs.TimedLemmas.{timed-alike}
use Rattle.tcap_engine.specs.DialogueEntries.{TableEntry}
use Rattle.tcap_model.specs.Table.TableMove.{DialogueEvent, table_move}
use Rattle.tcap_model.specs.Words.Request.{Request}
use Rattle.tcap_primitives.specs.RequestViews.{last_view}
use Rattle.timed_table.specs.Row.{entries_of}
use Rattle.tcap_engine.proofs.engine.component_requests.result_last_in.Goals as goal

pub invariant_of-table-2 : goal.invariant_of-table-2
unfolding table_move
invariant_of-table-2 g c =
    let old = c.in-Some.dialogue.now in
    let new = c.result_last_with.new.self in
    let found : lookup (nat_eq c.args.identifier) (entries_of c.table.inside.rows) ≡ Some old = search rules in
    let same = timer-answered queued_done c.result_last_with.result (asked 0 0) (Request.component (last_view c.args.request.now)) old new refl c.result_last_with.ensures.answer in
    rw (c.get_mut.follows.holds new).rows (timed-alike c.args.identifier old new c.table.inside.rows found same c.table.invariant)

pub returns : goal.returns
unfolding table_move
returns g c clock number =
    let ps : List TableEntry = entries_of c.table.inside.rows in
    let old = c.in-Some.dialogue.now in
    let new = c.result_last_with.new.self in
    let found : lookup (nat_eq c.args.identifier) ps ≡ Some old = search rules in
    let o : Outcome = outcome (table_move (asked clock number) old (DialogueEvent.request (Request.component (last_view c.args.request.now)))) in
    rw (← c.table.view_is, found, (c.get_mut.follows.holds new).entries) (answers-placed o old new c.args.identifier ps found queued_done c.result_last_with.result c.result_last_with.ensures.answer)
