use Rattle.std.proofs.Common.{rules, ◌≡◌, nat_eq, List, Some, Ok, Err, false}
use Rattle.std.specs.Map.{lookup}
use Rattle.tcap_dialogue.proofs.CallerLemmas.{refused-same}
use Rattle.tcap_dialogue.specs.RequestForm.{gave_up}
use Rattle.tcap_dialogue.specs.StepViews.{Outcome, asked, outcome}
use Rattle.tcap_engine.proofs.AskLemmas.{answers-placed, refused-placed}
use Rattle.tcap_engine.proofs.TimedLemmas.{timed-still, timed-settled}
use Rattle.tcap_engine.specs.DialogueEntries.{TableEntry}
use Rattle.tcap_model.specs.Table.TableMove.{DialogueEvent, table_move}
use Rattle.tcap_model.specs.Words.Request.{Request}
use Rattle.tcap_primitives.specs.FaultViews.{fault_view}
use Rattle.tcap_primitives.specs.RequestViews.{cancel_view}
use Rattle.timed_table.specs.Row.{entries_of}
use Rattle.tcap_engine.proofs.engine.component_requests.cancel_in.Goals as goal

pub invariant_of-table-in_err-number : goal.invariant_of-table-in_err-number
unfolding table_move
invariant_of-table-in_err-number g c =
    let old = c.in-Some.dialogue.now in
    let new = c.cancel_with.new.self in
    let found : lookup (nat_eq c.args.identifier) (entries_of c.table.inside.rows) ≡ Some old = search rules in
    let same = refused-same (asked 0 0) (Request.component (cancel_view c.args.request.now)) old new (fault_view c.in_err-number.field-0.0) c.in_err-number.ensures.answer in
    rw (c.get_mut.follows.holds new).rows (timed-still c.args.identifier old new c.table.inside.rows found same c.table.invariant)

pub returns-in_err-number : goal.returns-in_err-number
unfolding table_move
returns-in_err-number g c clock number =
    let ps : List TableEntry = entries_of c.table.inside.rows in
    let old = c.in-Some.dialogue.now in
    let new = c.cancel_with.new.self in
    let found : lookup (nat_eq c.args.identifier) ps ≡ Some old = search rules in
    let o : Outcome = outcome (table_move (asked clock number) old (DialogueEvent.request (Request.component (cancel_view c.args.request.now)))) in
    let is : c.from_residual.result ≡ Err c.in_err-number.field-0.0 = search rules in
    rw (← c.table.view_is, is, found, (c.get_mut.follows.holds new).entries) (refused-placed o old new c.args.identifier ps found (fault_view c.in_err-number.field-0.0) c.in_err-number.ensures.answer)

pub invariant_of-table-2 : goal.invariant_of-table-2
invariant_of-table-2 g c =
    let new = c.cancel_with.new.self in
    rw (c.write_timer.ensures.rows, (c.get_mut.follows.holds new).rows) (timed-settled false c.args.identifier new _ c.table.inside.rows (λ _. c.next_timer-timer.ensures) c.table.invariant)

pub returns : goal.returns
unfolding table_move
returns g c clock number =
    let ps : List TableEntry = entries_of c.table.inside.rows in
    let old = c.in-Some.dialogue.now in
    let new = c.cancel_with.new.self in
    let found : lookup (nat_eq c.args.identifier) ps ≡ Some old = search rules in
    let o : Outcome = outcome (table_move (asked clock number) old (DialogueEvent.request (Request.component (cancel_view c.args.request.now)))) in
    rw (← c.table.view_is, found, c.write_timer.ensures.entries, (c.get_mut.follows.holds new).entries) (answers-placed o old new c.args.identifier ps found gave_up (Ok c.in_ok-number.number) c.in_ok-number.ensures.answer)
