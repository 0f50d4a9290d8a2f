use Rattle.std.proofs.Common.{rules, ◌≡◌, nat_eq, List, Some, refl, true, arith}
use Rattle.std.specs.Map.{lookup}
use Rattle.std.proofs.lemmas.Bool.Decides.{nat_tests}
use Rattle.tcap_dialogue.specs.RequestForm.{numbered}
use Rattle.tcap_dialogue.specs.StepViews.{Outcome, asked, outcome}
use Rattle.tcap_engine.proofs.AskLemmas.{answers-placed, refused-placed}
use Rattle.tcap_engine.proofs.QueuedLemmas.{timer-answered}
use Rattle.tcap_engine.proofs.TimedLemmas.{timed-alike}
use Rattle.tcap_engine.specs.DialogueEntries.{TableEntry}
use Rattle.tcap_model.specs.Table.TableMove.{DialogueEvent, table_move}
use Rattle.tcap_model.specs.Words.Identifiers.{are_numbers_spent}
use Rattle.tcap_model.specs.Words.Request.{Request}
use Rattle.tcap_primitives.specs.FaultViews.{fault_view}
use Rattle.tcap_primitives.specs.RequestViews.{invoke_view}
use Rattle.timed_table.specs.Row.{entries_of}
use Rattle.tcap_engine.proofs.engine.component_requests.invoke_in.Goals as goal

-- All numbers are spent: nothing changes.
pub invariant_of-table-then-number-eq18446744073709551615 : goal.invariant_of-table-then-number-eq18446744073709551615
invariant_of-table-then-number-eq18446744073709551615 g c =
    let old = c.in-Some.dialogue.now in
    let found : lookup (nat_eq c.args.identifier) (entries_of c.table.inside.rows) ≡ Some old = search rules in
    rw (c.get_mut.follows.holds old).rows (timed-alike c.args.identifier old old c.table.inside.rows found refl c.table.invariant)

pub returns-then-number-eq18446744073709551615 : goal.returns-then-number-eq18446744073709551615
returns-then-number-eq18446744073709551615 g c clock =
    let ps : List TableEntry = entries_of c.table.inside.rows in
    let old = c.in-Some.dialogue.now in
    let found : lookup (nat_eq c.args.identifier) ps ≡ Some old = search rules in
    let o : Outcome = outcome (table_move (asked clock c.args.number) old (DialogueEvent.request (Request.component (invoke_view c.args.request.now)))) in
    let none : are_numbers_spent c.args.number ≡ true = let last = c.if-number-eq18446744073709551615.true in grind (arith, nat_tests, last) in
    rw (← c.table.view_is, found, (c.get_mut.follows.holds old).entries) (refused-placed o old old c.args.identifier ps found (fault_view c.spent_fault.result) (c.spent_fault.ensures clock c.args.number none))

pub invariant_of-table-2 : goal.invariant_of-table-2
unfolding table_move
invariant_of-table-2 g c =
    let old = c.in-Some.dialogue.now in
    let new = c.invoke_with.new.self in
    let found : lookup (nat_eq c.args.identifier) (entries_of c.table.inside.rows) ≡ Some old = search rules in
    let same = timer-answered numbered c.invoke_with.result (asked 0 c.args.number) (Request.component (invoke_view c.args.request.now)) old new refl c.invoke_with.ensures.answer in
    rw (c.get_mut.follows.holds new).rows (timed-alike c.args.identifier old new c.table.inside.rows found same c.table.invariant)

pub returns : goal.returns
unfolding table_move
returns g c clock =
    let ps : List TableEntry = entries_of c.table.inside.rows in
    let old = c.in-Some.dialogue.now in
    let new = c.invoke_with.new.self in
    let found : lookup (nat_eq c.args.identifier) ps ≡ Some old = search rules in
    let o : Outcome = outcome (table_move (asked clock c.args.number) old (DialogueEvent.request (Request.component (invoke_view c.args.request.now)))) in
    rw (← c.table.view_is, found, (c.get_mut.follows.holds new).entries) (answers-placed o old new c.args.identifier ps found numbered c.invoke_with.result c.invoke_with.ensures.answer)
