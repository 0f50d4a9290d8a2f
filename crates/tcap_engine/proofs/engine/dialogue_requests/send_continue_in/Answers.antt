use Rattle.std.proofs.Common.{rules, ◌≡◌, nat_eq, false, List, Some, Err, refl}
use Rattle.std.specs.Map.{lookup}
use Rattle.tcap_dialogue.proofs.CallerLemmas.{refused-same}
use Rattle.tcap_dialogue.specs.StepViews.{Outcome, asked, outcome}
use Rattle.tcap_dialogue.specs.declared.dialogue.requests.Accepted.TheVariants as accepted
use Rattle.tcap_engine.proofs.AskLemmas.{refused-placed, settled-placed}
use Rattle.tcap_engine.proofs.TimedLemmas.{timed-still, timed-settled}
use Rattle.tcap_engine.specs.DialogueEntries.{TableEntry}
use Rattle.tcap_model.specs.Table.TableMove.{DialogueEvent, table_move}
use Rattle.tcap_model.specs.Words.Request.{Request}
use Rattle.tcap_primitives.specs.FaultViews.{fault_view}
use Rattle.tcap_primitives.specs.RequestViews.{continue_view}
use Rattle.tcap_primitives.specs.SinkViews.{told_since}
use Rattle.timed_table.specs.Row.{entries_of}
use Rattle.tcap_engine.proofs.engine.dialogue_requests.send_continue_in.Goals as goal

pub invariant_of-table-in_err-go_on_with : goal.invariant_of-table-in_err-go_on_with
unfolding table_move
invariant_of-table-in_err-go_on_with g c =
    let old = c.in-Some.dialogue.now in
    let new = c.go_on_with.new.self in
    let found : lookup (nat_eq c.args.identifier) (entries_of c.table.inside.rows) ≡ Some old = search rules in
    let same = refused-same (asked c.args.clock 0) (Request.dialogue (continue_view c.args.request.now)) old new (fault_view c.in_err-go_on_with.field-0.0) c.in_err-go_on_with.ensures.step.1 in
    rw (c.get_mut.follows.holds new).rows (timed-still c.args.identifier old new c.table.inside.rows found same c.table.invariant)

pub returns-in_err-go_on_with-clause-answer : goal.returns-in_err-go_on_with-clause-answer
unfolding table_move
returns-in_err-go_on_with-clause-answer g c number =
    let ps : List TableEntry = entries_of c.table.inside.rows in
    let old = c.in-Some.dialogue.now in
    let new = c.go_on_with.new.self in
    let found : lookup (nat_eq c.args.identifier) ps ≡ Some old = search rules in
    let o : Outcome = outcome (table_move (asked c.args.clock number) old (DialogueEvent.request (Request.dialogue (continue_view c.args.request.now)))) in
    let is : c.from_residual.result ≡ Err c.in_err-go_on_with.field-0.0 = search rules in
    rw (← c.table.view_is, is, found, (c.get_mut.follows.holds new).entries) (refused-placed o old new c.args.identifier ps found (fault_view c.in_err-go_on_with.field-0.0) c.in_err-go_on_with.ensures.step.1)

pub invariant_of-table-2 : goal.invariant_of-table-2
invariant_of-table-2 g c =
    let new = c.go_on_with.new.self in
    rw (c.write_timer.ensures.rows, (c.get_mut.follows.holds new).rows) (timed-settled false c.args.identifier new _ c.table.inside.rows (λ _. c.next_timer-timer.ensures) c.table.invariant)

pub returns-clause-answer : goal.returns-clause-answer
unfolding table_move
returns-clause-answer g c number =
    let ps : List TableEntry = entries_of c.table.inside.rows in
    let old = c.in-Some.dialogue.now in
    let new = c.go_on_with.new.self in
    let found : lookup (nat_eq c.args.identifier) ps ≡ Some old = search rules in
    let o : Outcome = outcome (table_move (asked c.args.clock number) old (DialogueEvent.request (Request.dialogue (continue_view c.args.request.now)))) in
    rw (← c.table.view_is, found)
    (settled-placed (told_since c.args.sink.now.outputs c.go_on_with.new.sink.outputs) new c.args.identifier ps false (accepted.Step false) o (entries_of c.write_timer.new.rows) c.in_ok-go_on_with.ensures.step.1 refl
    (rw (c.get_mut.follows.holds new).entries at c.write_timer.ensures.entries))
