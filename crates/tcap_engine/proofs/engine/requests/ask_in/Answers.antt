use Rattle.std.proofs.Common.{rules, ◌≡◌, ◌∙◌, sym, true, nat_eq, List, Some, Err}
use Rattle.std.specs.Map.{lookup}
use Rattle.tcap_primitives.specs.RequestViews.{request_view}
use Rattle.tcap_primitives.specs.SinkViews.{told_since}
use Rattle.tcap_dialogue.specs.StepViews.{Outcome, asked, outcome}
use Rattle.tcap_model.specs.Table.TableMove.{DialogueEvent, table_move}
use Rattle.tcap_primitives.specs.FaultViews.{fault_view}
use Rattle.tcap_engine.specs.DialogueEntries.{TableEntry}
use Rattle.tcap_engine.proofs.AskLemmas.{kept-placed, refused-placed, settled-placed}
use Rattle.tcap_engine.proofs.QueuedLemmas.{timer-asked}
use Rattle.tcap_engine.specs.RequestInTable.{keeps_timer}
use Rattle.tcap_dialogue.proofs.CallerLemmas.{refused-same}
use Rattle.tcap_engine.proofs.TimedLemmas.{timed-alike, timed-still, timed-settled}
use Rattle.timed_table.specs.Row.{entries_of}
use Rattle.tcap_engine.proofs.engine.requests.ask_in.Goals as goal

pub invariant_of-table-in_err-accepted : goal.invariant_of-table-in_err-accepted
invariant_of-table-in_err-accepted g c =
    let old = c.in-Some.dialogue.now in
    let new = c.ask_one.new.dialogue in
    let found : lookup (nat_eq c.args.identifier) (entries_of c.table.inside.rows) ≡ Some old = search rules in
    let same = refused-same (asked c.args.clock c.args.number) (request_view c.args.request.now) old new (fault_view c.in_err-accepted.field-0.0) c.in_err-accepted.ensures.answer.1 in
    rw (c.get_mut.follows.holds new).rows (timed-still c.args.identifier old new c.table.inside.rows found same c.table.invariant)

pub returns-in_err-accepted-clause-answer : goal.returns-in_err-accepted-clause-answer
returns-in_err-accepted-clause-answer g c =
    let ps : List TableEntry = entries_of c.table.inside.rows in
    let old = c.in-Some.dialogue.now in
    let new = c.ask_one.new.dialogue in
    let found : lookup (nat_eq c.args.identifier) ps ≡ Some old = search rules in
    let o : Outcome = outcome (table_move (asked c.args.clock c.args.number) old (DialogueEvent.request (request_view c.args.request.now))) in
    let is : c.from_residual.result ≡ Err c.in_err-accepted.field-0.0 = search rules in
    rw (← c.table.view_is, is, found, (c.get_mut.follows.holds new).entries) (refused-placed o old new c.args.identifier ps found (fault_view c.in_err-accepted.field-0.0) c.in_err-accepted.ensures.answer.1)

pub invariant_of-table-then-keeps_timer : goal.invariant_of-table-then-keeps_timer
invariant_of-table-then-keeps_timer g c =
    let old = c.in-Some.dialogue.now in
    let new = c.ask_one.new.dialogue in
    let found : lookup (nat_eq c.args.identifier) (entries_of c.table.inside.rows) ≡ Some old = search rules in
    let keeps : keeps_timer (request_view c.args.request.now) ≡ true = sym c.keeps_timer.ensures ∙ c.if-keeps_timer.true in
    let alike = timer-asked (asked c.args.clock c.args.number) (request_view c.args.request.now) old new (told_since c.args.sink.now.outputs c.ask_one.new.sink.outputs) c.in_ok-accepted.accepted keeps c.in_ok-accepted.ensures.answer.1 in
    rw (c.get_mut.follows.holds new).rows (timed-alike c.args.identifier old new c.table.inside.rows found alike.1 c.table.invariant)

pub returns-then-keeps_timer-clause-answer : goal.returns-then-keeps_timer-clause-answer
returns-then-keeps_timer-clause-answer g c =
    let ps : List TableEntry = entries_of c.table.inside.rows in
    let old = c.in-Some.dialogue.now in
    let new = c.ask_one.new.dialogue in
    let found : lookup (nat_eq c.args.identifier) ps ≡ Some old = search rules in
    let keeps : keeps_timer (request_view c.args.request.now) ≡ true = sym c.keeps_timer.ensures ∙ c.if-keeps_timer.true in
    let alike = timer-asked (asked c.args.clock c.args.number) (request_view c.args.request.now) old new (told_since c.args.sink.now.outputs c.ask_one.new.sink.outputs) c.in_ok-accepted.accepted keeps c.in_ok-accepted.ensures.answer.1 in
    let o : Outcome = outcome (table_move (asked c.args.clock c.args.number) old (DialogueEvent.request (request_view c.args.request.now))) in
    rw (← c.table.view_is, found, (c.get_mut.follows.holds new).entries) (kept-placed (told_since c.args.sink.now.outputs c.ask_one.new.sink.outputs) new c.args.identifier ps c.in_ok-accepted.accepted o c.in_ok-accepted.ensures.answer.1 alike.0)

pub invariant_of-table-2 : goal.invariant_of-table-2
invariant_of-table-2 g c =
    let new = c.ask_one.new.dialogue in
    rw (c.settle.ensures.rows, (c.get_mut.follows.holds new).rows) (timed-settled c.ends_dialogue-is_over.result c.args.identifier new _ c.table.inside.rows c.timer_after-timer.ensures c.table.invariant)

pub returns-clause-answer : goal.returns-clause-answer
returns-clause-answer g c =
    let ps : List TableEntry = entries_of c.table.inside.rows in
    let old = c.in-Some.dialogue.now in
    let new = c.ask_one.new.dialogue in
    let found : lookup (nat_eq c.args.identifier) ps ≡ Some old = search rules in
    let o : Outcome = outcome (table_move (asked c.args.clock c.args.number) old (DialogueEvent.request (request_view c.args.request.now))) in
    rw (← c.table.view_is, found)
    (settled-placed (told_since c.args.sink.now.outputs c.ask_one.new.sink.outputs) new c.args.identifier ps c.ends_dialogue-is_over.result c.in_ok-accepted.accepted o (entries_of c.settle.new.rows) c.in_ok-accepted.ensures.answer.1 c.ends_dialogue-is_over.ensures
    (rw (c.get_mut.follows.holds new).entries at c.settle.ensures.entries))
