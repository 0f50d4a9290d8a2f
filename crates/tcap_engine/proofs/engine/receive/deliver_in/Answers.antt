use Rattle.std.proofs.Common.{rules, ◌≡◌, ◌∙◌, ap, refl, true, false, nat_eq, List, Some, Err}
use Rattle.std.proofs.lemmas.Map.Steps.{set_value_same}
use Rattle.std.specs.Map.{lookup, set_value}
use Rattle.tcap_dialogue.specs.declared.dialogue.requests.Accepted.TheVariants as accepted
use Rattle.tcap_dialogue.specs.StepViews.{Outcome, at_clock, outcome}
use Rattle.tcap_model.specs.Table.TableMove.{DialogueEvent, table_move}
use Rattle.tcap_model.specs.Words.State.{is_live}
use Rattle.tcap_pdu.specs.FrameViews.{message}
use Rattle.tcap_engine.specs.DialogueEntries.{TableEntry}
use Rattle.tcap_engine.proofs.AskLemmas.{settled-placed}
use Rattle.tcap_engine.proofs.TimedLemmas.{timed-still, timed-settled}
use Rattle.tcap_primitives.specs.SinkViews.{told_since}
use Rattle.timed_table.specs.Row.{entries_of}
use Rattle.tcap_engine.proofs.engine.receive.deliver_in.Goals as goal

pub invariant_of-table-then-not-is_live : goal.invariant_of-table-then-not-is_live
invariant_of-table-then-not-is_live g c =
    let old = c.in-Some.dialogue.now in
    let found : lookup (nat_eq c.args.identifier) (entries_of c.table.inside.rows) ≡ Some old = search rules in
    rw (c.get_mut.follows.holds old).rows (timed-still c.args.identifier old old c.table.inside.rows found refl c.table.invariant)

pub returns-then-not-is_live-clause-reached : goal.returns-then-not-is_live-clause-reached
returns-then-not-is_live-clause-reached g c =
    let ps : List TableEntry = entries_of c.table.inside.rows in
    let old = c.in-Some.dialogue.now in
    let found : lookup (nat_eq c.args.identifier) ps ≡ Some old = search rules in
    let live : is_live old.standing.state ≡ false = search rules in
    rw (← c.table.view_is, found, live) ((c.get_mut.follows.holds old).entries ∙ set_value_same (nat_eq c.args.identifier) ps old found)

pub invariant_of-table-in_err-is_over : goal.invariant_of-table-in_err-is_over
invariant_of-table-in_err-is_over g c =
    let old = c.in-Some.dialogue.now in
    let new = c.take_frame_with.new.self in
    let found : lookup (nat_eq c.args.identifier) (entries_of c.table.inside.rows) ≡ Some old = search rules in
    let same : new ≡ old = search rules in
    rw (c.get_mut.follows.holds new).rows (timed-still c.args.identifier old new c.table.inside.rows found same c.table.invariant)

pub returns-in_err-is_over-clause-reached : goal.returns-in_err-is_over-clause-reached
returns-in_err-is_over-clause-reached g c =
    let ps : List TableEntry = entries_of c.table.inside.rows in
    let old = c.in-Some.dialogue.now in
    let new = c.take_frame_with.new.self in
    let found : lookup (nat_eq c.args.identifier) ps ≡ Some old = search rules in
    let same : new ≡ old = search rules in
    let is : c.from_residual.result ≡ Err c.in_err-is_over.field-0.0 = search rules in
    rw (← c.table.view_is, is) ((c.get_mut.follows.holds new).entries ∙ ap (set_value (nat_eq c.args.identifier) ps) same ∙ set_value_same (nat_eq c.args.identifier) ps old found)

pub invariant_of-table-2 : goal.invariant_of-table-2
invariant_of-table-2 g c =
    let new = c.take_frame_with.new.self in
    rw (c.settle.ensures.rows, (c.get_mut.follows.holds new).rows) (timed-settled c.in_ok-is_over.is_over c.args.identifier new _ c.table.inside.rows c.timer_after-timer.ensures c.table.invariant)

pub returns-clause-reached : goal.returns-clause-reached
returns-clause-reached g c =
    let ps : List TableEntry = entries_of c.table.inside.rows in
    let old = c.in-Some.dialogue.now in
    let new = c.take_frame_with.new.self in
    let s = c.in_ok-is_over.is_over in
    let found : lookup (nat_eq c.args.identifier) ps ≡ Some old = search rules in
    let live : is_live old.standing.state ≡ true = search rules in
    let o : Outcome = outcome (table_move (at_clock c.args.clock) old (DialogueEvent.frame c.args.from.now (message c.args.frame.now))) in
    rw (← c.table.view_is, found, live)
    (settled-placed (told_since c.args.sink.now.outputs c.take_frame_with.new.sink.outputs) new c.args.identifier ps s (accepted.Step s) o (entries_of c.settle.new.rows) c.in_ok-is_over.ensures.ok.1 refl
    (rw (c.get_mut.follows.holds new).entries at c.settle.ensures.entries))
