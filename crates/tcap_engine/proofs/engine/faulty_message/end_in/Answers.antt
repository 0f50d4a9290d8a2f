use Rattle.std.proofs.Common.{rules, ◌≡◌, ◌++◌, ◌∙◌, ap, refl, true, false, nat_eq, List, Some, Err}
use Rattle.std.proofs.lemmas.Map.Steps.{set_value_same}
use Rattle.std.specs.Map.{lookup, set_value}
use Rattle.tcap_dialogue.specs.declared.dialogue.requests.Accepted.TheVariants as accepted
use Rattle.tcap_dialogue.specs.StepViews.{Outcome, at_clock, outcome}
use Rattle.tcap_model.specs.Table.TableMove.{DialogueEvent, table_move}
use Rattle.tcap_model.specs.Words.State.{is_live}
use Rattle.tcap_model.specs.Procedures.AbortRules.{fault_cause, sent_if_any}
use Rattle.tcap_model.specs.Procedures.Reception.{fault_abort}
use Rattle.tcap_engine.specs.DialogueEntries.{TableEntry}
use Rattle.tcap_engine.proofs.AskLemmas.{settled-placed}
use Rattle.tcap_engine.proofs.TimedLemmas.{timed-gone, timed-still}
use Rattle.tcap_primitives.specs.SinkViews.{told_since}
use Rattle.timed_table.specs.Row.{entries_of}
use Rattle.tcap_engine.proofs.engine.faulty_message.end_in.Goals as goal

pub invariant_of-table-then-not-is_live : goal.invariant_of-table-then-not-is_live
invariant_of-table-then-not-is_live g c =
    let old = c.in-Some.dialogue.now in
    let found : lookup (nat_eq c.args.identifier) (entries_of c.table.inside.rows) ≡ Some old = search rules in
    rw (c.get_mut.follows.holds old).rows (timed-still c.args.identifier old old c.table.inside.rows found refl c.table.invariant)

pub returns-then-not-is_live-clause-reached : goal.returns-then-not-is_live-clause-reached
returns-then-not-is_live-clause-reached g c =
    let ps : List TableEntry = entries_of c.table.inside.rows in
    let old = c.in-Some.dialogue.now in
    let found : lookup (nat_eq c.args.identifier) ps ≡ Some old = search rules in
    let live : is_live old.standing.state ≡ false = search rules in
    rw (← c.table.view_is, found, live) ((c.get_mut.follows.holds old).entries ∙ set_value_same (nat_eq c.args.identifier) ps old found)

pub invariant_of-table-in_err-take_faulty : goal.invariant_of-table-in_err-take_faulty
invariant_of-table-in_err-take_faulty g c =
    let old = c.in-Some.dialogue.now in
    let new = c.take_faulty.new.self in
    let found : lookup (nat_eq c.args.identifier) (entries_of c.table.inside.rows) ≡ Some old = search rules in
    let same : new ≡ old = search rules in
    rw (c.get_mut.follows.holds new).rows (timed-still c.args.identifier old new c.table.inside.rows found same c.table.invariant)

pub returns-in_err-take_faulty-clause-reached : goal.returns-in_err-take_faulty-clause-reached
returns-in_err-take_faulty-clause-reached g c =
    let ps : List TableEntry = entries_of c.table.inside.rows in
    let old = c.in-Some.dialogue.now in
    let new = c.take_faulty.new.self in
    let found : lookup (nat_eq c.args.identifier) ps ≡ Some old = search rules in
    let same : new ≡ old = search rules in
    let is : c.from_residual.result ≡ Err c.in_err-take_faulty.field-0.0 = search rules in
    rw (← c.table.view_is, is) ((c.get_mut.follows.holds new).entries ∙ ap (set_value (nat_eq c.args.identifier) ps) same ∙ set_value_same (nat_eq c.args.identifier) ps old found)

pub invariant_of-table-2 : goal.invariant_of-table-2
invariant_of-table-2 g c =
    let new = c.take_faulty.new.self in
    rw (c.take_out.ensures.rows, (c.get_mut.follows.holds new).rows) (timed-gone c.args.identifier new c.table.inside.rows c.table.invariant)

pub returns-clause-reached : goal.returns-clause-reached
returns-clause-reached g c =
    let ps : List TableEntry = entries_of c.table.inside.rows in
    let old = c.in-Some.dialogue.now in
    let new = c.take_faulty.new.self in
    let found : lookup (nat_eq c.args.identifier) ps ≡ Some old = search rules in
    let live : is_live old.standing.state ≡ true = search rules in
    let o : Outcome = outcome (table_move (at_clock 0) old (DialogueEvent.fault (fault_cause c.args.fault))) in
    let ok = rw c.copied_if_any.ensures at (c.in_ok-take_faulty.ensures.ok (at_clock 0)) in
    rw (← c.table.view_is, found, live)
    (settled-placed (told_since (c.args.sink.now.outputs ++ sent_if_any c.args.from.now (fault_abort c.args.fault c.args.origin.now)) c.take_faulty.new.sink.outputs) new c.args.identifier ps true (accepted.Step true) o (entries_of c.take_out.new.rows) ok.1 refl
    (rw (c.get_mut.follows.holds new).entries at c.take_out.ensures.entries))

pub returns-clause-kept : goal.returns-clause-kept
returns-clause-kept g c = (rw c.copied_if_any.ensures at (c.in_ok-take_faulty.ensures.ok (at_clock 0))).0
