use Rattle.std.proofs.Common.{rules, arith, ◌≡◌, ◌+◌, ◌∙◌, ◌++◌, ap, sym, nat_eq, length, List, Some}
use Rattle.std.proofs.lemmas.List.{length-map}
use Rattle.std.specs.Map.{lookup}
use Rattle.tcap_engine.specs.IdleDialogues.{idle_end_in, idle_end}
use Rattle.tcap_engine.specs.DialogueEntries.{TableEntry}
use Rattle.tcap_engine.proofs.TimedLemmas.{timed-without}
use Rattle.tcap_invocation.specs.Closing.{ended_at}
use Rattle.tcap_model.specs.Table.TableMove.{ended_told}
use Rattle.timed_table.specs.Row.{entries_of}
use Rattle.tcap_engine.proofs.dialogues.end_one.Goals as goal

pub invariant_of-table : goal.invariant_of-table
invariant_of-table g c = rw c.remove.ensures.rows (timed-without c.args.identifier c.table.inside.rows c.table.invariant)

pub invariant_of-table-2 : goal.invariant_of-table-2
invariant_of-table-2 g c = rw c.remove.ensures.rows (timed-without c.args.identifier c.table.inside.rows c.table.invariant)

pub abort_idle-requires : goal.abort_idle-requires
abort_idle-requires g c =
    let ps : List TableEntry = entries_of c.table.inside.rows in
    let d = c.args.identifier in
    let old = c.in-Some.dialogue in
    let found : lookup (nat_eq d) ps ≡ Some old = search rules in
    let counted : length (idle_end_in ps d) ≡ length (idle_end (Some old)) = ap (λ o. length (idle_end o)) found in
    let more : length (idle_end (Some old)) ≡ length (ended_told old.standing.identifier old.invocations) + 1 = omega arith in
    let same : length (ended_told old.standing.identifier old.invocations) ≡ length (ended_at old.invocations.rows) = length-map (ended_at old.invocations.rows) _ in
    let room = rw (← c.table.view_is) at c.requires.places in
    omega (arith, counted, more, same, room)

pub returns-clause-places : goal.returns-clause-places
returns-clause-places g c =
    let ps : List TableEntry = entries_of c.table.inside.rows in
    let d = c.args.identifier in
    let old = c.in-Some.dialogue in
    let found : lookup (nat_eq d) ps ≡ Some old = search rules in
    let counted : length (idle_end_in ps d) ≡ length (idle_end (Some old)) = ap (λ o. length (idle_end o)) found in
    let more : length (idle_end (Some old)) ≡ length (ended_told old.standing.identifier old.invocations) + 1 = omega arith in
    let same : length (ended_told old.standing.identifier old.invocations) ≡ length (ended_at old.invocations.rows) = length-map (ended_at old.invocations.rows) _ in
    rw (← c.table.view_is) (omega (arith, counted, more, same, c.abort_idle.ensures.places))

pub returns-clause-told : goal.returns-clause-told
returns-clause-told g c =
    let ps : List TableEntry = entries_of c.table.inside.rows in
    let d = c.args.identifier in
    let old = c.in-Some.dialogue in
    let before = c.args.sink.now.outputs in
    let found : lookup (nat_eq d) ps ≡ Some old = search rules in
    let over : idle_end_in ps d ≡ idle_end (Some old) = ap idle_end found in
    rw (← c.table.view_is) (c.abort_idle.ensures.told ∙ ap (λ os. before ++ os) (sym over))
