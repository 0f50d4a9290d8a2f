use Rattle.std.proofs.Common.{rules, arith, ap, sym, ◌≡◌, ◌^◌, ◌-◌, ◌∙◌, [], length, min, ℕ}
use Rattle.std.specs.List.{sum_by}
use Rattle.tcap_engine.specs.IdleDialogues.{idle_ids}
use Rattle.tcap_engine.specs.DialogueEntries.{dialogues_of}
use Rattle.tcap_engine.proofs.RoomLemmas.{idle_weight, idle-rows-count, moment_weight, room-rows, move-told, is-enough, is-some, is-long}
use Rattle.tcap_model.specs.Table.DueLapses.{all_told, all_idle_told}
use Rattle.timed_table.specs.Due.{due_rows_left}
use Rattle.timed_table.specs.Row.{due_values, entries_of}
use Rattle.tcap_engine.proofs.dialogues.Dialogues.capacity_at.Goals as goal

pub returns-clause-enough : goal.returns-clause-enough
returns-clause-enough g c =
    let w = moment_weight c.args.now in
    let total : ℕ = sum_by w (due_values c.args.now c.self.inside.rows) in
    let left : due_rows_left c.loop-dialogue.dialogue-iterator ≡ [] = search rules in
    let none = ap (sum_by w) left in
    let same : sum_by w (due_rows_left c.into_iter-dialogue-iterator.result) ≡ sum_by w (due_rows_left c.due-dialogue-items.result) = search rules in
    let all = c.due-dialogue-items.ensures w in
    let fits = c.loop-dialogue.invariant.fits in
    let rest = c.loop-dialogue.invariant.rest in
    let count : c.loop-dialogue.told ≡ min total (2 ^ 64 - 1) = omega (arith, none, same, all, fits, rest) in
    rw (← c.self.view_is) (is-enough c.loop-dialogue.told total (2 ^ 64 - 1) _ count (room-rows c.args.now c.self.inside.rows c.self.invariant))

pub returns-clause-some : goal.returns-clause-some
returns-clause-some g c =
    let w = moment_weight c.args.now in
    let total : ℕ = sum_by w (due_values c.args.now c.self.inside.rows) in
    let left : due_rows_left c.loop-dialogue.dialogue-iterator ≡ [] = search rules in
    let none = ap (sum_by w) left in
    let same : sum_by w (due_rows_left c.into_iter-dialogue-iterator.result) ≡ sum_by w (due_rows_left c.due-dialogue-items.result) = search rules in
    let all = c.due-dialogue-items.ensures w in
    let fits = c.loop-dialogue.invariant.fits in
    let rest = c.loop-dialogue.invariant.rest in
    let count : c.loop-dialogue.told ≡ min total (2 ^ 64 - 1) = omega (arith, none, same, all, fits, rest) in
    λ some. rw (← c.self.view_is) (is-long (all_told c.args.now (dialogues_of (entries_of c.self.inside.rows))) (all_idle_told c.args.now (dialogues_of (entries_of c.self.inside.rows)))
    (move-told c.args.now c.self.inside.rows c.self.invariant (is-some c.loop-dialogue.told total (2 ^ 64 - 1) count some)))

pub returns-clause-idle : goal.returns-clause-idle
returns-clause-idle g c =
    let w = idle_weight c.args.now in
    let left : due_rows_left c.loop-dialogue.dialogue-iterator ≡ [] = search rules in
    let none = ap (sum_by w) left in
    let same : sum_by w (due_rows_left c.into_iter-dialogue-iterator.result) ≡ sum_by w (due_rows_left c.due-dialogue-items.result) = search rules in
    let all : sum_by w (due_rows_left c.due-dialogue-items.result) ≡ length (idle_ids c.args.now c.args.self.now) =
    c.due-dialogue-items.ensures w ∙ sym (idle-rows-count c.args.now c.self.inside.rows c.self.invariant) ∙ ap (λ ps. length (idle_ids c.args.now ps)) c.self.view_is in
    let fits = c.loop-dialogue.invariant.idle_fits in
    let rest = c.loop-dialogue.invariant.idle_rest in
    omega (arith, none, same, all, fits, rest)
