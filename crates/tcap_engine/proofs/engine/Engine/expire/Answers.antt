use Rattle.std.proofs.Common.{arith, append_assoc, sym, ap, refl, subst, ◌≡◌, ◌∙◌, ◌<◌, List, ◌++◌, ℕ, length, map, filter_map, inl, inr}
use Rattle.std.proofs.lemmas.Result.{err_from_is_err_and}
use Rattle.std.specs.List.{flat_map}
use Rattle.std.specs.Prelude.{IsTrue}
use Rattle.tcap_dialogue.specs.RequestForm.{takes_memory}
use Rattle.tcap_primitives.proofs.CallerLemmas.{keeps, since-is}
use Rattle.tcap_engine.specs.IdleDialogues.{AreDistinct, idle_ids, left_by, idle_end_in, entry_at, without_all}
use Rattle.tcap_engine.specs.DialogueEntries.{TableEntry, dialogues_of}
use Rattle.tcap_engine.proofs.EndLemmas.{ends-all, left-all}
use Rattle.tcap_engine.proofs.IdleLemmas.{idle-distinct}
use Rattle.tcap_engine.proofs.MomentLemmas.{sound-at, not-zero}
use Rattle.tcap_engine.proofs.OverLemmas.{ends-some, over-all, sound-without, takes-some}
use Rattle.tcap_engine.proofs.RoomLemmas.{is-long}
use Rattle.tcap_model.specs.Table.Dialogue.{Dialogue}
use Rattle.tcap_model.specs.Table.DueLapses.{all_told, all_idle_told, left_at}
use Rattle.tcap_model.specs.Table.EngineMove.{advanced}
use Rattle.tcap_model.specs.Table.World.{World}
use Rattle.tcap_model.specs.Words.Answer.{Answer}
use Rattle.tcap_model.specs.Words.Output.{Output}
use Rattle.tcap_engine.proofs.engine.Engine.expire.Goals as goal

pub returns-in_err-idle-clause-moves : goal.returns-in_err-idle-clause-moves
returns-in_err-idle-clause-moves g c =
    let now = c.args.now in
    let ps : List TableEntry = c.self.inside.table in
    let refused = c.in_err-idle.ensures.succeeds in
    let some : 0 < c.capacity_at-room.result.idle = not-zero c.capacity_at-room.result.idle (λ z. let no = refused z in absurd cc) in
    let count = c.capacity_at-room.ensures.idle in
    let idle : 0 < length (idle_ids now ps) = omega (arith, some, count) in
    let ends = ends-some now ps idle in
    let told : IsTrue (takes_memory (advanced c.args.self.now now).answer) =
    rw (sym c.self.view_is) (takes-some (all_told now (dialogues_of ps) ++ all_idle_told now (dialogues_of ps))
    (is-long (all_told now (dialogues_of ps)) (all_idle_told now (dialogues_of ps)) (omega (arith, ends)))) in
    let p = err_from_is_err_and c.from_residual.result c.from_residual.ensures.1 in
    rw (p.1, p.2) (refl, told)

pub end_all-requires-clause-apart : goal.end_all-requires-clause-apart
end_all-requires-clause-apart g c =
    let ps : List TableEntry = c.self.inside.table in
    subst AreDistinct (sym (c.deref.ensures.value ∙ c.tell_due.ensures.idle)) (idle-distinct c.args.now ps c.self.invariant.from)

pub end_all-requires-clause-places : goal.end_all-requires-clause-places
end_all-requires-clause-places g c =
    let now = c.args.now in
    let ps : List TableEntry = c.self.inside.table in
    let after : List TableEntry = c.tell_due.new.table in
    let ids : List ℕ = c.deref.result.now in
    let are : ids ≡ idle_ids now ps = c.deref.ensures.value ∙ c.tell_due.ensures.idle in
    let over : flat_map (idle_end_in after) ids ≡ all_idle_told now (dialogues_of ps) =
    ap (flat_map (idle_end_in after)) are ∙ over-all now (idle_ids now ps) after ps c.tell_due.ensures.quiet.rest c.tell_due.ensures.ends ∙ ends-all now ps c.self.invariant.from in
    let ends = ap (λ (os : List Output). length os) over in
    let count = c.in_ok-reserve.ensures.count in
    let within = c.in_ok-reserve.ensures.within.0 in
    let places = c.tell_due.ensures.places in
    elim c.capacity_at-room.ensures.enough [
      | inl enough ↦ omega (arith, enough, ends, count, places)
      | inr most ↦ absurd (omega (arith, most, within))
    ]

pub invariant_of-self : goal.invariant_of-self
invariant_of-self g c =
    let now = c.args.now in
    let ps : List TableEntry = c.self.inside.table in
    let after : List TableEntry = c.tell_due.new.table in
    let are : c.deref.result.now ≡ idle_ids now ps = c.deref.ensures.value ∙ c.tell_due.ensures.idle in
    let left : c.end_all.new.table ≡ left_by now (idle_ids now ps) ps =
    c.end_all.ensures.table ∙ ap (λ l. without_all l after) are ∙ ap (without_all (idle_ids now ps)) (sym c.tell_due.ensures.quiet.rest) ∙ c.tell_due.ensures.left in
    rw left (sound-without (idle_ids now ps) c.self.inside.limits c.self.inside.next_dialogue c.self.inside.next_number now (map (entry_at now) ps)
    (sound-at now c.self.inside.limits c.self.inside.next_dialogue c.self.inside.next_number c.self.inside.clock ps c.requires.late c.self.invariant))

pub returns-clause-moves : goal.returns-clause-moves
returns-clause-moves g c =
    let now = c.args.now in
    let ps : List TableEntry = c.self.inside.table in
    let after : List TableEntry = c.tell_due.new.table in
    let are : c.deref.result.now ≡ idle_ids now ps = c.deref.ensures.value ∙ c.tell_due.ensures.idle in
    let over : flat_map (idle_end_in after) c.deref.result.now ≡ all_idle_told now (dialogues_of ps) =
    ap (flat_map (idle_end_in after)) are ∙ over-all now (idle_ids now ps) after ps c.tell_due.ensures.quiet.rest c.tell_due.ensures.ends ∙ ends-all now ps c.self.invariant.from in
    let before = c.args.sink.now.outputs in
    let lapses : c.tell_due.new.sink.outputs ≡ before ++ all_told now (dialogues_of ps) = c.tell_due.ensures.told ∙ ap (λ os. os ++ all_told now (dialogues_of ps)) c.reserve.ensures.same in
    let all : c.end_all.new.sink.outputs ≡ before ++ (all_told now (dialogues_of ps) ++ all_idle_told now (dialogues_of ps)) =
    c.end_all.ensures.told ∙ ap (λ os. os ++ flat_map (idle_end_in after) c.deref.result.now) lapses ∙ ap (λ os. (before ++ all_told now (dialogues_of ps)) ++ os) over
    ∙ append_assoc before (all_told now (dialogues_of ps)) (all_idle_told now (dialogues_of ps)) in
    let told = since-is before c.end_all.new.sink.outputs _ all in
    let left : c.end_all.new.table ≡ left_by now (idle_ids now ps) ps =
    c.end_all.ensures.table ∙ ap (λ l. without_all l after) are ∙ ap (without_all (idle_ids now ps)) (sym c.tell_due.ensures.quiet.rest) ∙ c.tell_due.ensures.left in
    let table : dialogues_of c.end_all.new.table ≡ filter_map (left_at now) (dialogues_of ps) = ap dialogues_of left ∙ left-all now ps c.self.invariant.from in
    let whole : List Dialogue → World = λ ds. record { max_dialogues = c.self.inside.limits.max_dialogues; reject_ms = c.self.inside.limits.reject_ms; idle_ms = c.self.inside.limits.idle_ms; next_dialogue = c.self.inside.next_dialogue; next_number = c.self.inside.next_number; clock = now; dialogues = ds } in (
      ap Answer.outputs told ∙ ap (λ (w : World). (advanced w now).answer) c.self.view_is,
      ap whole table ∙ ap (λ (w : World). (advanced w now).after) c.self.view_is,
    )

pub returns-clause-kept : goal.returns-clause-kept
returns-clause-kept g c =
    let now = c.args.now in
    let ps : List TableEntry = c.self.inside.table in
    let before = c.args.sink.now.outputs in
    keeps before c.end_all.new.sink.outputs (all_told now (dialogues_of ps) ++ flat_map (idle_end_in c.tell_due.new.table) c.deref.result.now)
    (c.end_all.ensures.told ∙ ap (λ os. os ++ flat_map (idle_end_in c.tell_due.new.table) c.deref.result.now) (c.tell_due.ensures.told ∙ ap (λ os. os ++ all_told now (dialogues_of ps)) c.reserve.ensures.same)
    ∙ append_assoc before (all_told now (dialogues_of ps)) (flat_map (idle_end_in c.tell_due.new.table) c.deref.result.now))
