use Rattle.std.proofs.Common.{sym, length, ◌<◌}
use Rattle.tcap_dialogue.specs.StepViews.{at_clock}
use Rattle.tcap_engine.proofs.BeginLemmas.{kept_born}
use Rattle.tcap_engine.proofs.BirthLemmas.{room-to-be-born, sound-push}
use Rattle.tcap_engine.specs.Creation.{created_by}
use Rattle.tcap_engine.specs.DialogueEntries.{dialogues_of}
use Rattle.tcap_model.specs.Table.TableMove.{Moved}
use Rattle.tcap_reception.specs.PortionParts.{context_of_portion, info_of_portion}
use Rattle.tcap_engine.proofs.engine.Engine.accept_begin.Goals as goal

pub invariant_of-self-2 : goal.invariant_of-self-2
invariant_of-self-2 g c =
    let s = c.self.inside in
    let m : Moved = created_by s.clock s.next_dialogue s.limits c.args.from.now c.args.origin.now c.args.request c.args.components.now in
    let kept = kept_born (at_clock s.clock) s.next_dialogue s.limits.reject_ms s.limits.idle_ms s.next_number c.args.from.now c.args.origin.now (context_of_portion c.args.request) (info_of_portion c.args.request) c.args.components.now in
    let free : length (dialogues_of s.table) < s.limits.max_dialogues = rw (sym c.self.view_is) at (room-to-be-born c.args.self.now c.requires.free) in
    rw (c.in_ok-begin_in.ensures.table, c.next_identifier-self-inside.ensures)
    (sound-push s.limits s.next_dialogue s.next_number s.clock s.table m.after c.self.invariant kept.0 kept.1 free)
