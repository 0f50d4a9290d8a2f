use Rattle.tcap_dialogue.specs.StepViews.{at_clock}
use Rattle.tcap_engine.proofs.ReachedEngine.{delivers-told, framed-alike, kept-frame, live-is, sound-taken}
use Rattle.tcap_engine.proofs.engine.Engine.deliver_to.Goals as goal
use Rattle.tcap_engine.specs.DialogueEntries.{dialogues_of}
use Rattle.tcap_model.specs.Table.EngineMove.{is_live_in}
use Rattle.tcap_model.specs.Table.TableMove.{DialogueEvent, table_move}
use Rattle.tcap_pdu.specs.FrameViews.{message}
use Rattle.tcap_primitives.specs.SinkViews.{told_since}

pub invariant_of-self : goal.invariant_of-self
invariant_of-self g c =
    let s = c.self.inside in
    let m = message c.args.frame.now in
    sound-taken s.limits s.next_dialogue s.next_number s.clock c.args.identifier s.table c.self.invariant (DialogueEvent.frame c.args.from.now m)
    (λ x. table_move (at_clock s.clock) x (DialogueEvent.frame c.args.from.now m)) (λ x. framed-alike s.clock s.next_number x c.args.from.now m) (λ x h. kept-frame s.limits.reject_ms s.next_number s.clock x c.args.from.now m h)
    (λ _. told_since c.args.sink.now.outputs c.deliver_in.new.sink.outputs) _ c.deliver_in.result c.deliver_in.new.table c.deliver_in.ensures.reached

pub returns : goal.returns
returns g c =
    let s = c.self.inside in
    let m = message c.args.frame.now in
    rw (← c.self.view_is)
    (delivers-told s.limits s.next_dialogue s.next_number s.clock c.args.identifier s.table c.self.invariant (DialogueEvent.frame c.args.from.now m)
    (λ x. table_move (at_clock s.clock) x (DialogueEvent.frame c.args.from.now m)) (λ x. framed-alike s.clock s.next_number x c.args.from.now m) (λ x h. kept-frame s.limits.reject_ms s.next_number s.clock x c.args.from.now m h)
    c.args.sink.now.outputs c.deliver_in.new.sink.outputs (is_live_in (dialogues_of s.table) c.args.identifier) c.deliver_in.result c.deliver_in.new.table
    (rw (live-is c.args.identifier s.table c.self.invariant.from) at c.deliver_in.ensures.reached) c.deliver_in.ensures.kept c.deliver_in.ensures.still)
