use Rattle.std.proofs.Common.{◌++◌}
use Rattle.tcap_dialogue.specs.StepViews.{at_clock}
use Rattle.tcap_engine.proofs.ReachedEngine.{delivers-sending, fault-alike, kept-fault, live-is, sound-taken}
use Rattle.tcap_engine.proofs.engine.Engine.end_by_fault.Goals as goal
use Rattle.tcap_engine.specs.DialogueEntries.{dialogues_of}
use Rattle.tcap_model.specs.Procedures.AbortRules.{fault_cause, sent_if_any}
use Rattle.tcap_model.specs.Procedures.Reception.{fault_abort}
use Rattle.tcap_model.specs.Table.EngineMove.{is_live_in}
use Rattle.tcap_model.specs.Table.TableMove.{DialogueEvent, table_move}
use Rattle.tcap_primitives.specs.SinkViews.{told_since}

pub invariant_of-self : goal.invariant_of-self
invariant_of-self g c =
    let s = c.self.inside in
    let cause = fault_cause c.args.fault in
    sound-taken s.limits s.next_dialogue s.next_number s.clock c.args.identifier s.table c.self.invariant (DialogueEvent.fault cause)
    (λ x. table_move (at_clock 0) x (DialogueEvent.fault cause)) (λ x. fault-alike s.clock s.next_number x cause) (λ x h. kept-fault s.limits.reject_ms s.next_number x cause h)
    (λ _. told_since (c.args.sink.now.outputs ++ sent_if_any c.args.from.now (fault_abort c.args.fault c.args.origin.now)) c.end_in.new.sink.outputs) _ c.end_in.result c.end_in.new.table c.end_in.ensures.reached

pub returns : goal.returns
returns g c =
    let s = c.self.inside in
    let cause = fault_cause c.args.fault in
    rw (← c.self.view_is)
    (delivers-sending s.limits s.next_dialogue s.next_number s.clock c.args.identifier s.table c.self.invariant (DialogueEvent.fault cause)
    (λ x. table_move (at_clock 0) x (DialogueEvent.fault cause)) (λ x. fault-alike s.clock s.next_number x cause) (λ x h. kept-fault s.limits.reject_ms s.next_number x cause h)
    c.args.sink.now.outputs c.end_in.new.sink.outputs (sent_if_any c.args.from.now (fault_abort c.args.fault c.args.origin.now)) (is_live_in (dialogues_of s.table) c.args.identifier) c.end_in.result c.end_in.new.table
    (rw (live-is c.args.identifier s.table c.self.invariant.from) at c.end_in.ensures.reached) c.end_in.ensures.kept c.end_in.ensures.still)
