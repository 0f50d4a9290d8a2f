use Rattle.std.proofs.Common.{rules, refl}
use Rattle.tcap_engine.proofs.AskedEngine.{asked-any, sound-any, still-any}
use Rattle.tcap_engine.proofs.engine.Engine.begin_with.Goals as goal
use Rattle.tcap_engine.proofs.StandingLemmas.{stands_after}
use Rattle.tcap_engine.specs.StepForm.{since_answer}
use Rattle.tcap_model.specs.Words.Event.{Event}
use Rattle.tcap_model.specs.Words.InRange.{InRange}
use Rattle.tcap_model.specs.Words.Request.{Request}
use Rattle.tcap_primitives.specs.RequestViews.{begin_view}

pub invariant_of-self : goal.invariant_of-self
invariant_of-self g c =
    let s = c.self.inside in
    sound-any s.limits s.next_dialogue s.next_number s.clock c.args.dialogue s.table (Request.dialogue (begin_view c.args.request.now)) c.self.invariant (since_answer c.args.sink.now.outputs c.send_begin_in.new.sink.outputs) c.send_begin_in.result c.send_begin_in.new.table (λ _. refl) (c.send_begin_in.ensures.answer s.next_number)

pub returns-clause-moves : goal.returns-clause-moves
returns-clause-moves g c =
    let s = c.self.inside in
    rw (← c.self.view_is) (asked-any s.limits s.next_dialogue s.next_number s.clock c.args.dialogue s.table (Request.dialogue (begin_view c.args.request.now)) c.self.invariant (since_answer c.args.sink.now.outputs c.send_begin_in.new.sink.outputs) c.send_begin_in.result c.send_begin_in.new.table (λ _. refl) (c.send_begin_in.ensures.answer s.next_number))

pub returns-clause-err : goal.returns-clause-err
returns-clause-err g c =
    let s = c.self.inside in
    rw (← c.self.view_is) (still-any s.limits s.next_dialogue s.next_number s.clock c.args.dialogue s.table (Request.dialogue (begin_view c.args.request.now)) c.self.invariant (since_answer c.args.sink.now.outputs c.send_begin_in.new.sink.outputs) c.send_begin_in.result c.send_begin_in.new.table (c.send_begin_in.ensures.answer s.next_number))

pub returns-clause-stands : goal.returns-clause-stands
returns-clause-stands g c =
    let event : Event = Event.on_dialogue c.args.dialogue (Request.dialogue (begin_view c.args.request.now)) in
    let within : InRange event = search rules in
    stands_after (since_answer c.args.sink.now.outputs c.send_begin_in.new.sink.outputs) c.send_begin_in.result event _ _ within (returns-clause-moves g c)
