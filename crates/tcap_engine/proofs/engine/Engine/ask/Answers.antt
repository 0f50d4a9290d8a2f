use Rattle.std.proofs.Common.{rules, arith, Fits, w64, ◌≡◌, Err, ◌≤◌}
use Rattle.tcap_primitives.specs.RequestViews.{request_view}
use Rattle.tcap_dialogue.specs.StepViews.{asked}
use Rattle.tcap_model.specs.Words.Identifiers.{last_number}
use Rattle.tcap_engine.proofs.NumberLemmas.{any-left}
use Rattle.tcap_engine.proofs.AskedEngine.{found-fit, asked-ok, asked-err, sound-ok, sound-err, left-ok}
use Rattle.tcap_engine.proofs.RefusedEngine.{table-still}
use Rattle.tcap_engine.specs.RequestInTable.{accepted_answer}
use Rattle.tcap_primitives.specs.SinkViews.{told_since}
use Rattle.tcap_engine.proofs.engine.Engine.ask.Goals as goal

pub ask_in-requires-clause-within : goal.ask_in-requires-clause-within
ask_in-requires-clause-within g c = found-fit c.args.dialogue c.self.inside.limits.reject_ms c.self.inside.next_number c.self.inside.table c.self.invariant.within

pub invariant_of-self : goal.invariant_of-self
invariant_of-self g c =
    let s = c.self.inside in
    sound-err s.limits s.next_dialogue s.next_number s.clock c.args.dialogue s.table (request_view c.args.request.now) c.self.invariant _ (accepted_answer (told_since c.args.sink.now.outputs c.ask_in.new.sink.outputs)) c.in_err-accepted.field-0.0 c.ask_in.new.table c.in_err-accepted.ensures.answer

pub returns-in_err-accepted-clause-moves : goal.returns-in_err-accepted-clause-moves
returns-in_err-accepted-clause-moves g c =
    let s = c.self.inside in
    let is : c.from_residual.result ≡ Err c.in_err-accepted.field-0.0 = search rules in
    rw (is, ← c.self.view_is)
    (asked-err s.limits s.next_dialogue s.next_number s.clock c.args.dialogue s.table (request_view c.args.request.now) c.self.invariant _ (accepted_answer (told_since c.args.sink.now.outputs c.ask_in.new.sink.outputs)) c.in_err-accepted.field-0.0 c.ask_in.new.table c.in_err-accepted.ensures.answer)

pub next_number-next-requires : goal.next_number-next-requires
next_number-next-requires g c =
    let s = c.self.inside in
    let fits : Fits w64 s.next_number = search rules in
    let le : s.next_number ≤ last_number = omega (arith, fits) in
    any-left c.in_ok-accepted.accepted s.next_number _ (left-ok s.limits s.next_dialogue s.next_number s.clock c.args.dialogue s.table (request_view c.args.request.now) c.self.invariant (accepted_answer (told_since c.args.sink.now.outputs c.ask_in.new.sink.outputs)) c.in_ok-accepted.accepted c.ask_in.new.table le c.in_ok-accepted.ensures.answer)

pub invariant_of-self-2 : goal.invariant_of-self-2
invariant_of-self-2 g c =
    let s = c.self.inside in
    rw (c.next_number-next.ensures (told_since c.args.sink.now.outputs c.ask_in.new.sink.outputs))
    (sound-ok s.limits s.next_dialogue s.next_number s.clock c.args.dialogue s.table (request_view c.args.request.now) c.self.invariant (accepted_answer (told_since c.args.sink.now.outputs c.ask_in.new.sink.outputs)) c.in_ok-accepted.accepted c.ask_in.new.table c.in_ok-accepted.ensures.answer)

pub returns-clause-moves : goal.returns-clause-moves
returns-clause-moves g c =
    let s = c.self.inside in
    rw (c.next_number-next.ensures (told_since c.args.sink.now.outputs c.ask_in.new.sink.outputs), ← c.self.view_is)
    (asked-ok s.limits s.next_dialogue s.next_number s.clock c.args.dialogue s.table (request_view c.args.request.now) c.self.invariant (accepted_answer (told_since c.args.sink.now.outputs c.ask_in.new.sink.outputs)) c.in_ok-accepted.accepted c.ask_in.new.table c.in_ok-accepted.ensures.answer)

pub returns-in_err-accepted-clause-err : goal.returns-in_err-accepted-clause-err
returns-in_err-accepted-clause-err g c =
    let s = c.self.inside in
    let is : c.from_residual.result ≡ Err c.in_err-accepted.field-0.0 = search rules in
    let same : c.ask_in.new.table ≡ s.table = table-still (asked s.clock s.next_number) (request_view c.args.request.now) c.args.dialogue s.table c.ask_in.new.table _ (accepted_answer (told_since c.args.sink.now.outputs c.ask_in.new.sink.outputs)) c.in_err-accepted.field-0.0 c.in_err-accepted.ensures.answer in
    rw (is, same) c.self.view_is
