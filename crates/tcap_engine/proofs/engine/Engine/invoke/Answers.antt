use Rattle.std.proofs.Common.{rules, arith, Fits, w64, ◌≡◌, ◌≤◌, Ok, Err, option_copied, to_z, of_z}
use Rattle.std.proofs.lemmas.Int.{to_z-of_z}
use Rattle.std.specs.Int.{w8}
use Rattle.tcap_component.specs.Views.{code_parts}
use Rattle.tcap_dialogue.specs.RequestForm.{numbered}
use Rattle.tcap_dialogue.specs.StepViews.{asked}
use Rattle.tcap_engine.proofs.AskedEngine.{found-fit, asked-ok, asked-err, sound-ok, sound-err, left-ok}
use Rattle.tcap_engine.proofs.RefusedEngine.{table-still}
use Rattle.tcap_engine.proofs.StandingLemmas.{stands_after}
use Rattle.tcap_model.specs.Words.Event.{Event}
use Rattle.tcap_model.specs.Words.Identifiers.{last_number}
use Rattle.tcap_model.specs.Words.InRange.{InRange}
use Rattle.tcap_model.specs.Words.Request.{Request, ComponentRequest}
use Rattle.tcap_engine.proofs.engine.Engine.invoke.Goals as goal

pub invoke_in-requires-clause-within : goal.invoke_in-requires-clause-within
invoke_in-requires-clause-within g c = found-fit c.args.dialogue c.self.inside.limits.reject_ms c.self.inside.next_number c.self.inside.table c.self.invariant.within

pub invariant_of-self : goal.invariant_of-self
invariant_of-self g c =
    let s = c.self.inside in
    let same : to_z w8 (of_z w8 c.args.id) ≡ c.args.id = to_z-of_z w8 c.args.id (search rules) in
    let r : Request = Request.component (ComponentRequest.invoke c.args.id c.args.class (code_parts c.args.code) (option_copied c.args.parameter) c.args.linked c.args.timeout_ms) in
    sound-err s.limits s.next_dialogue s.next_number s.clock c.args.dialogue s.table r c.self.invariant _ numbered c.in_err-number.field-0.0 c.invoke_in.new.table (rw same at (c.in_err-number.ensures s.clock))

pub returns-in_err-number-clause-moves : goal.returns-in_err-number-clause-moves
returns-in_err-number-clause-moves g c =
    let s = c.self.inside in
    let same : to_z w8 (of_z w8 c.args.id) ≡ c.args.id = to_z-of_z w8 c.args.id (search rules) in
    let r : Request = Request.component (ComponentRequest.invoke c.args.id c.args.class (code_parts c.args.code) (option_copied c.args.parameter) c.args.linked c.args.timeout_ms) in
    let is : c.from_residual.result ≡ Err c.in_err-number.field-0.0 = search rules in
    rw (is, ← c.self.view_is)
    (asked-err s.limits s.next_dialogue s.next_number s.clock c.args.dialogue s.table r c.self.invariant _ numbered c.in_err-number.field-0.0 c.invoke_in.new.table (rw same at (c.in_err-number.ensures s.clock)))

pub overflow_add-self : goal.overflow_add-self
overflow_add-self g c =
    let s = c.self.inside in
    let same : to_z w8 (of_z w8 c.args.id) ≡ c.args.id = to_z-of_z w8 c.args.id (search rules) in
    let r : Request = Request.component (ComponentRequest.invoke c.args.id c.args.class (code_parts c.args.code) (option_copied c.args.parameter) c.args.linked c.args.timeout_ms) in
    let fits : Fits w64 s.next_number = search rules in
    let le : s.next_number ≤ last_number = omega (arith, fits) in
    let left = left-ok s.limits s.next_dialogue s.next_number s.clock c.args.dialogue s.table r c.self.invariant numbered c.in_ok-number.number c.invoke_in.new.table le (rw same at (c.in_ok-number.ensures s.clock)) in
    search (rules, arith, left)

pub invariant_of-self-2 : goal.invariant_of-self-2
invariant_of-self-2 g c =
    let s = c.self.inside in
    let same : to_z w8 (of_z w8 c.args.id) ≡ c.args.id = to_z-of_z w8 c.args.id (search rules) in
    let r : Request = Request.component (ComponentRequest.invoke c.args.id c.args.class (code_parts c.args.code) (option_copied c.args.parameter) c.args.linked c.args.timeout_ms) in
    sound-ok s.limits s.next_dialogue s.next_number s.clock c.args.dialogue s.table r c.self.invariant numbered c.in_ok-number.number c.invoke_in.new.table (rw same at (c.in_ok-number.ensures s.clock))

pub returns-clause-moves : goal.returns-clause-moves
returns-clause-moves g c =
    let s = c.self.inside in
    let same : to_z w8 (of_z w8 c.args.id) ≡ c.args.id = to_z-of_z w8 c.args.id (search rules) in
    let r : Request = Request.component (ComponentRequest.invoke c.args.id c.args.class (code_parts c.args.code) (option_copied c.args.parameter) c.args.linked c.args.timeout_ms) in
    rw (← c.self.view_is)
    (asked-ok s.limits s.next_dialogue s.next_number s.clock c.args.dialogue s.table r c.self.invariant numbered c.in_ok-number.number c.invoke_in.new.table (rw same at (c.in_ok-number.ensures s.clock)))

pub returns-in_err-number-clause-err : goal.returns-in_err-number-clause-err
returns-in_err-number-clause-err g c =
    let s = c.self.inside in
    let same : to_z w8 (of_z w8 c.args.id) ≡ c.args.id = to_z-of_z w8 c.args.id (search rules) in
    let r : Request = Request.component (ComponentRequest.invoke c.args.id c.args.class (code_parts c.args.code) (option_copied c.args.parameter) c.args.linked c.args.timeout_ms) in
    let is : c.from_residual.result ≡ Err c.in_err-number.field-0.0 = search rules in
    let same : c.invoke_in.new.table ≡ s.table = table-still (asked s.clock s.next_number) r c.args.dialogue s.table c.invoke_in.new.table _ numbered c.in_err-number.field-0.0 (rw same at (c.in_err-number.ensures s.clock)) in
    rw (is, same) c.self.view_is

pub returns-in_err-number-clause-stands : goal.returns-in_err-number-clause-stands
returns-in_err-number-clause-stands g c =
    let event : Event = Event.on_dialogue c.args.dialogue (Request.component (ComponentRequest.invoke c.args.id c.args.class (code_parts c.args.code) (option_copied c.args.parameter) c.args.linked c.args.timeout_ms)) in
    let within : InRange event = search rules in
    stands_after numbered _ event _ _ within (returns-in_err-number-clause-moves g c)

pub returns-clause-stands : goal.returns-clause-stands
returns-clause-stands g c =
    let event : Event = Event.on_dialogue c.args.dialogue (Request.component (ComponentRequest.invoke c.args.id c.args.class (code_parts c.args.code) (option_copied c.args.parameter) c.args.linked c.args.timeout_ms)) in
    let within : InRange event = search rules in
    stands_after numbered (Ok c.in_ok-number.number) event _ _ within (returns-clause-moves g c)
