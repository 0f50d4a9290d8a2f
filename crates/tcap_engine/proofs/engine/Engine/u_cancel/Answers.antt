use Rattle.std.proofs.Common.{rules, ◌≡◌, refl, to_z, of_z}
use Rattle.std.proofs.lemmas.Int.{to_z-of_z}
use Rattle.std.specs.Int.{w8}
use Rattle.tcap_dialogue.specs.RequestForm.{gave_up}
use Rattle.tcap_engine.proofs.AskedEngine.{asked-any, sound-any, still-any}
use Rattle.tcap_engine.proofs.StandingLemmas.{stands_after}
use Rattle.tcap_model.specs.Words.Event.{Event}
use Rattle.tcap_model.specs.Words.InRange.{InRange}
use Rattle.tcap_model.specs.Words.Request.{Request, ComponentRequest}
use Rattle.tcap_engine.proofs.engine.Engine.u_cancel.Goals as goal

pub invariant_of-self : goal.invariant_of-self
invariant_of-self g c =
    let s = c.self.inside in
    let same : to_z w8 (of_z w8 c.args.id) ≡ c.args.id = to_z-of_z w8 c.args.id (search rules) in
    let r : Request = Request.component (ComponentRequest.u_cancel c.args.id) in
    sound-any s.limits s.next_dialogue s.next_number s.clock c.args.dialogue s.table r c.self.invariant gave_up c.cancel_in.result c.cancel_in.new.table (λ _. refl) (rw same at (c.cancel_in.ensures s.clock s.next_number))

pub returns-clause-moves : goal.returns-clause-moves
returns-clause-moves g c =
    let s = c.self.inside in
    let same : to_z w8 (of_z w8 c.args.id) ≡ c.args.id = to_z-of_z w8 c.args.id (search rules) in
    let r : Request = Request.component (ComponentRequest.u_cancel c.args.id) in
    rw (← c.self.view_is) (asked-any s.limits s.next_dialogue s.next_number s.clock c.args.dialogue s.table r c.self.invariant gave_up c.cancel_in.result c.cancel_in.new.table (λ _. refl) (rw same at (c.cancel_in.ensures s.clock s.next_number)))

pub returns-clause-err : goal.returns-clause-err
returns-clause-err g c =
    let s = c.self.inside in
    let same : to_z w8 (of_z w8 c.args.id) ≡ c.args.id = to_z-of_z w8 c.args.id (search rules) in
    let r : Request = Request.component (ComponentRequest.u_cancel c.args.id) in
    rw (← c.self.view_is) (still-any s.limits s.next_dialogue s.next_number s.clock c.args.dialogue s.table r c.self.invariant gave_up c.cancel_in.result c.cancel_in.new.table (rw same at (c.cancel_in.ensures s.clock s.next_number)))

pub returns-clause-stands : goal.returns-clause-stands
returns-clause-stands g c =
    let event : Event = Event.on_dialogue c.args.dialogue (Request.component (ComponentRequest.u_cancel c.args.id)) in
    let within : InRange event = search rules in
    stands_after gave_up c.cancel_in.result event _ _ within (returns-clause-moves g c)
