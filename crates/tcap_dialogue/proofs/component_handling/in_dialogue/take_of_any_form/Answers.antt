use Rattle.std.proofs.Common.{rules, ◌≡◌, ◌<◌, Ok, Err, arith, length, refl, w8}
use Rattle.std.proofs.lemmas.Int.{to_z-of_z}
use Rattle.tcap_component.proofs.CallerLemmas.{components_of-fault}
use Rattle.tcap_component.specs.ComponentReading.{component_at, components_by}
use Rattle.tcap_component.specs.declared.component.Component.TheVariants as component
use Rattle.tcap_component.specs.Views.{component_parts, fault_parts}
use Rattle.tcap_dialogue.proofs.FirstTaken.{first-taken, room-for}
use Rattle.tcap_dialogue.proofs.component_handling.in_dialogue.take_of_any_form.Goals as goal

pub take_invoke-requires-clause-octets : goal.take_invoke-requires-clause-octets
take_invoke-requires-clause-octets g c =
    let r = c.in-Ok-Invoke-default in
    let read : component_at c.args.left.now.octets.now ≡ Ok (component_parts (component.Invoke r.id r.linked r.code r.parameter), r.rest.now) = rw r.field-0-0-is at r.ensures.exact in
    room-for c.args.left.now.octets r.rest (component.Invoke r.id r.linked r.code r.parameter) read c.args.sink.now.octets c.requires.octets

pub returns-in-Ok-Invoke-default : goal.returns-in-Ok-Invoke-default
returns-in-Ok-Invoke-default g c =
    let r = c.in-Ok-Invoke-default in
    let read : component_at c.args.left.now.octets.now ≡ Ok (component_parts (component.Invoke r.id r.linked r.code r.parameter), r.rest.now) = rw r.field-0-0-is at r.ensures.exact in
    let place = rw r.field-0-0-is at r.ensures.place in
    let range = rw r.field-0-0-is at r.ensures.writable in
    let id = to_z-of_z w8 r.id range.1.0 in
    first-taken c.args.left.now.octets r.rest (component.Invoke r.id r.linked r.code r.parameter) read c.args.dialogue c.args.clock _ _ _ _ _ place.0 place.1 (rw id at c.take_invoke.ensures.handled) refl

pub take_result-requires-clause-octets : goal.take_result-requires-clause-octets
take_result-requires-clause-octets g c =
    let r = c.in-Ok-ResultLast-default in
    let read : component_at c.args.left.now.octets.now ≡ Ok (component_parts (component.ResultLast r.id r.body), r.rest.now) = rw r.field-0-0-is at r.ensures.exact in
    room-for c.args.left.now.octets r.rest (component.ResultLast r.id r.body) read c.args.sink.now.octets c.requires.octets

pub returns-in-Ok-ResultLast-default : goal.returns-in-Ok-ResultLast-default
returns-in-Ok-ResultLast-default g c =
    let r = c.in-Ok-ResultLast-default in
    let read : component_at c.args.left.now.octets.now ≡ Ok (component_parts (component.ResultLast r.id r.body), r.rest.now) = rw r.field-0-0-is at r.ensures.exact in
    let place = rw r.field-0-0-is at r.ensures.place in
    let range = rw r.field-0-0-is at r.ensures.writable in
    let id = to_z-of_z w8 r.id range.1.0 in
    first-taken c.args.left.now.octets r.rest (component.ResultLast r.id r.body) read c.args.dialogue c.args.clock _ _ _ _ _ place.0 place.1 (rw id at c.take_result.ensures.handled) (rw id at c.take_result.ensures.list)

pub take_result-requires-in-Ok-ResultMore-default-clause-octets : goal.take_result-requires-in-Ok-ResultMore-default-clause-octets
take_result-requires-in-Ok-ResultMore-default-clause-octets g c =
    let r = c.in-Ok-ResultMore-default in
    let read : component_at c.args.left.now.octets.now ≡ Ok (component_parts (component.ResultMore r.id r.body), r.rest.now) = rw r.field-0-0-is at r.ensures.exact in
    room-for c.args.left.now.octets r.rest (component.ResultMore r.id r.body) read c.args.sink.now.octets c.requires.octets

pub returns-in-Ok-ResultMore-default : goal.returns-in-Ok-ResultMore-default
returns-in-Ok-ResultMore-default g c =
    let r = c.in-Ok-ResultMore-default in
    let read : component_at c.args.left.now.octets.now ≡ Ok (component_parts (component.ResultMore r.id r.body), r.rest.now) = rw r.field-0-0-is at r.ensures.exact in
    let place = rw r.field-0-0-is at r.ensures.place in
    let range = rw r.field-0-0-is at r.ensures.writable in
    let id = to_z-of_z w8 r.id range.1.0 in
    first-taken c.args.left.now.octets r.rest (component.ResultMore r.id r.body) read c.args.dialogue c.args.clock _ _ _ _ _ place.0 place.1 (rw id at c.take_result-in-Ok-ResultMore-default.ensures.handled) (rw id at c.take_result-in-Ok-ResultMore-default.ensures.list)

pub take_error-requires-clause-octets : goal.take_error-requires-clause-octets
take_error-requires-clause-octets g c =
    let r = c.in-Ok-ErrorBack-default in
    let read : component_at c.args.left.now.octets.now ≡ Ok (component_parts (component.ErrorBack r.id r.code r.parameter), r.rest.now) = rw r.field-0-0-is at r.ensures.exact in
    room-for c.args.left.now.octets r.rest (component.ErrorBack r.id r.code r.parameter) read c.args.sink.now.octets c.requires.octets

pub returns-in-Ok-ErrorBack-default : goal.returns-in-Ok-ErrorBack-default
returns-in-Ok-ErrorBack-default g c =
    let r = c.in-Ok-ErrorBack-default in
    let read : component_at c.args.left.now.octets.now ≡ Ok (component_parts (component.ErrorBack r.id r.code r.parameter), r.rest.now) = rw r.field-0-0-is at r.ensures.exact in
    let place = rw r.field-0-0-is at r.ensures.place in
    let range = rw r.field-0-0-is at r.ensures.writable in
    let id = to_z-of_z w8 r.id range.1.0 in
    first-taken c.args.left.now.octets r.rest (component.ErrorBack r.id r.code r.parameter) read c.args.dialogue c.args.clock _ _ _ _ _ place.0 place.1 (rw id at c.take_error.ensures.handled) (rw id at c.take_error.ensures.list)

pub returns-in-Ok-RejectBack-default : goal.returns-in-Ok-RejectBack-default
returns-in-Ok-RejectBack-default g c =
    let r = c.in-Ok-RejectBack-default in
    let read : component_at c.args.left.now.octets.now ≡ Ok (component_parts (component.RejectBack r.id r.problem), r.rest.now) = rw r.field-0-0-is at r.ensures.exact in
    let place = rw r.field-0-0-is at r.ensures.place in
    let h = c.take_reject_back.ensures.handled in
    first-taken c.args.left.now.octets r.rest (component.RejectBack r.id r.problem) read c.args.dialogue c.args.clock _ _ _ _ _ place.0 place.1 (record {
      slices = h.slices;
      is_told = h.is_told;
      are_parts = rw h.are_parts tt;
      is_in_place = h.is_in_place;
      is_answered = h.is_answered;
      keeps_places = h.keeps_places;
      keeps_octets = h.keeps_octets;
    }) c.take_reject_back.ensures.list

pub returns-in-Err : goal.returns-in-Err
unfolding components_by
returns-in-Err g c =
    let octets = c.args.left.now.octets.now in
    let some : 0 < length octets = c.requires.left in
    let read : component_at octets ≡ Err (fault_parts c.in-Err.fault) = search (rules, c.in-Err.ensures.exact) in
    record {
      item = Err c.in-Err.fault;
      is_first = search (rules, components_of-fault octets (fault_parts c.in-Err.fault) some read);
      is_in_place = tt;
      ends = search rules;
      is_handled = c.take_unreadable.ensures.handled;
      is_after = search rules;
      within = search (rules, arith);
    }
