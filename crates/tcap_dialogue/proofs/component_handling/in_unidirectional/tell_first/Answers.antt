use Rattle.std.proofs.Common.{rules, ◌≡◌, ◌<◌, Ok, Err, arith, length}
use Rattle.tcap_component.proofs.CallerLemmas.{components_of-next, components_of-fault}
use Rattle.tcap_component.specs.ComponentReading.{component_at, components_by}
use Rattle.tcap_component.specs.Views.{component_parts, fault_parts}
use Rattle.tcap_dialogue.proofs.SliceOctets.{octets-within}
use Rattle.tcap_dialogue.proofs.component_handling.in_unidirectional.tell_first.Goals as goal

pub tell-requires-clause-octets : goal.tell-requires-clause-octets
tell-requires-clause-octets g c =
    let octets = c.args.left.now.octets.now in
    let read : component_at octets ≡ Ok (component_parts c.in-Ok.component, c.in-Ok.rest.now) = search (rules, c.in-Ok.ensures.exact) in
    let within = octets-within octets c.in-Ok.rest.now c.in-Ok.component read in
    omega (arith, within, c.unidirectional_component.ensures.octets, c.requires.octets)

pub returns-in-Ok : goal.returns-in-Ok
returns-in-Ok g c =
    let octets = c.args.left.now.octets.now in
    let read : component_at octets ≡ Ok (component_parts c.in-Ok.component, c.in-Ok.rest.now) = search (rules, c.in-Ok.ensures.exact) in
    record {
      item = Ok c.in-Ok.component;
      is_first = components_of-next octets c.in-Ok.rest.now (component_parts c.in-Ok.component) read;
      lies_in_place = c.in-Ok.ensures.place.0;
      ends = c.in-Ok.ensures.place.1;
      slices = _;
      is_told = search rules;
      are_parts = c.unidirectional_component.ensures.slices;
      is_in_place = c.tell.ensures.place;
      keeps_places = c.tell.ensures.places;
      keeps_octets = omega (arith, c.tell.ensures.octets, c.unidirectional_component.ensures.octets);
      within = octets-within octets c.in-Ok.rest.now c.in-Ok.component read;
    }

pub returns-in-Err : goal.returns-in-Err
unfolding components_by
returns-in-Err g c =
    let octets = c.args.left.now.octets.now in
    let some : 0 < length octets = c.requires.left in
    let read : component_at octets ≡ Err (fault_parts c.in-Err.fault) = search (rules, c.in-Err.ensures.exact) in
    record {
      item = Err c.in-Err.fault;
      is_first = search (rules, components_of-fault octets (fault_parts c.in-Err.fault) some read);
      lies_in_place = tt;
      ends = search rules;
      slices = _;
      is_told = search rules;
      are_parts = c.rejected.ensures.slices;
      is_in_place = c.tell-in-Err.ensures.place;
      keeps_places = c.tell-in-Err.ensures.places;
      keeps_octets = omega (arith, c.tell-in-Err.ensures.octets, c.rejected.ensures.octets);
      within = search (rules, arith);
    }
