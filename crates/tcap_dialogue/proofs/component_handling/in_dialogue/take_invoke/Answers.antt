use Rattle.std.proofs.Common.{rules}
use Rattle.tcap_primitives.specs.Slices.{Slices}
use Rattle.tcap_component.specs.declared.component.Component.TheVariants as component
use Rattle.tcap_dialogue.proofs.component_handling.in_dialogue.take_invoke.Goals as goal

pub returns : goal.returns
returns g c = record {
  handled = record {
    slices = Slices.of_component (component.Invoke c.args.id c.args.linked c.args.code c.args.parameter);
    is_told = search (rules, c.tell_invoked.ensures.told);
    are_parts = search rules;
    is_in_place = λ portion components lies. c.tell_invoked.ensures.place portion components (search (rules, lies));
    is_answered = search rules;
    keeps_places = c.tell_invoked.ensures.places;
    keeps_octets = search (rules, c.tell_invoked.ensures.octets);
  };
}
