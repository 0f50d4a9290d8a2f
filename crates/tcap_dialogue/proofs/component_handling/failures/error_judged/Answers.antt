use Rattle.std.proofs.Common.{rules}
use Rattle.tcap_primitives.specs.Slices.{Slices}
use Rattle.tcap_component.specs.declared.component.Component.TheVariants as component
use Rattle.tcap_dialogue.proofs.component_handling.failures.error_judged.Goals as goal

pub returns-in-Good : goal.returns-in-Good
returns-in-Good g c = record {
  handled = record {
    slices = Slices.of_component (component.ErrorBack c.args.id c.args.code c.args.parameter);
    is_told = search (rules, c.tell.ensures.told);
    are_parts = search rules;
    is_in_place = λ portion components lies. c.tell.ensures.place portion components (search (rules, lies));
    is_answered = search rules;
    keeps_places = c.tell.ensures.places;
    keeps_octets = search (rules, c.tell.ensures.octets);
  };
}
