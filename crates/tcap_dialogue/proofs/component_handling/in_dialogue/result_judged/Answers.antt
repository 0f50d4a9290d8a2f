use Rattle.std.proofs.Common.{rules}
use Rattle.tcap_primitives.specs.Slices.{Slices}
use Rattle.tcap_component.specs.declared.component.Component.TheVariants as component
use Rattle.tcap_dialogue.proofs.component_handling.in_dialogue.result_judged.Goals as goal

pub returns-then-last : goal.returns-then-last
returns-then-last g c = record {
  handled = record {
    slices = Slices.of_component (component.ResultLast c.args.id c.args.body);
    is_told = search (rules, c.tell_result_last.ensures.told);
    are_parts = search rules;
    is_in_place = λ portion components lies. c.tell_result_last.ensures.place portion components (search (rules, lies));
    is_answered = search rules;
    keeps_places = c.tell_result_last.ensures.places;
    keeps_octets = search (rules, c.tell_result_last.ensures.octets);
  };
}

pub returns-else-last : goal.returns-else-last
returns-else-last g c = record {
  handled = record {
    slices = Slices.of_component (component.ResultMore c.args.id c.args.body);
    is_told = search (rules, c.tell_result_more.ensures.told);
    are_parts = search rules;
    is_in_place = λ portion components lies. c.tell_result_more.ensures.place portion components (search (rules, lies));
    is_answered = search rules;
    keeps_places = c.tell_result_more.ensures.places;
    keeps_octets = search (rules, c.tell_result_more.ensures.octets);
  };
}
