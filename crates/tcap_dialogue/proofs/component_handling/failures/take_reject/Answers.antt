use Rattle.std.proofs.Common.{rules}
use Rattle.tcap_dialogue.proofs.component_handling.failures.take_reject.Goals as goal

pub returns-clause-handled : goal.returns-clause-handled
returns-clause-handled g c =
    let h = c.reject_judged.ensures.handled in
    record {
      slices = h.slices;
      is_told = search (rules, h.is_told);
      are_parts = h.are_parts;
      is_in_place = h.is_in_place;
      is_answered = search (rules, h.is_answered);
      keeps_places = h.keeps_places;
      keeps_octets = h.keeps_octets;
    }
