use Rattle.std.proofs.Common.{rules, tests, ◌∙◌}
use Rattle.std.proofs.lemmas.Iterator.{YieldsList-from_slice}
use Rattle.std.proofs.lemmas.Iterator.Search.{position_from_yields_List}
use Rattle.tcap_judging.proofs.Places.{place_is, place_within}
use Rattle.tcap_judging.specs.LineParts.{is_foreign}
use Rattle.tcap_judging.proofs.line_parts.hex_len.Goals as goal

pub returns-clause-value : goal.returns-clause-value
returns-clause-value c =
    c.unwrap_or.ensures ∙ place_is is_foreign c.args.octets.now c.position-foreign.result (position_from_yields_List is_foreign _ _ c.position-foreign.result c.position-foreign.ensures.ran (YieldsList-from_slice _ c.iter.ensures.rest) (λ x b q k. search (rules, tests))) (place_within is_foreign c.args.octets.now)
