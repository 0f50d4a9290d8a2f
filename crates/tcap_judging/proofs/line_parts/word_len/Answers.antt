use Rattle.std.proofs.Common.{rules, tests, ◌∙◌}
use Rattle.std.proofs.lemmas.Iterator.{YieldsList-from_slice}
use Rattle.std.proofs.lemmas.Iterator.Search.{position_from_yields_List}
use Rattle.tcap_judging.proofs.Places.{place_is, place_within}
use Rattle.tcap_judging.specs.LineParts.{is_blank}
use Rattle.tcap_judging.proofs.line_parts.word_len.Goals as goal

pub returns-clause-value : goal.returns-clause-value
returns-clause-value c =
    c.unwrap_or.ensures ∙ place_is is_blank c.args.octets.now c.position-blank.result (position_from_yields_List is_blank _ _ c.position-blank.result c.position-blank.ensures.ran (YieldsList-from_slice _ c.iter.ensures.rest) (λ x b q k. search (rules, tests))) (place_within is_blank c.args.octets.now)
