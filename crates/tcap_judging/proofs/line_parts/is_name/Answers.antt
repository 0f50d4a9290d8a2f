use Rattle.std.proofs.Common.{◌≡◌, rules, tests}
use Rattle.std.proofs.lemmas.Iterator.{YieldsList-from_slice}
use Rattle.std.proofs.lemmas.Iterator.Search.{any_from_yields_List}
use Rattle.std.specs.List.{list_any}
use Rattle.tcap_judging.specs.LineParts.{is_in_name}
use Rattle.tcap_judging.proofs.line_parts.is_name.Goals as goal

pub returns-in-Marked : goal.returns-in-Marked
returns-in-Marked c =
    let any : c.any.result ≡ list_any is_in_name c.args.word.now = any_from_yields_List is_in_name _ _ c.any.result c.any.ensures.ran (YieldsList-from_slice _ c.iter.ensures.rest) (λ x b q k. search (rules, tests)) in
    search (rules, any)
