use Rattle.std.proofs.Common.{◌≡◌, ◌∙◌, false, rules, tests, sym}
use Rattle.std.proofs.lemmas.Iterator.{YieldsList-from_slice}
use Rattle.std.proofs.lemmas.Iterator.Search.{any_from_yields_List}
use Rattle.hex.specs.Hex.{is_hex_digit}
use Rattle.std.specs.List.{list_any}
use Rattle.tcap_judging.proofs.line_parts.hex_parts.Goals as goal

pub returns-else-any : goal.returns-else-any
returns-else-any c =
    let none : list_any is_hex_digit c.args.rest.now ≡ false = sym (any_from_yields_List is_hex_digit _ _ c.any.result c.any.ensures.ran (YieldsList-from_slice _ c.iter.ensures.rest) (λ x b q k. search (rules, tests))) ∙ c.if-any.false in
    search (rules, none, c.if-place-rest.false, c.hex_len-place.ensures.value)
