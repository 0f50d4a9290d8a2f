use Rattle.std.proofs.Common.{◌≡◌, ◌∙◌, cond, false, rules, sym, tests, ap, None}
use Rattle.std.proofs.lemmas.Iterator.{YieldsList-from_slice}
use Rattle.std.proofs.lemmas.Iterator.Search.{any_from_yields_List}
use Rattle.std.specs.List.{list_any}
use Rattle.tcap_judging.specs.Names.{is_unkeyed, name_word}
use Rattle.tcap_judging.proofs.name_line.key_text.Goals as goal

pub returns-else-any : goal.returns-else-any
returns-else-any c =
    let none : list_any is_unkeyed c.args.word.now ≡ false = sym (any_from_yields_List is_unkeyed _ _ c.any.result c.any.ensures.ran (YieldsList-from_slice _ c.iter.ensures.rest) (λ x b q k. search (rules, tests))) ∙ c.if-any.false in
    c.word_text.ensures ∙ sym (ap (λ b. cond b None (name_word c.args.word.now)) none)
