use Rattle.std.proofs.Common.{sym, ◌∙◌}
use Rattle.tcap_component.specs.Views.{component_parts}
use Rattle.tcap_component.proofs.WrittenGrammar.{has_code-takes, due_code, due_parameter, due_length, can_write}
use Rattle.tcap_component.proofs.component.length.checked_len.Goals as goal

pub returns-then-not-has_good_code-clause-err : goal.returns-then-not-has_good_code-clause-err
returns-then-not-has_good_code-clause-err c = due_code _ (sym c.has_good_code.ensures ∙ c.if-not-has_good_code.true)

pub returns-then-not-has_good_parameter-clause-err : goal.returns-then-not-has_good_parameter-clause-err
returns-then-not-has_good_parameter-clause-err c = due_parameter _ (sym c.has_good_code.ensures ∙ c.if-not-has_good_code.false) (sym c.has_good_parameter.ensures ∙ c.if-not-has_good_parameter.true)

pub contents_len-len-requires : goal.contents_len-len-requires
contents_len-len-requires c = has_code-takes _ (sym c.has_good_code.ensures ∙ c.if-not-has_good_code.false)

pub returns-then-element_len-gt-MAX_LENGTH-clause-err : goal.returns-then-element_len-gt-MAX_LENGTH-clause-err
returns-then-element_len-gt-MAX_LENGTH-clause-err c =
    due_length (component_parts c.args.component.now) c.contents_len-len.result c.element_len.result (sym c.has_good_code.ensures ∙ c.if-not-has_good_code.false) (sym c.has_good_parameter.ensures ∙ c.if-not-has_good_parameter.false) c.contents_len-len.ensures.value c.element_len.ensures c.if-element_len-gt-MAX_LENGTH.true

pub returns-clause-ok : goal.returns-clause-ok
returns-clause-ok c =
    let can = can_write (component_parts c.args.component.now) c.contents_len-len.result c.element_len.result (sym c.has_good_code.ensures ∙ c.if-not-has_good_code.false) (sym c.has_good_parameter.ensures ∙ c.if-not-has_good_parameter.false) c.contents_len-len.ensures.value c.element_len.ensures c.if-element_len-gt-MAX_LENGTH.false in
    (can, c.contents_len-len.ensures.value)
