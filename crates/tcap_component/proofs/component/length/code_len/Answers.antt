use Rattle.std.proofs.Common.{length, sym, ◌∙◌, ap, arith, subst}
use Rattle.ber_core.specs.Written.{written_field}
use Rattle.ber_core.proofs.CallerLemmas.{length-written, element_length-most}
use Rattle.tcap_component.specs.declared.component.Code.{Code}
use Rattle.tcap_component.specs.Component.{code_field}
use Rattle.tcap_component.specs.Views.{code_parts}
use Rattle.tcap_component.specs.Written.{CanCode}
use Rattle.tcap_component.proofs.component.length.code_len.Goals as goal

pub returns-in-Global-clause-value : goal.returns-in-Global-clause-value
returns-in-Global-clause-value c =
    c.element_len.ensures ∙ sym (ap (λ (x : Code). length (written_field (code_field (code_parts x)))) c.in-Global.is ∙ length-written 6 c.in-Global.octets.now)

pub returns-in-Global-clause-within : goal.returns-in-Global-clause-within
returns-in-Global-clause-within c =
    let is = subst (λ (x : Code). CanCode (code_parts x)) c.in-Global.is c.requires in
    let most = element_length-most (length c.in-Global.octets.now) in
    omega (arith, c.element_len.ensures, is.is_short, most)
