use Rattle.std.proofs.Common.{◌∙◌, subst, sym}
use Rattle.ber_core.proofs.CallerLemmas.{cut-stops}
use Rattle.ber_core.specs.Element.{depth_limit}
use Rattle.ber_core.specs.Fault.{ElementFault}
use Rattle.tcap_judging.proofs.StreamCuts.{message-first}
use Rattle.tcap_judging.proofs.stream_cut.first_element.Goals as goal

pub returns-in-Ok : goal.returns-in-Ok
returns-in-Ok c = message-first c.args.octets.now _ _ c.in-Ok.ensures.found.0 (sym c.front.ensures ∙ c.in-Ok.ensures.found.1)

pub returns-in-Err : goal.returns-in-Err
returns-in-Err c = cut-stops c.args.octets.now c.in-Err.why (subst (λ front. ElementFault depth_limit front c.in-Err.why) c.front.ensures c.in-Err.ensures.fault)
