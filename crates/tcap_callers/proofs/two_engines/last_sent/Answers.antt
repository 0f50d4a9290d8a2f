use Rattle.std.proofs.Common.{◌∙◌, sym, ap, subst, option_copied, Some, length, ◌-◌}
use Rattle.std.proofs.lemmas.Option.{IfSome_then}
use Rattle.tcap_engine.specs.EventViews.{answers_view}
use Rattle.tcap_callers.specs.TwoEngines.{IsSentTo}
use Rattle.tcap_callers.proofs.BothLemmas.{sent-at}
use Rattle.tcap_callers.proofs.two_engines.last_sent.Goals as goal

pub returns : goal.returns
returns g c =
    let answers = answers_view c.args.answers.now in
    let sent = sent-at c.args.answers.now (length c.args.answers.now - 1) c.in-Outputs.outputs c.deref.result.now 0 c.in-Send.to c.in-Send.bytes c.as_slice.result.now
    (sym c.last.ensures.value ∙ ap option_copied (c.in_ok-outputs.was) ∙ ap Some c.in-Outputs.is)
    c.deref.ensures.value
    (sym c.first.ensures.value ∙ ap option_copied (c.in_ok-to.was) ∙ ap Some c.in-Send.is)
    c.as_slice.ensures.value in
    IfSome_then c.octets_for.result c.octets_for.ensures
    (λ octets is. subst (λ a. IsSentTo a octets.now answers) is.0 (subst (λ b. IsSentTo c.in-Send.to b answers) (sym is.1) sent))
