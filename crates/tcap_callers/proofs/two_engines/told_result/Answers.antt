use Rattle.std.proofs.Common.{◌∙◌, sym, ap, option_copied, Some, length, ◌-◌}
use Rattle.std.specs.Option.{option_map}
use Rattle.tcap_component.specs.Views.{body_parts}
use Rattle.tcap_primitives.specs.OutputViews.{shown}
use Rattle.tcap_callers.proofs.BothLemmas.{result-at}
use Rattle.tcap_callers.proofs.two_engines.told_result.Goals as goal

pub returns : goal.returns
returns g c =
    result-at c.args.answers.now (length c.args.answers.now - 1) c.in-Outputs.outputs c.deref.result.now (length c.deref.result.now - 1)
    c.in_ok-dialogue.field-0.now c.in-ResultLast.dialogue c.in-ResultLast.number c.in-ResultLast.id (option_map body_parts c.in-ResultLast.body)
    (sym c.last.ensures.value ∙ ap option_copied (c.in_ok-outputs.was) ∙ ap Some c.in-Outputs.is)
    c.deref.ensures.value
    (sym c.last-2.ensures.value ∙ ap option_copied (c.in_ok-dialogue.was))
    (ap shown c.in-ResultLast.is)
