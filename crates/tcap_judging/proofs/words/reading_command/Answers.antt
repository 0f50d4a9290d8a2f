use Rattle.std.proofs.Common.{ap₂, codes, ◌≡◌, ◌∙◌}
use Rattle.std.proofs.lemmas.Result.{IfOk-weaker}
use Rattle.clap.specs.Words.{app_of, with_rule}
use Rattle.tcap_judging.specs.CommandLine.{bare_app, option_rule}
use Rattle.tcap_judging.proofs.words.reading_command.Goals as goal

pub returns : goal.returns
returns c =
    let one : app_of c.in_ok-arg.field-0 ≡ with_rule bare_app (option_rule (codes "help")) = c.in_ok-arg.ensures.shape c.option.ensures.global ∙ ap₂ with_rule c.bare_command.ensures c.option.ensures.rule in
    let two = c.in_ok-arg-2.ensures.shape c.option-2.ensures.global ∙ ap₂ with_rule one c.option-2.ensures.rule in
    IfOk-weaker c.arg-3.result _ _ (λ m h. h.shape c.option-3.ensures.global ∙ ap₂ with_rule two c.option-3.ensures.rule) c.arg-3.ensures
