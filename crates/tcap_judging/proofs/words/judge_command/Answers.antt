use Rattle.std.proofs.Common.{ap₂, codes, ◌≡◌, ◌∙◌}
use Rattle.std.proofs.lemmas.Result.{IfOk-weaker}
use Rattle.clap.specs.Words.{app_of, with_rule}
use Rattle.tcap_judging.specs.CommandLine.{judge_app, line_app, option_rule}
use Rattle.tcap_judging.proofs.words.judge_command.Goals as goal

pub returns : goal.returns
unfolding judge_app
returns c =
    let one : app_of c.in_ok-arg.field-0 ≡ with_rule line_app (option_rule (codes "resync")) = c.in_ok-arg.ensures.shape c.option.ensures.global ∙ ap₂ with_rule c.in_ok-line_command.ensures c.option.ensures.rule in
    let two = c.in_ok-arg-2.ensures.shape c.option-2.ensures.global ∙ ap₂ with_rule one c.option-2.ensures.rule in
    let three = c.in_ok-arg-3.ensures.shape c.option-3.ensures.global ∙ ap₂ with_rule two c.option-3.ensures.rule in
    IfOk-weaker c.arg-4.result _ _ (λ m h. h.shape c.names_option.ensures.global ∙ ap₂ with_rule three c.names_option.ensures.rule) c.arg-4.ensures
