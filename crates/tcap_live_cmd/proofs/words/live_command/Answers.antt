use Rattle.std.proofs.Common.{ap₂, codes, ◌≡◌, ◌∙◌}
use Rattle.std.proofs.lemmas.Result.{IfOk-weaker}
use Rattle.clap.specs.Words.{app_of, with_rule}
use Rattle.tcap_live_cmd.specs.CommandLine.{app_of_counters, app_of_format, app_of_limits, bare_app, option_rule}
use Rattle.tcap_live_cmd.proofs.words.live_command.Goals as goal

pub returns : goal.returns
returns c =
    let one : app_of c.in_ok-arg.field-0 ≡ with_rule bare_app (option_rule (codes "dialogues")) = c.in_ok-arg.ensures.shape c.option.ensures.global ∙ ap₂ with_rule c.bare_command-live.ensures c.option.ensures.rule in
    let two = c.in_ok-arg-2.ensures.shape c.option-2.ensures.global ∙ ap₂ with_rule one c.option-2.ensures.rule in
    let three : app_of c.in_ok-arg-3.field-0 ≡ app_of_limits = c.in_ok-arg-3.ensures.shape c.option-3.ensures.global ∙ ap₂ with_rule two c.option-3.ensures.rule in
    let four = c.in_ok-arg-4.ensures.shape c.option-4.ensures.global ∙ ap₂ with_rule three c.option-4.ensures.rule in
    let five : app_of c.in_ok-arg-5.field-0 ≡ app_of_counters = c.in_ok-arg-5.ensures.shape c.option-5.ensures.global ∙ ap₂ with_rule four c.option-5.ensures.rule in
    let six : app_of c.in_ok-arg-6.field-0 ≡ app_of_format = c.in_ok-arg-6.ensures.shape c.flag.ensures.global ∙ ap₂ with_rule five c.flag.ensures.rule in
    let seven = c.in_ok-arg-7.ensures.shape c.flag-2.ensures.global ∙ ap₂ with_rule six c.flag-2.ensures.rule in
    IfOk-weaker c.arg-8.result _ _ (λ m h. h.shape c.flag-3.ensures.global ∙ ap₂ with_rule seven c.flag-3.ensures.rule) c.arg-8.ensures
