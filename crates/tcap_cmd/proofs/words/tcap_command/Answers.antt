use Rattle.std.proofs.Common.{rules, ap, ap₂, codes, ◌≡◌, ◌∙◌}
use Rattle.std.proofs.lemmas.Result.{IfOk-weaker}
use Rattle.clap.specs.Words.{App, app_of, with_subcommand, with_rule, new_app}
use Rattle.tcap_cmd.specs.CommandLine.{bare_app, app_of_hex, that_reads, with_hex, without_help}
use Rattle.tcap_cmd.proofs.words.tcap_command.Goals as goal

pub returns : goal.returns
returns c =
    let bare_show : app_of c.disable_help_flag.result ≡ without_help (new_app (codes "show")) = search (rules, c.new.ensures.app, c.disable_help_flag.ensures) in
    let show_is : app_of c.in_ok-show.show ≡ with_hex (codes "show") = c.in_ok-show.ensures.shape c.hex_argument.ensures.global ∙ ap₂ with_rule bare_show c.hex_argument.ensures.rule in
    let bare_check : app_of c.disable_help_flag-2.result ≡ without_help (new_app (codes "check")) = search (rules, c.new-2.ensures.app, c.disable_help_flag-2.ensures) in
    let check_is : app_of c.in_ok-check.check ≡ with_hex (codes "check") = c.in_ok-check.ensures.shape c.hex_argument-2.ensures.global ∙ ap₂ with_rule bare_check c.hex_argument-2.ensures.rule in
    let top_is : app_of c.subcommand_required-tcap.result ≡ bare_app = search rules in
    let one : app_of c.in_ok-subcommand.field-0 ≡ with_subcommand bare_app (with_hex (codes "show")).top = c.in_ok-subcommand.ensures.shape (search (rules, c.new.ensures.local, c.disable_help_flag.ensures, c.in_ok-show.ensures.globals, c.hex_argument.ensures.global)) ∙ ap₂ with_subcommand top_is (ap (λ (a : App). a.top) show_is) in
    let two : app_of c.in_ok-subcommand-2.field-0 ≡ with_subcommand (with_subcommand bare_app (with_hex (codes "show")).top) (with_hex (codes "check")).top = c.in_ok-subcommand-2.ensures.shape (search (rules, c.new-2.ensures.local, c.disable_help_flag-2.ensures, c.in_ok-check.ensures.globals, c.hex_argument-2.ensures.global)) ∙ ap₂ with_subcommand one (ap (λ (a : App). a.top) check_is) in
    let bare_canon : app_of c.disable_help_flag-3.result ≡ without_help (new_app (codes "canon")) = search (rules, c.new-3.ensures.app, c.disable_help_flag-3.ensures) in
    let canon_is : app_of c.in_ok-canon.canon ≡ with_hex (codes "canon") = c.in_ok-canon.ensures.shape c.hex_argument-3.ensures.global ∙ ap₂ with_rule bare_canon c.hex_argument-3.ensures.rule in
    let three : app_of c.in_ok-subcommand-3.field-0 ≡ app_of_hex = c.in_ok-subcommand-3.ensures.shape (search (rules, c.new-3.ensures.local, c.disable_help_flag-3.ensures, c.in_ok-canon.ensures.globals, c.hex_argument-3.ensures.global)) ∙ ap₂ with_subcommand two (ap (λ (a : App). a.top) canon_is) in
    let play_is : app_of c.disable_help_flag-play.result ≡ that_reads (codes "play") = search (rules, c.new-4.ensures.app, c.disable_help_flag-play.ensures) in
    let four : app_of c.in_ok-subcommand-4.field-0 ≡ with_subcommand app_of_hex (that_reads (codes "play")).top = c.in_ok-subcommand-4.ensures.shape (search (rules, c.new-4.ensures.local, c.disable_help_flag-play.ensures)) ∙ ap₂ with_subcommand three (ap (λ (a : App). a.top) play_is) in
    let stream_is : app_of c.disable_help_flag-stream.result ≡ that_reads (codes "stream") = search (rules, c.new-5.ensures.app, c.disable_help_flag-stream.ensures) in
    IfOk-weaker c.subcommand-5.result _ _ (λ m h. h.shape (search (rules, c.new-5.ensures.local, c.disable_help_flag-stream.ensures)) ∙ ap₂ with_subcommand four (ap (λ (a : App). a.top) stream_is)) c.subcommand-5.ensures
