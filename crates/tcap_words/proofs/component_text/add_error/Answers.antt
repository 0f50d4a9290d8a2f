use Rattle.std.proofs.Common.{arith, string_bytes}
use Rattle.std.proofs.lemmas.Grind.{common_steps}
use Rattle.tcap_words.proofs.TextSteps.{begins_on_err}
use Rattle.tcap_words.proofs.component_text.add_error.Goals as goal

pub returns-clause-kept : goal.returns-clause-kept
returns-clause-kept g c =
    begins_on_err c.add_code_and_parameter.result (string_bytes c.args.text.now) (string_bytes c.push_str-2.new.self) (string_bytes c.add_code_and_parameter.new.text) (grind (arith, common_steps)) c.add_code_and_parameter.ensures.kept
