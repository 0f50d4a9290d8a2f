use Rattle.std.proofs.Common.{string_bytes}
use Rattle.tcap_words.proofs.TextSteps.{begins_before, begins_on_err}
use Rattle.tcap_words.proofs.portions.add_dialogue_lines.Goals as goal

pub returns-in_ok-add_number-in-Some-clause-kept : goal.returns-in_ok-add_number-in-Some-clause-kept
returns-in_ok-add_number-in-Some-clause-kept g c =
    begins_on_err c.add_portion.result (string_bytes c.args.text.now) (string_bytes c.add_number.new.text) (string_bytes c.add_portion.new.text) (begins_before _ _ _ c.in_ok-add_number-in-Some.ensures.ok) c.add_portion.ensures.kept
