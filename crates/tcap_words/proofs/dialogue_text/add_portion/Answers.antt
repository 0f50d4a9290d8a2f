use Rattle.std.proofs.Common.{string_bytes}
use Rattle.tcap_words.proofs.TextSteps.{begins_before, begins_still}
use Rattle.tcap_words.proofs.dialogue_text.add_portion.Goals as goal

pub returns-in_err-add_pdu_words-in-Ok-clause-kept : goal.returns-in_err-add_pdu_words-in-Ok-clause-kept
returns-in_err-add_pdu_words-in-Ok-clause-kept g c =
    begins_still c.from_residual-in_err-add_pdu_words-in-Ok.result (string_bytes c.args.text.now) (string_bytes c.push_str.new.self) (string_bytes c.add_pdu_words.new.text) (begins_before _ _ _ c.in_ok-push_str.ensures.bytes) c.in_err-add_pdu_words-in-Ok.ensures.kept
