use Rattle.std.proofs.Common.{rules, ◌++◌, codes, string_bytes}
use Rattle.std.specs.Fmt.{decimal}
use Rattle.hex.specs.Hex.{encode_lower}
use Rattle.tcap_pdu.specs.DialogueSpelling.{result_number}
use Rattle.tcap_pdu.specs.DialogueViews.{source}
use Rattle.tcap_words.specs.DialogueText.{diagnostic_words}
use Rattle.tcap_words.specs.Text.{answer_words, octets_words}
use Rattle.tcap_words.proofs.TextSteps.{after_four, begins_before, begins_on_err}
use Rattle.tcap_words.proofs.dialogue_text.add_response.Goals as goal

pub returns-clause-ok : goal.returns-clause-ok
returns-clause-ok g c =
    after_four c.add_answer.result (string_bytes c.args.text.now) (string_bytes c.add_opening.new.text) (string_bytes c.add_answer.new.text)
    (codes "aare version ") (answer_words c.args.version1) (codes " context ") (encode_lower c.args.context.now)
    (codes " result " ++ (decimal (result_number c.args.accepted) ++ (codes " " ++ (diagnostic_words (source c.args.diagnostic) ++ (codes " info " ++ octets_words c.args.info.now)))))
    (search rules) c.add_answer.ensures.ok

pub returns-clause-kept : goal.returns-clause-kept
returns-clause-kept g c =
    begins_on_err c.add_answer.result (string_bytes c.args.text.now) (string_bytes c.add_opening.new.text) (string_bytes c.add_answer.new.text) (begins_before _ _ _ c.in_ok-add_opening.ensures.ok) c.add_answer.ensures.kept
