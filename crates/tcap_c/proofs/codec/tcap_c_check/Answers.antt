use Rattle.tcap_text.specs.Show.{check_text_of, show_is_good}
use Rattle.tcap_c.proofs.codec.tcap_c_check.Goals as goal

pub returns : goal.returns
returns c =
    let bytes = c.args.message.now in
    c.answer_text.ensures (check_text_of bytes) (show_is_good bytes) c.check_text.ensures.text c.check_text.ensures.good
