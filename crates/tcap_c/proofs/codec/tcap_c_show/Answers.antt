use Rattle.tcap_text.specs.Show.{show_is_good, show_text_of}
use Rattle.tcap_c.proofs.codec.tcap_c_show.Goals as goal

pub returns : goal.returns
returns c =
    let bytes = c.args.message.now in
    c.answer_text.ensures (show_text_of bytes) (show_is_good bytes) c.show_text.ensures.text c.show_text.ensures.good
