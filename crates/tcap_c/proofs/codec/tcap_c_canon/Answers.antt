use Rattle.tcap_text.specs.Canonical.{canon_is_good, canon_text_of}
use Rattle.tcap_c.proofs.codec.tcap_c_canon.Goals as goal

pub returns : goal.returns
returns c =
    let bytes = c.args.message.now in
    c.answer_text.ensures (canon_text_of bytes) (canon_is_good bytes) c.canon_text.ensures.text c.canon_text.ensures.good
