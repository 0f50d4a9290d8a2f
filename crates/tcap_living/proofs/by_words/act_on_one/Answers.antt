use Rattle.std.proofs.Common.{◌∙◌, sym, string_bytes}
use Rattle.tcap_living.proofs.LineDeeds.{does_as}
use Rattle.tcap_living.proofs.WordNumbers.{one_words}
use Rattle.tcap_living.proofs.by_words.act_on_one.Goals as goal

pub returns : goal.returns
returns g c =
    does_as c.args.format c.act_if.result _ _ _ _ _ (string_bytes c.args.text.now) (string_bytes c.act_if.new.text)
    (c.line_of_one-line.ensures ∙ sym (one_words c.args.words.now c.requires)) c.act_if.ensures
