use Rattle.std.proofs.Common.{◌∙◌, ap, sym, string_bytes}
use Rattle.tcap_living.specs.LiveLine.{line_of_three}
use Rattle.tcap_living.proofs.LineDeeds.{does_as}
use Rattle.tcap_living.proofs.WordNumbers.{three_words, word_at}
use Rattle.tcap_living.proofs.by_words.act_on_three.Goals as goal

pub returns : goal.returns
returns g c =
    let w = word_at c.args.words.now in
    does_as c.args.format c.act_if.result _ _ _ _ _ (string_bytes c.args.text.now) (string_bytes c.act_if.new.text)
    (c.line_of_three-line.ensures ∙ (ap (line_of_three (w 0) (w 1)) c.in_ok-last.ensures ∙ sym (three_words c.args.words.now c.requires))) c.act_if.ensures
