use Rattle.std.proofs.Common.{◌∙◌, ap, sym, string_bytes}
use Rattle.tcap_living.specs.LiveLine.{line_of_four}
use Rattle.tcap_living.proofs.LineDeeds.{does_as}
use Rattle.tcap_living.proofs.WordNumbers.{four_words, word_at}
use Rattle.tcap_living.proofs.by_words.act_on_four.Goals as goal

pub returns : goal.returns
returns g c =
    let w = word_at c.args.words.now in
    does_as c.args.format c.act_if.result _ _ _ _ _ (string_bytes c.args.text.now) (string_bytes c.act_if.new.text)
    (c.line_of_four-line.ensures ∙ (ap (λ word. line_of_four (w 0) (w 1) word c.in_ok-last.last.text.now) c.in_ok-third.ensures ∙ (ap (line_of_four (w 0) (w 1) (w 2)) c.in_ok-last.ensures ∙ sym (four_words c.args.words.now c.requires)))) c.act_if.ensures
