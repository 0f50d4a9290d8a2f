use Rattle.std.proofs.Common.{◌∙◌, ap, sym, string_bytes}
use Rattle.tcap_living.specs.LiveLine.{line_of_five}
use Rattle.tcap_living.proofs.LineDeeds.{does_as}
use Rattle.tcap_living.proofs.WordNumbers.{five_words, word_at}
use Rattle.tcap_living.proofs.by_words.act_on_five.Goals as goal

pub returns : goal.returns
returns g c =
    let w = word_at c.args.words.now in
    does_as c.args.format c.act_if.result _ _ _ _ _ (string_bytes c.args.text.now) (string_bytes c.act_if.new.text)
    (c.line_of_five-line.ensures ∙ (ap (λ word. line_of_five (w 0) (w 1) (w 2) word c.in_ok-last.last.text.now) c.in_ok-fourth.ensures ∙ (ap (line_of_five (w 0) (w 1) (w 2) (w 3)) c.in_ok-last.ensures ∙ sym (five_words c.args.words.now c.requires)))) c.act_if.ensures
