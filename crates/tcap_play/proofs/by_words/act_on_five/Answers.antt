use Rattle.std.proofs.Common.{◌∙◌, ap, sym, string_bytes}
use Rattle.tcap_play.specs.ScriptLine.{line_of_five}
use Rattle.tcap_play.proofs.LineActs.{acts_as}
use Rattle.tcap_play.proofs.WordCounts.{five_words, word_at}
use Rattle.tcap_play.proofs.by_words.act_on_five.Goals as goal

pub returns : goal.returns
returns g c =
    let w = word_at c.args.words.now in
    acts_as c.act_if.result _ _ c.args.a.now c.args.b.now c.act_if.new.a c.act_if.new.b (string_bytes c.args.text.now) (string_bytes c.act_if.new.text)
    (c.line_of_five-line.ensures ∙ (ap (λ word. line_of_five (w 0) (w 1) (w 2) word c.in_ok-last.last.text.now) c.in_ok-word.ensures ∙ (ap (line_of_five (w 0) (w 1) (w 2) (w 3)) c.in_ok-last.ensures ∙ sym (five_words c.args.words.now c.requires)))) c.act_if.ensures
