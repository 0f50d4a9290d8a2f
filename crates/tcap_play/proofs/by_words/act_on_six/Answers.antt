use Rattle.std.proofs.Common.{◌∙◌, ap, sym, string_bytes, codes}
use Rattle.std.proofs.lemmas.Slice.Eq.{bytes_eq-Decides}
use Rattle.tcap_play.specs.ScriptLine.{line_of_six}
use Rattle.tcap_play.proofs.LineActs.{acts_as}
use Rattle.tcap_play.proofs.WordCounts.{six_words, word_at}
use Rattle.tcap_play.proofs.by_words.act_on_six.Goals as goal

pub returns-then-is : goal.returns-then-is
returns-then-is g c =
    let w = word_at c.args.words.now in
    let name = (bytes_eq-Decides (w 1) (codes "beginto")).0 (sym c.is.ensures ∙ c.if-is.true) in
    acts_as c.act_if.result _ _ c.args.a.now c.args.b.now c.act_if.new.a c.act_if.new.b (string_bytes c.args.text.now) (string_bytes c.act_if.new.text)
    (c.line_of_beginto-line.ensures (w 3) c.in_ok-to.ensures ∙ (ap (λ word. line_of_six (w 0) (codes "beginto") (w 2) (w 3) word c.in_ok-last.last.text.now) c.in_ok-word.ensures ∙ (ap (line_of_six (w 0) (codes "beginto") (w 2) (w 3) (w 4)) c.in_ok-last.ensures ∙ (ap (λ word. line_of_six (w 0) word (w 2) (w 3) (w 4) (w 5)) (sym name) ∙ sym (six_words c.args.words.now c.requires))))) c.act_if.ensures

pub returns : goal.returns
returns g c =
    let w = word_at c.args.words.now in
    acts_as c.act_if-else-is.result _ _ c.args.a.now c.args.b.now c.act_if-else-is.new.a c.act_if-else-is.new.b (string_bytes c.args.text.now) (string_bytes c.act_if-else-is.new.text)
    (c.line_of_six-line.ensures ∙ (ap (line_of_six (w 0) (w 1) (w 2) (w 3) (w 4)) c.in_ok-last.ensures ∙ sym (six_words c.args.words.now c.requires))) c.act_if-else-is.ensures
