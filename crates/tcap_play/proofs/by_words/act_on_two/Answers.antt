use Rattle.std.proofs.Common.{◌∙◌, sym, string_bytes}
use Rattle.tcap_play.proofs.LineActs.{acts_as}
use Rattle.tcap_play.proofs.WordCounts.{two_words}
use Rattle.tcap_play.proofs.by_words.act_on_two.Goals as goal

pub returns : goal.returns
returns g c =
    acts_as c.act_if.result _ _ c.args.a.now c.args.b.now c.act_if.new.a c.act_if.new.b (string_bytes c.args.text.now) (string_bytes c.act_if.new.text)
    (c.line_of_two-line.ensures ∙ sym (two_words c.args.words.now c.requires)) c.act_if.ensures
