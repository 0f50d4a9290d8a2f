use Rattle.std.proofs.Common.{◌∙◌, ap, string_bytes}
use Rattle.tcap_play.specs.ScriptLine.{line_of}
use Rattle.tcap_play.specs.LineViews.{texts_of}
use Rattle.tcap_play.proofs.LineActs.{acts_as}
use Rattle.tcap_play.proofs.play.act_by.Goals as goal

pub returns : goal.returns
returns g c =
    acts_as c.act_on.result _ _ c.args.a.now c.args.b.now c.act_on.new.a c.act_on.new.b (string_bytes c.args.text.now) (string_bytes c.act_on.new.text)
    (ap (λ words. line_of (texts_of words)) c.as_slice.ensures.value ∙ ap line_of c.in_ok-cut_words.ensures) c.act_on.ensures
