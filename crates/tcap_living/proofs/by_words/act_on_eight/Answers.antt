use Rattle.std.proofs.Common.{◌∙◌, ap, sym, string_bytes}
use Rattle.tcap_play.specs.ScriptLine.{invoke_request_of}
use Rattle.tcap_living.specs.LiveLine.{line_of_eight}
use Rattle.tcap_living.proofs.LineDeeds.{does_as}
use Rattle.tcap_living.proofs.WordNumbers.{eight_words, word_at}
use Rattle.tcap_living.proofs.by_words.act_on_eight.Goals as goal

pub returns : goal.returns
returns g c =
    let w = word_at c.args.words.now in
    does_as c.args.format c.act_if.result _ _ _ _ _ (string_bytes c.args.text.now) (string_bytes c.act_if.new.text)
    (c.line_of_eight-line.ensures ∙ (ap (line_of_eight (w 0) (w 1)) (c.invoke_request-request.ensures ∙ ap (invoke_request_of (w 2) (w 3) (w 4) (w 5) (w 6)) c.in_ok-last.ensures) ∙ sym (eight_words c.args.words.now c.requires))) c.act_if.ensures
