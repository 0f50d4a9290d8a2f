use Rattle.std.proofs.Common.{◌∙◌, ap, sym, string_bytes}
use Rattle.tcap_play.specs.ScriptLine.{line_of_nine, invoke_request_of}
use Rattle.tcap_play.proofs.LineActs.{acts_as}
use Rattle.tcap_play.proofs.WordCounts.{nine_words, word_at}
use Rattle.tcap_play.proofs.by_words.act_on_nine.Goals as goal

pub returns : goal.returns
returns g c =
    let w = word_at c.args.words.now in
    acts_as c.act_if.result _ _ c.args.a.now c.args.b.now c.act_if.new.a c.act_if.new.b (string_bytes c.args.text.now) (string_bytes c.act_if.new.text)
    (c.line_of_nine-line.ensures ∙ (ap (line_of_nine (w 0) (w 1) (w 2)) (c.invoke_request-request.ensures ∙ ap (invoke_request_of (w 3) (w 4) (w 5) (w 6) (w 7)) c.in_ok-last.ensures) ∙ sym (nine_words c.args.words.now c.requires))) c.act_if.ensures
