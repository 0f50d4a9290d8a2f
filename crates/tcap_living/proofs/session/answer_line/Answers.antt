use Rattle.std.proofs.Common.{◌≡◌, ◌∙◌, sym, ap, subst, false, string_bytes}
use Rattle.tcap_play.specs.LineViews.{texts_of}
use Rattle.tcap_play.specs.Pieces.{is_skipped, words_of}
use Rattle.tcap_living.specs.Asking.{DoesIf}
use Rattle.tcap_living.specs.LiveLine.{line_of}
use Rattle.tcap_living.proofs.LineDeeds.{answers_bad}
use Rattle.tcap_living.proofs.session.answer_line.Goals as goal

pub returns-clause-answered : goal.returns-clause-answered
returns-clause-answered g c h stands =
    let is : is_skipped c.args.line.now ≡ false = sym c.is_skipped.ensures ∙ c.if-is_skipped.false in
    let same : line_of (texts_of c.deref.result.now) ≡ line_of (words_of c.args.line.now) =
    ap (λ words. line_of (texts_of words)) c.deref.ensures.value ∙ ap line_of c.in_ok-cut_words.ensures in
    let does : DoesIf c.args.format h c.args.number (line_of (words_of c.args.line.now)) false c.act_on.new.engine (string_bytes c.args.text.now) (string_bytes c.act_on.new.text) =
    subst (λ line. DoesIf c.args.format h c.args.number line false c.act_on.new.engine (string_bytes c.args.text.now) (string_bytes c.act_on.new.text)) same (rw (sym c.if-branch.false) (c.in_ok-act_on.ensures h stands)) in
    answers_bad h c.args.number c.args.line.now c.act_on.new.engine (string_bytes c.args.text.now) (string_bytes c.act_on.new.text) (string_bytes c.add_bad.new.text) is does c.in_ok-add_bad.ensures
