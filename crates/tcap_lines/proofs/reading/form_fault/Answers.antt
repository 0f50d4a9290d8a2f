use Rattle.std.proofs.Common.{◌≡◌, ◌∙◌, ◌+◌, sym, ap, true, false, is_some, Some, None}
use Rattle.tcap_play.specs.Pieces.{pieces_left}
use Rattle.tcap_lines.specs.Reading.{at_word, walk}
use Rattle.tcap_lines.specs.Table.{is_listed, wanted_behind, words_named}
use Rattle.tcap_lines.specs.TableViews.{forms_view}
use Rattle.tcap_lines.proofs.TableLemmas.{name_read, name_wrong, named_is, some_fault}
use Rattle.tcap_lines.proofs.reading.form_fault.Goals as goal

pub returns-in-Some : goal.returns-in-Some
returns-in-Some c before names same =
    let name = c.args.name.now in
    let forms = forms_view c.args.forms.now in
    let rest = pieces_left 32 c.args.rest in
    let is : words_named name forms ≡ Some c.in-Some.words.now = sym c.in-Some.ensures in
    let listed : is_listed names name ≡ true = same ∙ (named_is name forms ∙ ap is_some is) in
    c.words_fault.ensures
    ∙ (ap (λ w. walk (c.args.number + 1) name (wanted_behind w) rest) (sym is) ∙ sym (name_read c.args.number before names (wanted_behind (words_named name forms)) name rest listed))

pub returns-in-None : goal.returns-in-None
returns-in-None c before names same =
    let name = c.args.name.now in
    let forms = forms_view c.args.forms.now in
    let is : words_named name forms ≡ None = sym c.in-None.ensures in
    let unlisted : is_listed names name ≡ false = same ∙ (named_is name forms ∙ ap is_some is) in
    ap (λ f. some_fault (at_word c.args.number f)) c.unnamed.ensures
    ∙ sym (name_wrong c.args.number before names (wanted_behind (words_named name forms)) name (pieces_left 32 c.args.rest) unlisted)
