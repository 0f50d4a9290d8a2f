use Rattle.std.proofs.Common.{◌≡◌, ◌∙◌, ◌∷◌, sym, ap, refl}
use Rattle.tcap_play.specs.Pieces.{pieces_left}
use Rattle.tcap_lines.specs.Reading.{walk}
use Rattle.tcap_lines.specs.Table.{names_of, wanted_by_name}
use Rattle.tcap_lines.specs.TableViews.{forms_view}
use Rattle.tcap_lines.proofs.TableLemmas.{cut}
use Rattle.tcap_lines.proofs.reading.side_fault.Goals as goal

pub returns : goal.returns
returns c before =
    let forms = forms_view c.args.forms.now in
    let name = c.first_piece.result.0.now in
    let more = c.first_piece.result.1 in
    let words : pieces_left 32 c.args.rest ≡ name ∷ pieces_left 32 more = ap (pieces_left 32) c.in-Some.is ∙ cut c.in-Some.octets.now name more c.first_piece.ensures.cut in
    c.form_fault.ensures before (names_of forms) refl ∙ sym (ap (λ w. walk 2 before (wanted_by_name forms w) w) words)
