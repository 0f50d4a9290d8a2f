use Rattle.std.proofs.Common.{◌≡◌, ◌∙◌, ◌++◌, ◌∷◌, [], sym, ap, false}
use Rattle.tcap_play.specs.Pieces.{pieces_left, words_of}
use Rattle.tcap_lines.specs.Reading.{first_fault, walk}
use Rattle.tcap_lines.specs.Table.{is_listed, names_of}
use Rattle.tcap_lines.specs.TableViews.{table_view}
use Rattle.tcap_lines.proofs.TableLemmas.{cut, first_else, unlisted}
use Rattle.tcap_lines.proofs.reading.first_fault.Goals as goal

pub returns-else-is_listed : goal.returns-else-is_listed
returns-else-is_listed c =
    let table = table_view c.args.table.now in
    let first = c.first_piece.result.0.now in
    let rest = pieces_left 32 c.first_piece.result.1 in
    let names = names_of table.alone in
    let no : is_listed table.sides first ≡ false = sym c.is_listed.ensures ∙ c.if-is_listed.false in
    let words : words_of c.args.line.now ≡ first ∷ rest = cut c.args.line.now first c.first_piece.result.1 c.first_piece.ensures.cut in
    c.form_fault.ensures [] (table.sides ++ names) (unlisted table.sides names first no)
    ∙ (ap (λ w. walk 1 [] w (first ∷ rest)) (sym (first_else table first rest no)) ∙ ap (first_fault table) (sym words))
