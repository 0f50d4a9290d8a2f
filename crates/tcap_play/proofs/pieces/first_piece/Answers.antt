use Rattle.std.proofs.Common.{rules, ◌∙◌, ap, sym, ◌∷◌, List, ℕ, take}
use Rattle.tcap_play.specs.Pieces.{pieces}
use Rattle.tcap_play.proofs.FirstPieces.{one_piece, cut_piece, rest_behind}
use Rattle.tcap_play.proofs.pieces.first_piece.Goals as goal

abbrev behind : ℕ → List ℕ → List ℕ → List (List ℕ)
behind mark first rest = first ∷ pieces mark rest

pub returns-in-Some-clause-cut : goal.returns-in-Some-clause-cut
returns-in-Some-clause-cut c =
    let octets = c.args.octets.now in
    let place = c.in-Some.place in
    cut_piece c.args.mark octets place (search rules) (search rules) (search rules)
    ∙ ap (behind c.args.mark (take place octets)) (sym (rest_behind octets place))

pub returns-in-None-clause-cut : goal.returns-in-None-clause-cut
returns-in-None-clause-cut c = one_piece c.args.mark c.args.octets.now (search rules)
