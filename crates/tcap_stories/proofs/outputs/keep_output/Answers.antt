use Rattle.std.proofs.Common.{rules, ◌≡◌, ◌∙◌, ◌++◌, ◌∷◌, [], ap}
use Rattle.tcap_play.specs.Pieces.{pieces, pieces_left}
use Rattle.tcap_stories.proofs.PieceLemmas.{cut, kept_more}
use Rattle.tcap_stories.proofs.outputs.keep_output.Goals as goal

pub returns-clause-kept : goal.returns-clause-kept
returns-clause-kept g c =
    let lines = c.args.lines.now in
    let first = c.first_piece.result.0.now in
    let cuts : pieces 10 lines ≡ first ∷ pieces 10 c.in-Some.more.now = cut 10 lines first c.first_piece.result.1 c.first_piece.ensures.cut ∙ ap (λ r. first ∷ pieces_left 10 r) c.in-Some.is in
    let added : c.push_reserved.new.self.items ≡ c.args.outputs.now.items ++ c.in_ok-told.field-0 ∷ [] = search rules in
    kept_more c.args.outputs.now.items c.push_reserved.new.self.items c.in_ok-told.field-0 lines first c.in-Some.more.now added c.in_ok-told.ensures cuts
