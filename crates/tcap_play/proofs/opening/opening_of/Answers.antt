use Rattle.std.proofs.Common.{rules, ◌≡◌, ◌∙◌, ◌∷◌, ap, subst, sym, true, false, ◌+◌, ◌≤◌, length}
use Rattle.tcap_play.specs.Opening.{opened_by, opening_from}
use Rattle.tcap_play.specs.Pieces.{is_skipped, left, pieces_left}
use Rattle.tcap_play.proofs.Openings.{cut-lines, from-first, from-skipped, left-passed, passed-all}
use Rattle.tcap_play.proofs.opening.opening_of.Goals as goal

pub returns-in-Some-2-clause-opening : goal.returns-in-Some-2-clause-opening
returns-in-Some-2-clause-opening g c =
    let line = c.first_piece.result.0.now in
    let more = pieces_left 10 c.first_piece.result.1 in
    let passed = c.loop-rest.passed in
    let lines : pieces_left 10 c.loop-rest.rest ≡ line ∷ more = ap (pieces_left 10) c.in-Some.is ∙ cut-lines c.in-Some.lines.now line c.first_piece.result.1 c.first_piece.ensures.cut in
    let first : is_skipped line ≡ false = search rules in
    sym (c.loop-rest.invariant.0 ∙ ap (opening_from passed) lines ∙ from-first passed line more first ∙ ap (opened_by passed line more) (sym c.in_ok-idle_ms.ensures.value ∙ c.in-Some-2.is))

pub returns-in-None-clause-opening : goal.returns-in-None-clause-opening
returns-in-None-clause-opening g c =
    let line = c.first_piece.result.0.now in
    let more = pieces_left 10 c.first_piece.result.1 in
    let passed = c.loop-rest.passed in
    let lines : pieces_left 10 c.loop-rest.rest ≡ line ∷ more = ap (pieces_left 10) c.in-Some.is ∙ cut-lines c.in-Some.lines.now line c.first_piece.result.1 c.first_piece.ensures.cut in
    let first : is_skipped line ≡ false = search rules in
    let is = c.loop-rest.invariant.0 ∙ ap (opening_from passed) lines ∙ from-first passed line more first ∙ ap (opened_by passed line more) (sym c.in_ok-idle_ms.ensures.value ∙ c.in-None.is) in
    rw lines (sym is)

pub loop-rest-preserved : goal.loop-rest-preserved
loop-rest-preserved g c =
    let line = c.first_piece.result.0.now in
    let more = pieces_left 10 c.first_piece.result.1 in
    let passed = c.loop-rest.passed in
    let lines : pieces_left 10 c.loop-rest.rest ≡ line ∷ more = ap (pieces_left 10) c.in-Some.is ∙ cut-lines c.in-Some.lines.now line c.first_piece.result.1 c.first_piece.ensures.cut in
    let skipped : is_skipped line ≡ true = search rules in (
      c.loop-rest.invariant.0 ∙ ap (opening_from passed) lines ∙ from-skipped passed line more skipped,
      left-passed passed c.first_piece.result.1 c.in-Some.lines (length c.args.script.now) c.first_piece.ensures.shorter (subst (λ rest. passed + left rest ≤ length c.args.script.now + 1) c.in-Some.is c.loop-rest.invariant.1),
    )

pub returns-clause-opening : goal.returns-clause-opening
returns-clause-opening g c =
    sym (c.loop-rest.invariant.0 ∙ ap (λ rest. opening_from c.loop-rest.passed (pieces_left 10 rest)) c.in_default.is ∙ passed-all c.loop-rest.passed)
