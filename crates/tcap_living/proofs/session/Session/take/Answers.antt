use Rattle.std.proofs.Common.{arith, ◌≤◌, ◌+◌, ◌++◌, length, subst, Some}
use Rattle.std.proofs.lemmas.Result.{err_from_is_err_and}
use Rattle.tcap_play.specs.Pieces.{left}
use Rattle.tcap_living.proofs.Takings.{IsTaking, begun, few-left, first-left, goes_on, not_begun, not_held}
use Rattle.tcap_living.proofs.session.Session.take.Goals as goal

pub returns-in_err-hold : goal.returns-in_err-hold
returns-in_err-hold g c start answered has =
    let p = err_from_is_err_and c.from_residual.result c.from_residual.ensures.1 in
    let cut = first-left 10 c.args.piece.now c.first_piece.result.0.now c.first_piece.result.1 c.first_piece.ensures.cut in
    rw (p.1, p.2) (not_begun start answered c.args.self.now c.args.piece.now (g.W.Write.contents c.args.writer.now) c.first_piece.result.0.now c.first_piece.result.1 _ cut c.in_err-hold.ensures)

pub loop-rest-init : goal.loop-rest-init
loop-rest-init g c =
    let cut = first-left 10 c.args.piece.now c.first_piece.result.0.now c.first_piece.result.1 c.first_piece.ensures.cut in (
      λ start answered has.
          begun start answered c.args.self.now c.args.piece.now (g.W.Write.contents c.args.writer.now) c.first_piece.result.0.now c.first_piece.result.1 c.hold.new.self has cut c.in_ok-hold.ensures,
      omega (arith, c.requires, c.in_ok-hold.ensures.is_number, few-left c.first_piece.result.1 (length c.args.piece.now) c.first_piece.ensures.shorter),
    )

pub returns-in_err-hold-2 : goal.returns-in_err-hold-2
returns-in_err-hold-2 g c start answered has =
    let p = err_from_is_err_and c.from_residual-in_err-hold-2.result c.from_residual-in_err-hold-2.ensures.1 in
    let more = c.first_piece-in-Some.result.1 in
    let cut = first-left 10 c.in-Some.octets.now c.first_piece-in-Some.result.0.now more c.first_piece-in-Some.ensures.cut in
    let before = g.W.Write.contents c.args.writer.now in
    let mid = g.W.Write.contents c.loop-rest.writer in
    let taking : IsTaking c.args.format start answered c.args.self.now.line.items c.args.piece.now (Some c.in-Some.octets) c.loop-rest.self before mid =
    subst (λ rest. IsTaking c.args.format start answered c.args.self.now.line.items c.args.piece.now rest c.loop-rest.self before mid) c.in-Some.is (c.loop-rest.invariant.0 start answered has) in
    rw (p.1, p.2) (not_held start answered c.args.self.now c.args.piece.now before c.in-Some.octets c.loop-rest.self mid taking c.answer.new.self _ (c.in_ok-answer.ensures.answered start (answered ++ taking.told) taking.has_answered) c.first_piece-in-Some.result.0.now more cut _ c.in_err-hold-2.ensures)

pub loop-rest-preserved : goal.loop-rest-preserved
loop-rest-preserved g c =
    let more = c.first_piece-in-Some.result.1 in
    let cut = first-left 10 c.in-Some.octets.now c.first_piece-in-Some.result.0.now more c.first_piece-in-Some.ensures.cut in
    let before = g.W.Write.contents c.args.writer.now in
    let mid = g.W.Write.contents c.loop-rest.writer in
    let room : c.loop-rest.self.number + left (Some c.in-Some.octets) ≤ 18446744073709551615 =
    subst (λ rest. c.loop-rest.self.number + left rest ≤ 18446744073709551615) c.in-Some.is c.loop-rest.invariant.1 in (
      λ start answered has.
          let taking : IsTaking c.args.format start answered c.args.self.now.line.items c.args.piece.now (Some c.in-Some.octets) c.loop-rest.self before mid =
          subst (λ rest. IsTaking c.args.format start answered c.args.self.now.line.items c.args.piece.now rest c.loop-rest.self before mid) c.in-Some.is (c.loop-rest.invariant.0 start answered has) in
          goes_on start answered c.args.self.now c.args.piece.now before c.in-Some.octets c.loop-rest.self mid taking c.answer.new.self _ (c.in_ok-answer.ensures.answered start (answered ++ taking.told) taking.has_answered) c.first_piece-in-Some.result.0.now more cut c.hold-in-Some.new.self c.in_ok-hold-2.ensures,
      omega (arith, room, c.in_ok-answer.ensures.number, c.in_ok-hold-2.ensures.is_number, few-left more (length c.in-Some.octets.now) c.first_piece-in-Some.ensures.shorter),
    )
