use Rattle.std.proofs.Common.{◌++◌, [], refl, sym, ◌∙◌}
use Rattle.std.proofs.lemmas.Bool.{eqb-true}
use Rattle.std.proofs.lemmas.List.{nil_from_length}
use Rattle.std.proofs.lemmas.Result.{err_from_is_err_and}
use Rattle.ber_core.proofs.FeedSteps.{nothing_under_way}
use Rattle.ber_core.proofs.PieceSteps.{IsTold-next, IsTold-open, IsTold-done, IsTold-fault, IsTold-some, map-pushed}
use Rattle.ber_core.proofs.feed.pieces.cut_piece.Goals as goal

pub returns-in-Ok-Open-clause-ok : goal.returns-in-Ok-Open-clause-ok
returns-in-Ok-Open-clause-ok g c = IsTold-open c.args.begun.now c.args.piece.now _ c.loop-begun.scanner c.loop-begun.begun.now c.loop-begun.rest.now c.loop-begun.invariant c.in-Ok-Open.scanner (rw c.in-Ok-Open.field-0-is at c.in-Ok-Open.ensures)

pub returns-clause-ok : goal.returns-clause-ok
returns-clause-ok g c =
    let none = nil_from_length c.loop-begun.rest.now (eqb-true _ 0 (sym c.is_empty.ensures ∙ c.loop-begun-test.false)) in
    IsTold-done c.args.begun.now c.args.piece.now _ c.loop-begun.scanner c.loop-begun.begun.now c.loop-begun.rest.now c.loop-begun.invariant none

pub returns-in-Err-clause-ok : goal.returns-in-Err-clause-ok
returns-in-Err-clause-ok g c = IsTold-fault c.args.begun.now c.args.piece.now _ c.loop-begun.scanner c.loop-begun.begun.now c.loop-begun.rest.now c.loop-begun.invariant c.in-Err.fault c.in-Err.ensures

pub returns-in_err-message-in-Ok-Whole-clause-err : goal.returns-in_err-message-in-Ok-Whole-clause-err
returns-in_err-message-in-Ok-Whole-clause-err g c =
    let whole = (rw c.in-Ok-Whole.field-0-is at c.in-Ok-Whole.ensures) in
    let p = err_from_is_err_and c.from_residual.result c.from_residual.ensures.1 in
    rw p.1 (IsTold-some c.args.begun.now c.args.piece.now _ c.loop-begun.scanner c.loop-begun.begun.now c.loop-begun.rest.now c.loop-begun.invariant (c.loop-begun.begun.now ++ c.in-Ok-Whole.last.now) c.in-Ok-Whole.after.now whole.0)

pub returns-in_err-reserve-in-Ok-Whole-clause-err : goal.returns-in_err-reserve-in-Ok-Whole-clause-err
returns-in_err-reserve-in-Ok-Whole-clause-err g c =
    let whole = (rw c.in-Ok-Whole.field-0-is at c.in-Ok-Whole.ensures) in
    let p = err_from_is_err_and c.from_residual-in_err-reserve-in-Ok-Whole.result c.from_residual-in_err-reserve-in-Ok-Whole.ensures.1 in
    rw p.1 (IsTold-some c.args.begun.now c.args.piece.now _ c.loop-begun.scanner c.loop-begun.begun.now c.loop-begun.rest.now c.loop-begun.invariant (c.loop-begun.begun.now ++ c.in-Ok-Whole.last.now) c.in-Ok-Whole.after.now whole.0)

pub loop-begun-preserved : goal.loop-begun-preserved
loop-begun-preserved g c =
    let whole = (rw c.in-Ok-Whole.field-0-is at c.in-Ok-Whole.ensures) in
    let message = c.loop-begun.begun.now ++ c.in-Ok-Whole.last.now in
    IsTold-next c.args.begun.now c.args.piece.now _ c.loop-begun.scanner c.loop-begun.begun.now c.loop-begun.rest.now c.loop-begun.invariant message c.in-Ok-Whole.after.now _ c.new-scanner.result whole.0
    (map-pushed (λ m. m.items) c.loop-begun.messages.items c.reserve.new.self.items c.push_reserved.new.self.items c.in_ok-message-in-Ok-Whole.message message c.push_reserved.ensures.items c.in_ok-reserve-in-Ok-Whole.ensures.items c.in_ok-message-in-Ok-Whole.ensures.ok)
    (nothing_under_way c.new-scanner.result [] refl c.new-scanner.ensures)
