use Rattle.std.proofs.Common.{inl}
use Rattle.std.proofs.lemmas.Result.{err_from_is_err_and}
use Rattle.tcap_primitives.specs.RequestViews.{request_view}
use Rattle.tcap_station.proofs.LimitLemmas.{none-above}
use Rattle.tcap_station.proofs.station.dialogue_requests.prepare.Goals as goal

pub returns-in_err-length-clause-err : goal.returns-in_err-length-clause-err
returns-in_err-length-clause-err g c =
    let p = err_from_is_err_and c.from_residual.result c.from_residual.ensures.1 in rw (p.1, p.2) (inl c.in_err-length.ensures.err)

pub returns-then-has_place-clause-within : goal.returns-then-has_place-clause-within
returns-then-has_place-clause-within g c =
    none-above c.args.max_message c.if-max_message-ge-MAX_MESSAGE.true c.args.engine.now c.args.dialogue (request_view c.args.request.now) c.requires
